-- The formula of the model that a formula of the program is.
use Rattle.lash_model.specs.Formulas as model
use Rattle.formula_core.specs.Variables.{sort_of}
use Rattle.formula_core.specs.declared.formula.Formula.{Formula}
use Rattle.formula_core.specs.declared.formula.Formula.TheVariants.{Le, Eq, Not', And', Or', Exists'}

abbrev pub formula_of : Formula → model.Formula
formula_of (Le a) = model.Atom model.AtMost a
formula_of (Eq a) = model.Atom model.Equal a
formula_of (Not' p f) = model.Not (formula_of f)
formula_of (And' p f q g) = model.And (formula_of f) (formula_of g)
formula_of (Or' p f q g) = model.Or (formula_of f) (formula_of g)
formula_of (Exists' s p f) = model.Exists (sort_of s) (formula_of f)
