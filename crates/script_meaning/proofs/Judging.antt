-- What is found of the atoms of formulas, from that of their parts.
use Rattle.std.proofs.Common.{◌≡◌, List, [], ◌∷◌, refl, ap₂, ◌∙◌, sym, Bool, true, false, ◌||◌}
use Rattle.std.specs.Prelude.{IfOk, Result, Ok, Err, Option, None}
use Rattle.lash_model.specs.Formulas.{Linear, Formula, And, coefficient_sum}
use Rattle.script_grammar.specs.Views.{Relation, AtMost, Below, AtLeast, Above, Equal, Unequal, Quantifier, Exists, Forall}
use Rattle.script_syntax.specs.Trees.{SignedShape, DeclarationShape}
use Rattle.script_names.specs.Scopes.{Scope}
use Rattle.script_meaning.specs.Core.{compared, compared_atom, bound_all, called, truth}
use Rattle.term_substitution.specs.Limits.{some_atom, coefficients_pass, constant_passes}
use Rattle.term_substitution.specs.Passing.{IsAtomJudged, AreAtomsJudged, either_of}
use Rattle.term_substitution.specs.declared.judging.Passed.{Passed}

pub compared_some : (test : Linear → Bool) (scope : Scope) (a : List SignedShape) (r : Relation) (b : List SignedShape) → some_atom test (compared scope a r b) ≡ test (compared_atom scope a r b)
compared_some test scope a AtMost b = refl
compared_some test scope a Below b = refl
compared_some test scope a AtLeast b = refl
compared_some test scope a Above b = refl
compared_some test scope a Equal b = refl
compared_some test scope a Unequal b = refl

pub bound_some : (test : Linear → Bool) (q : Quantifier) (ds : List DeclarationShape) (f : Formula) → some_atom test (bound_all q ds f) ≡ some_atom test f
bound_some test q [] f = refl
bound_some test Exists (d ∷ ds) f = bound_some test Exists ds f
bound_some test Forall (d ∷ ds) f = bound_some test Forall ds f

pub compared_judged : (p : Passed) (scope : Scope) (a : List SignedShape) (r : Relation) (b : List SignedShape) → IsAtomJudged p (compared_atom scope a r b) → AreAtomsJudged p (compared scope a r b)
compared_judged p scope a r b h = record { coefficients = h.coefficients ∙ sym (compared_some coefficients_pass scope a r b); constant = h.constant ∙ sym (compared_some constant_passes scope a r b) }

pub bound_judged : (p : Passed) (q : Quantifier) (ds : List DeclarationShape) (f : Formula) → AreAtomsJudged p f → AreAtomsJudged p (bound_all q ds f)
bound_judged p q ds f h = record { coefficients = h.coefficients ∙ sym (bound_some coefficients_pass q ds f); constant = h.constant ∙ sym (bound_some constant_passes q ds f) }

-- of both together
pub both_judged : (p q : Passed) (f g : Formula) → AreAtomsJudged p f → AreAtomsJudged q g → AreAtomsJudged (either_of p q) (And f g)
both_judged p q f g h k = record { coefficients = ap₂ (λ x y. x || y) h.coefficients k.coefficients; constant = ap₂ (λ x y. x || y) h.constant k.constant }

pub none_of_truth : (b : Bool) → AreAtomsJudged (record { coefficients = false; constant = false }) (truth b)
unfolding coefficient_sum
none_of_truth true = record { coefficients = refl; constant = refl }
none_of_truth false = record { coefficients = refl; constant = refl }

pub bound_answered : {E : Type 0} (r : Result Passed E) (q : Quantifier) (ds : List DeclarationShape) (f : Formula) → IfOk r (λ p. AreAtomsJudged p f) → IfOk r (λ p. AreAtomsJudged p (bound_all q ds f))
bound_answered (Ok p) q ds f h = bound_judged p q ds f h
bound_answered (Err e) q ds f h = tt

-- no atom of a call without a formula passes a limit
pub uncalled_judged : (o : Option Formula) (scope : Scope) (ts : List (List SignedShape)) → o ≡ None → AreAtomsJudged (record { coefficients = false; constant = false }) (called o scope ts)
uncalled_judged o scope ts is = rw is (none_of_truth false)
