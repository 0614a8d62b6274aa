-- What is found of the atoms of a formula (own).
use Rattle.std.specs.Prelude.{◌≡◌, ◌||◌, Option, None, Some, if◌then◌else◌}
use Rattle.lash_model.specs.Formulas.{Linear, Formula}
use Rattle.term_substitution.specs.Limits.{coefficients_pass, constant_passes, some_atom}
use Rattle.term_substitution.specs.declared.errors.FormError.{FormError}
use Rattle.term_substitution.specs.declared.errors.FormError.TheVariants.{Coefficient, Constant}
use Rattle.term_substitution.specs.declared.judging.Passed.{Passed}

pub record IsAtomJudged (p : Passed) (a : Linear) : Type 0 where
  pub coefficients : p.coefficients ≡ coefficients_pass a
  pub constant : p.constant ≡ constant_passes a

-- of each limit it is known whether some atom passes it
pub record AreAtomsJudged (p : Passed) (f : Formula) : Type 0 where
  pub coefficients : p.coefficients ≡ some_atom coefficients_pass f
  pub constant : p.constant ≡ some_atom constant_passes f

-- what is found of either
abbrev pub either_of : Passed → Passed → Passed
either_of p q = record { coefficients = p.coefficients || q.coefficients; constant = p.constant || q.constant }

-- coefficients come before constants
abbrev pub atom_passed : Passed → Option FormError
atom_passed p = if p.coefficients then Some Coefficient else if p.constant then Some Constant else None
