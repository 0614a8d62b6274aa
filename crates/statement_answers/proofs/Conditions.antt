-- What the crates of substitution and of compiling say of formulas alike, and choices of limits.
use Rattle.std.proofs.Common.{◌≡◌, ℕ, ◌+◌, Bool, true, false, Option, None, Some, cond, refl, ap}
use Rattle.std.specs.Prelude.{is_some}
use Rattle.std.proofs.lemmas.Bool.{true≢false}
use Rattle.lash_model.specs.Formulas.{Formula, Atom, Not, And, Or, Exists}
use Rattle.term_substitution.specs.Conditions.{IsOver as IsSubstitutedOver}
use Rattle.set_compile.specs.Conditions.{IsOver}

pub compiled_over : (m : ℕ) (f : Formula) → IsSubstitutedOver m f → IsOver m f
compiled_over m (Atom kind a) h = record { places = h.places; inside = h.inside }
compiled_over m (Not f) h = compiled_over m f h
compiled_over m (And f g) h = (compiled_over m f h.0, compiled_over m g h.1)
compiled_over m (Or f g) h = (compiled_over m f h.0, compiled_over m g h.1)
compiled_over m (Exists s f) h = compiled_over (m + 1) f h

pub substituted_over : (m : ℕ) (f : Formula) → IsOver m f → IsSubstitutedOver m f
substituted_over m (Atom kind a) h = record { places = h.places; inside = h.inside }
substituted_over m (Not f) h = substituted_over m f h
substituted_over m (And f g) h = (substituted_over m f h.0, substituted_over m g h.1)
substituted_over m (Or f g) h = (substituted_over m f h.0, substituted_over m g h.1)
substituted_over m (Exists s f) h = substituted_over (m + 1) f h

-- if a choice is none, the test failed, and what comes after it is none
pub record IsPassed {A : Type 0} (b : Bool) (o : Option A) : Type 0 where
  pub test : b ≡ false
  pub rest : o ≡ None

pub passed_over : {A : Type 0} (b : Bool) (x : A) (o : Option A) → cond b (Some x) o ≡ None → IsPassed b o
passed_over true x o e = absurd (true≢false (ap is_some e))
passed_over false x o e = record { test = refl; rest = e }
