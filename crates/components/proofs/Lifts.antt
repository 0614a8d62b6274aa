-- What a part has is lifted by one, if the part loops and has another colour.
use Rattle.std.proofs.Common.{◌≡◌, ℕ, zero, suc, ◌+◌, ◌-◌, ◌%◌, ◌<◌, ◌≤◌, Bool, true, false, refl, ap, ◌∙◌, sym, arith}
use Rattle.std.specs.Prelude.{nat_eq, not, if◌then◌else◌}
use Rattle.std.proofs.lemmas.Bool.{eq-eqb, eqb-true, cases_eq}
use mathlib.Core.Logic.{◌⊎◌, inl, inr}
use Rattle.part_laws.specs.Ranks.{even}
use Rattle.part_laws.proofs.Recolouring.{even-next}
use Rattle.components.specs.Rankings.{lift}

pub even_rest : (m : ℕ) → even m ≡ 1 - m % 2
even_rest zero = refl
even_rest (suc zero) = refl
even_rest (suc (suc m)) = omega (arith, even_rest m)

-- what is lifted is no less
pub lift_more : (loops : Bool) (colour m : ℕ) → m ≤ lift loops colour m
lift_more false colour m = omega arith
lift_more true colour m = by (nat_eq (even m) colour)
  where
    by : (b : Bool) → m ≤ (if not b then m + 1 else m)
    by true = omega arith
    by false = omega arith

pub lift_same : (loops : Bool) (colour m : ℕ) → even m ≡ colour → lift loops colour m ≡ m
lift_same false colour m e = refl
lift_same true colour m e = ap (λ b. if not b then m + 1 else m) (eq-eqb (even m) colour e)

pub lift_other : (colour m : ℕ) → (even m ≡ colour → ⊥) → lift true colour m ≡ m + 1
lift_other colour m ne = by (nat_eq (even m) colour) refl
  where
    by : (b : Bool) → nat_eq (even m) colour ≡ b → (if not b then m + 1 else m) ≡ m + 1
    by true e = absurd (ne (eqb-true (even m) colour e))
    by false e = refl

-- nor is it greater by more than one
pub lift_least : (loops : Bool) (colour m : ℕ) → lift loops colour m ≤ m + 1
lift_least false colour m = omega arith
lift_least true colour m = by (nat_eq (even m) colour)
  where
    by : (b : Bool) → (if not b then m + 1 else m) ≤ m + 1
    by true = omega arith
    by false = omega arith

-- if the part loops, it has the colour of what it is lifted to
pub lift_colour : (colour m : ℕ) → colour < 2 → colour ≡ even (lift true colour m)
lift_colour colour m lt = elim (cases_eq (even m) colour) [
  | inl e ↦ sym e ∙ ap even (sym (lift_same true colour m e))
  | inr ne ↦ omega (arith, lt, ne, even-next m, ap even (lift_other colour m ne), ap even (next m))
]
  where
    next : (m : ℕ) → m + 1 ≡ suc m
    next m = omega arith

-- it is what it was lifted from, or one more
pub lift_which : (loops : Bool) (colour m : ℕ) → (lift loops colour m ≡ m) ⊎ (lift loops colour m ≡ m + 1)
lift_which false colour m = inl refl
lift_which true colour m = elim (cases_eq (even m) colour) [ inl e ↦ inl (lift_same true colour m e) | inr ne ↦ inr (lift_other colour m ne) ]
