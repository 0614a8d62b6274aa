-- Membership in a list of integers, by the test that look-ups make.
use Rattle.std.proofs.Common.{◌≡◌, ℕ, zero, suc, ◌+◌, ◌<◌, Bool, true, false, cond, ◌||◌, List, [], ◌∷◌, ◌++◌, length, arith, refl, ◌∙◌, sym, ap, subst, int_eq, to_z, of_z}
use Rattle.std.proofs.Math.IntN.{ℤ, pos}
use Rattle.std.specs.List.{list_any, slice_index_or}
use Rattle.std.proofs.lemmas.Int.{ints, to_z-of_z}
use mathlib.Core.Logic.{◌⊎◌, inl, inr}
use mir.Val.{SFits}
use mir.Syntax.{w128}
use Rattle.threshold_laws.specs.Thresholds.{Among}
use Rattle.linear_atoms.specs.Closing.{Met, entry}
use Rattle.linear_atoms.specs.Closing.Met.{known, added}

same_from_test : (x y : ℤ) → int_eq x y ≡ true → x ≡ y
same_from_test x y h = grind (arith, ints)

other_from_test : (x y : ℤ) → int_eq x y ≡ false → x ≡ y → ⊥
other_from_test x y h e = grind (arith, ints)

pub among_from_test : (z : ℤ) (ks : List ℤ) → list_any (int_eq z) ks ≡ true → Among z ks
among_from_test z [] h = cc
among_from_test z (k ∷ ks) h = elim (int_eq z k) as (λ b. int_eq z k ≡ b → b || list_any (int_eq z) ks ≡ true → (z ≡ k) ⊎ Among z ks) [
  | true ↦ λ e g. inl (same_from_test z k e)
  | false ↦ λ e g. inr (among_from_test z ks g)
] refl h

pub not_among_from_test : (z : ℤ) (ks : List ℤ) → list_any (int_eq z) ks ≡ false → Among z ks → ⊥
not_among_from_test z [] h a = a
not_among_from_test z (k ∷ ks) h (inl here) = elim (int_eq z k) as (λ b. int_eq z k ≡ b → b || list_any (int_eq z) ks ≡ false → ⊥) [
  | true ↦ λ e g. absurd (true_false g)
  | false ↦ λ e g. other_from_test z k e here
] refl h
  where
    true_false : true ≡ false → ⊥
    true_false e = cc
not_among_from_test z (k ∷ ks) h (inr there) = elim (int_eq z k) as (λ b. b || list_any (int_eq z) ks ≡ false → (list_any (int_eq z) ks ≡ false → ⊥) → ⊥) [
  | true ↦ λ g f. absurd (true_false g)
  | false ↦ λ g f. f g
] h (λ g. not_among_from_test z ks g there)
  where
    true_false : true ≡ false → ⊥
    true_false e = cc

-- a number that was passed on is itself
pub passed : (P : ℤ → Type 0) (z : ℤ) → SFits w128 z → P (to_z w128 (of_z w128 z)) → P z
passed P z fits h = subst P (to_z-of_z w128 z fits) h

pub met_known : (z : ℤ) (ks : List ℤ) → list_any (int_eq z) ks ≡ true → Met ks z ks
met_known z ks h = known (among_from_test z ks h) refl

pub met_added : (z : ℤ) (ks js : List ℤ) → SFits w128 z → list_any (int_eq z) ks ≡ false → js ≡ cond (list_any (int_eq (to_z w128 (of_z w128 z))) ks) ks (ks ++ to_z w128 (of_z w128 z) ∷ []) → Met ks z js
met_added z ks js fits h e = added (not_among_from_test z ks h) (passed (λ x. js ≡ cond (list_any (int_eq x) ks) ks (ks ++ x ∷ [])) z fits e ∙ ap (λ b. cond b ks (ks ++ z ∷ [])) h)

pub among_append : (z : ℤ) (ks js : List ℤ) → Among z ks → Among z (ks ++ js)
among_append z [] js a = absurd a
among_append z (k ∷ ks) js (inl here) = inl here
among_append z (k ∷ ks) js (inr there) = inr (among_append z ks js there)

pub among_last : (z : ℤ) (ks : List ℤ) → Among z (ks ++ z ∷ [])
among_last z [] = inl refl
among_last z (k ∷ ks) = inr (among_last z ks)

pub among_entry : (ks : List ℤ) (i : ℕ) → i < length ks → Among (entry ks i) ks
among_entry [] i h = absurd (omega arith)
among_entry (k ∷ ks) zero h = inl refl
among_entry (k ∷ ks) (suc i) h = inr (among_entry ks i (omega (arith, h)))

-- the place of a member
pub place_of : (z : ℤ) (ks : List ℤ) → Among z ks → (i : ℕ) × ((i < length ks) × (entry ks i ≡ z))
place_of z [] a = absurd a
place_of z (k ∷ ks) (inl here) = (0, (omega arith, sym here))
place_of z (k ∷ ks) (inr there) = let p = place_of z ks there in (suc p.0, (omega (arith, p.1.0), p.1.1))
