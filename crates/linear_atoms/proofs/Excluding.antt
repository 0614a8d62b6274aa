-- A heavy atom has no table within the limit: distinct thresholds are no more than all thresholds.
use Rattle.std.proofs.Common.{◌≡◌, ℕ, suc, ◌+◌, ◌*◌, ◌^◌, ◌<◌, ◌≤◌, List, [], ◌∷◌, length, arith, sym, ◌∙◌}
use Rattle.std.proofs.Math.IntN.{ℤ}
use Rattle.std.specs.List.{slice_index_or, AllPairs}
use mathlib.Core.Logic.{inl, inr}
use Rattle.lash_model.specs.Formulas.{Linear, Comparison}
use Rattle.lash_model.specs.Tables.{Table}
use Rattle.lasso_laws.specs.Windows.{window_seeds}
use Rattle.lasso_laws.specs.RealAtoms.{bound_states, IsRealAtomTable, IsHeavyRealAtom}
use Rattle.threshold_laws.specs.Thresholds.{seeds, letter_total, Among, AreThresholds, atom_cells, TooManyThresholds, IsAtomTable, IsHeavyAtom}

-- the list without a member
abbrev without : (z : ℤ) (ys : List ℤ) → Among z ys → List ℤ
without z [] a = []
without z (y ∷ ys) (inl here) = ys
without z (y ∷ ys) (inr there) = y ∷ without z ys there

without_length : (z : ℤ) (ys : List ℤ) (a : Among z ys) → length ys ≡ length (without z ys a) + 1
without_length z [] a = absurd a
without_length z (y ∷ ys) (inl here) = omega arith
without_length z (y ∷ ys) (inr there) = omega (arith, without_length z ys there)

among_without : (z x : ℤ) (ys : List ℤ) (a : Among z ys) → Among x ys → (z ≡ x → ⊥) → Among x (without z ys a)
among_without z x [] a other apart = absurd a
among_without z x (y ∷ ys) (inl here) (inl other) apart = absurd (apart (here ∙ sym other))
among_without z x (y ∷ ys) (inl here) (inr other) apart = other
among_without z x (y ∷ ys) (inr there) (inl other) apart = inl other
among_without z x (y ∷ ys) (inr there) (inr other) apart = inr (among_without z x ys there other apart)

-- a distinct list whose members are all in another is no longer
no_longer : (xs ys : List ℤ) → AllPairs (λ x y. x ≡ y → ⊥) xs → ((i : ℕ) (d : ℤ) → i < length xs → Among (slice_index_or xs i d) ys) → length xs ≤ length ys
no_longer [] ys distinct members = omega arith
no_longer (x ∷ xs) ys distinct members =
    let first = members 0 x (omega arith) in
    omega (
      arith,
      without_length x ys first,
      no_longer xs (without x ys first)
          (λ i j d less inside. distinct (suc i) (suc j) d (omega (arith, less)) (omega (arith, inside)))
          (λ i d inside. among_without x (slice_index_or xs i d) ys first (members (suc i) d (omega (arith, inside))) (distinct 0 (suc i) d (omega arith) (omega (arith, inside)))),
    )

times_grow : (a b w : ℕ) → a ≤ b → a * w ≤ b * w
times_grow a b w h = grind arith

-- if distinct thresholds are too many, all thresholds are
pub all_too_many : (r width : ℕ) (total : ℕ → ℤ) (seeds ts : List ℤ) (fracs limit : ℕ) → TooManyThresholds r width total seeds fracs limit → AreThresholds r width total seeds ts → limit < atom_cells width (length ts) fracs
all_too_many r width total seeds ts fracs limit many all = omega (
  arith,
  many.over,
  times_grow (length many.found + 1 + fracs) (length ts + 1 + fracs) (width + 1)
      (omega (arith, no_longer many.found ts many.distinct (λ i d inside. all.complete (slice_index_or many.found i d) (many.sound i d inside)))),
)

pub not_heavy_with_table : (kind : Comparison) (a : Linear) (r n limit : ℕ) (t : Table) → IsHeavyAtom kind a r n limit → IsAtomTable kind a r n limit t → ⊥
not_heavy_with_table kind a r n limit t heavy made = omega (arith, made.within, all_too_many r (r ^ n) (letter_total a.terms r n) (seeds kind a.constant) made.found 0 limit heavy made.thresholds)

pub not_heavy_with_real_table : (kind : Comparison) (a : Linear) (r n limit : ℕ) (t : Table) → IsHeavyRealAtom kind a r n limit → IsRealAtomTable kind a r n limit t → ⊥
not_heavy_with_real_table kind a r n limit t heavy made = omega (arith, made.within, all_too_many r (r ^ n) (letter_total a.terms r n) (window_seeds kind a) made.found (bound_states a.terms) limit heavy made.thresholds)
