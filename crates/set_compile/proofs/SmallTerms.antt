-- Terms of one and of two variables are over any variables that have their places.
use Rattle.std.proofs.Common.{ℕ, zero, suc, ◌+◌, ◌^◌, ◌<◌, ◌≤◌, [], ◌∷◌, length, arith, unsigned_abs}
use Rattle.std.proofs.Math.IntN.{ℤ}
use Rattle.std.specs.Prelude.{All}
use Rattle.std.specs.List.{slice_index_or}
use Rattle.lash_model.specs.Formulas.{Linear, coefficient_sum}
use Rattle.set_compile.specs.Conditions.{IsTermOver}

abbrev pub alone : ℕ → ℤ → ℤ → Linear
alone p c k = record { terms = (p, c) ∷ []; constant = k }

abbrev pub pair : ℤ → ℕ → ℤ → ℤ → Linear
pair b p c k = record { terms = (0, b) ∷ (p, c) ∷ []; constant = k }

pub one_over : (p : ℕ) (c k : ℤ) → unsigned_abs c ≤ 2 ^ 24 → unsigned_abs k ≤ 2 ^ 40 → (m : ℕ) → p < m → IsTermOver m (alone p c k)
unfolding coefficient_sum
one_over p c k small low m lt = record { places = first; inside = record { coefficients = omega (arith, small); constant = low } }
  where
    first : (i : ℕ) (d : ℕ × ℤ) → i < length (alone p c k).terms → (slice_index_or (alone p c k).terms i d).0 < m
    first zero d h = lt
    first (suc i) d h = absurd (omega (arith, h))

pub two_over : (b : ℤ) (p : ℕ) (c k : ℤ) → unsigned_abs b + unsigned_abs c ≤ 2 ^ 24 → unsigned_abs k ≤ 2 ^ 40 → (m : ℕ) → p < m → IsTermOver m (pair b p c k)
unfolding coefficient_sum
two_over b p c k small low m lt = record { places = each; inside = record { coefficients = omega (arith, small); constant = low } }
  where
    each : (i : ℕ) (d : ℕ × ℤ) → i < length (pair b p c k).terms → (slice_index_or (pair b p c k).terms i d).0 < m
    each zero d h = omega (arith, lt)
    each (suc zero) d h = lt
    each (suc (suc i)) d h = absurd (omega (arith, h))

pub behind_first : (b k : ℤ) (p : ℕ) → 0 < p → All (λ (t : ℕ × ℤ). t.0 < p) (alone 0 b k).terms
behind_first b k p lt zero d h = lt
behind_first b k p lt (suc i) d h = absurd (omega (arith, h))
