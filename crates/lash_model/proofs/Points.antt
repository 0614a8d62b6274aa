-- The point of a lasso by differences: a numerator is a gain of the track's run, the denominator the difference of two powers.
use Rattle.std.proofs.Common.{◌≡◌, ℕ, suc, ◌+◌, ◌-◌, ◌*◌, ◌^◌, ◌<◌, List, ◌++◌, length, arith, ◌∙◌, sym, ap}
use Rattle.std.proofs.Math.IntN.{ℤ, pos, ◌+ℤ◌, ◌*ℤ◌}
use Rattle.integer_laws.specs.Differences.{diff}
use Rattle.integer_laws.specs.Runs.{run, gain}
use Rattle.integer_laws.proofs.Ring.{diff_same, diff_add, diff_mul, by_diff, pos_diff}
use Rattle.integer_laws.proofs.Reading.{run-append, gain-form}
use Rattle.lash_model.specs.Letters.{sign_bit}
use Rattle.lash_model.specs.Words.{spelled, value, track_digits}
use Rattle.lash_model.specs.Lassos.{Lasso, denominator, numerator}
use Rattle.lash_model.proofs.Digits.{power_positive}
use Rattle.lash_model.proofs.WordValues.{track_digits-append, length-track_digits, spelled_is_run, value_is_run}

from_zero : (r n i : ℕ) (v : List ℕ) → run r (pos 0) (track_digits r n i v) ≡ pos (spelled r n i v)
from_zero r n i v = spelled_is_run r n i v (pos 0) ∙ no_start (r ^ length v) (spelled r n i v)
  where
    no_start : (p s : ℕ) → (pos p *ℤ pos 0) +ℤ pos s ≡ pos s
    no_start p s = simp (pos_diff, diff_add, diff_mul) (diff_same _ _ _ _ (omega arith))

-- the numerator is the gain of one cycle behind the whole part and the stem
pub numerator_is_gain : (r n i : ℕ) (x : Lasso) → 0 < r → numerator r n i x ≡ gain r (diff 0 (sign_bit n i x.sign)) (track_digits r n i (x.whole ++ x.stem)) (track_digits r n i x.cycle)
unfolding numerator denominator
numerator_is_gain r n i x h = sym (gain-form r (r ^ length x.cycle - 1) (diff 0 (sign_bit n i x.sign)) (track_digits r n i (x.whole ++ x.stem)) (track_digits r n i x.cycle) (ap (λ k. r ^ k) (length-track_digits r n i x.cycle) ∙ one_more (r ^ length x.cycle) (power_positive r (length x.cycle) h)) ∙ ap (λ y. (pos (r ^ length x.cycle - 1) *ℤ y) +ℤ run r (pos 0) (track_digits r n i x.cycle)) (upto_stem x) ∙ ap (λ y. (pos (r ^ length x.cycle - 1) *ℤ ((pos (r ^ length x.stem) *ℤ value r n i x.sign x.whole) +ℤ pos (spelled r n i x.stem))) +ℤ y) (from_zero r n i x.cycle) ∙ regroup (r ^ length x.stem) (r ^ length x.cycle - 1) (spelled r n i x.stem) (spelled r n i x.cycle) (value r n i x.sign x.whole))
  where
    one_more : (k : ℕ) → 0 < k → k ≡ suc (k - 1)
    one_more k h = omega arith

    upto_stem : (x : Lasso) → run r (diff 0 (sign_bit n i x.sign)) (track_digits r n i (x.whole ++ x.stem)) ≡ (pos (r ^ length x.stem) *ℤ value r n i x.sign x.whole) +ℤ pos (spelled r n i x.stem)
    upto_stem x = ap (run r (diff 0 (sign_bit n i x.sign))) (track_digits-append r n i x.whole x.stem) ∙ run-append r (diff 0 (sign_bit n i x.sign)) (track_digits r n i x.whole) (track_digits r n i x.stem) ∙ spelled_is_run r n i x.stem (run r (diff 0 (sign_bit n i x.sign)) (track_digits r n i x.whole)) ∙ ap (λ y. (pos (r ^ length x.stem) *ℤ y) +ℤ pos (spelled r n i x.stem)) (sym (value_is_run r n i x.sign x.whole))

    regroup : (p k s t : ℕ) (v : ℤ) → (pos k *ℤ ((pos p *ℤ v) +ℤ pos s)) +ℤ pos t ≡ (pos (p * k) *ℤ v) +ℤ pos (k * s + t)
    regroup p k s t v = by_diff (λ v. (pos k *ℤ ((pos p *ℤ v) +ℤ pos s)) +ℤ pos t ≡ (pos (p * k) *ℤ v) +ℤ pos (k * s + t)) (λ a b. simp (pos_diff, diff_add, diff_mul) (diff_same _ _ _ _ (omega arith))) v

-- the denominator is the difference of two powers
pub denominator_is_gap : (r : ℕ) (x : Lasso) → 0 < r → denominator r x + r ^ length x.stem ≡ r ^ length x.stem * r ^ length x.cycle
unfolding denominator
denominator_is_gap r x h = add_back (r ^ length x.stem) (r ^ length x.cycle) (power_positive r (length x.cycle) h)
  where
    shifted : (p k : ℕ) → p * k + p ≡ p * suc k
    shifted p k = omega arith

    add_back : (p k : ℕ) → 0 < k → p * (k - 1) + p ≡ p * k
    add_back p k h = shifted p (k - 1) ∙ ap (λ m. p * m) (omega arith)
