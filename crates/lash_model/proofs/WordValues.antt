-- Values of words: a letter at the end, the value as a run from minus the sign bit, and the bounds of a value.
use Rattle.std.proofs.Common.{◌≡◌, ℕ, suc, ◌+◌, ◌*◌, ◌^◌, List, [], ◌∷◌, ◌++◌, length, arith, refl, ◌∙◌, sym, ap}
use Rattle.std.proofs.Math.IntN.{ℤ, pos, ◌+ℤ◌, ◌*ℤ◌}
use Rattle.std.proofs.Math.Nat.{pow-suc, pow-zero}
use Rattle.std.proofs.lemmas.Int.{ints}
use Rattle.integer_laws.specs.Differences.{diff}
use Rattle.integer_laws.specs.Runs.{run}
use Rattle.integer_laws.proofs.Ring.{diff_same, diff_add, diff_mul, pos_diff, by_diff}
use Rattle.lash_model.specs.Letters.{digit, sign_bit}
use Rattle.lash_model.specs.Words.{spelled, value, track_digits}

next_power : (r n : ℕ) → r ^ suc n ≡ r * r ^ n
next_power r n = omega (arith, pow-suc r n)

length-push : (w : List ℕ) (l : ℕ) → length (w ++ l ∷ []) ≡ suc (length w)
length-push [] l = refl
length-push (x ∷ w) l = ap suc (length-push w l)

-- a letter at the end makes r times the number, plus the letter's digit
pub spelled-push : (r n i : ℕ) (w : List ℕ) (l : ℕ) → spelled r n i (w ++ l ∷ []) ≡ r * spelled r n i w + digit r n i l
unfolding spelled
spelled-push r n i [] l = rw (pow-zero r) (omega arith)
spelled-push r n i (x ∷ w) l = ap (λ k. digit r n i x * r ^ k + spelled r n i (w ++ l ∷ [])) (length-push w l) ∙ ap (λ k. digit r n i x * r ^ suc (length w) + k) (spelled-push r n i w l) ∙ ap (λ k. digit r n i x * k + (r * spelled r n i w + digit r n i l)) (next_power r (length w)) ∙ regroup r (digit r n i x) (r ^ length w) (spelled r n i w) (digit r n i l)
  where
    regroup : (r d p s e : ℕ) → d * (r * p) + (r * s + e) ≡ r * (d * p + s) + e
    regroup r d p s e = omega arith

-- two words, the one behind the other
pub spelled-append : (r n i : ℕ) (v w : List ℕ) → spelled r n i (v ++ w) ≡ spelled r n i v * r ^ length w + spelled r n i w
unfolding spelled
spelled-append r n i [] w = omega arith
spelled-append r n i (x ∷ v) w = ap (λ k. digit r n i x * k + spelled r n i (v ++ w)) (power r v w) ∙ ap (λ k. digit r n i x * (r ^ length v * r ^ length w) + k) (spelled-append r n i v w) ∙ regroup (digit r n i x) (r ^ length v) (r ^ length w) (spelled r n i v) (spelled r n i w)
  where
    regroup : (d p q s t : ℕ) → d * (p * q) + (s * q + t) ≡ (d * p + s) * q + t
    regroup d p q s t = omega arith

    power : (r : ℕ) (v w : List ℕ) → r ^ length (v ++ w) ≡ r ^ length v * r ^ length w
    power r [] w = rw (pow-zero r) (omega arith)
    power r (x ∷ v) w = next_power r (length (v ++ w)) ∙ ap (λ k. r * k) (power r v w) ∙ again r (r ^ length v) (r ^ length w) ∙ ap (λ k. k * r ^ length w) (sym (next_power r (length v)))
      where
        again : (r p q : ℕ) → r * (p * q) ≡ r * p * q
        again r p q = omega arith

-- the value of the empty word is minus the sign bit
pub value-nil : (r n i sign : ℕ) → value r n i sign [] ≡ diff 0 (sign_bit n i sign)
unfolding value spelled diff
value-nil r n i sign = rw (pow-zero r) (omega (arith, ints))

value_by : (r n i sign : ℕ) (w : List ℕ) → value r n i sign w ≡ diff (spelled r n i w) (sign_bit n i sign * r ^ length w)
unfolding value diff
value_by r n i sign w = refl

-- a letter at the end makes r times the value, plus the letter's digit
pub value-push : (r n i sign : ℕ) (w : List ℕ) (l : ℕ) → value r n i sign (w ++ l ∷ []) ≡ (pos r *ℤ value r n i sign w) +ℤ pos (digit r n i l)
value-push r n i sign w l = value_by r n i sign (w ++ l ∷ []) ∙ ap (λ k. diff k (sign_bit n i sign * r ^ length (w ++ l ∷ []))) (spelled-push r n i w l) ∙ ap (λ k. diff (r * spelled r n i w + digit r n i l) (sign_bit n i sign * k)) (ap (λ k. r ^ k) (length-push w l) ∙ next_power r (length w)) ∙ regroup r (spelled r n i w) (sign_bit n i sign) (r ^ length w) (digit r n i l) ∙ ap (λ z. (pos r *ℤ z) +ℤ pos (digit r n i l)) (sym (value_by r n i sign w))
  where
    regroup : (r s b p d : ℕ) → diff (r * s + d) (b * (r * p)) ≡ (pos r *ℤ diff s (b * p)) +ℤ pos d
    regroup r s b p d = simp (pos_diff, diff_add, diff_mul) (diff_same _ _ _ _ (omega arith))

pub track_digits-append : (r n i : ℕ) (v w : List ℕ) → track_digits r n i (v ++ w) ≡ track_digits r n i v ++ track_digits r n i w
unfolding track_digits
track_digits-append r n i [] w = refl
track_digits-append r n i (x ∷ v) w = ap (λ t. pos (digit r n i x) ∷ t) (track_digits-append r n i v w)

pub length-track_digits : (r n i : ℕ) (w : List ℕ) → length (track_digits r n i w) ≡ length w
unfolding track_digits
length-track_digits r n i [] = refl
length-track_digits r n i (x ∷ w) = ap suc (length-track_digits r n i w)

-- the number spelled is the run from 0
pub spelled_is_run : (r n i : ℕ) (w : List ℕ) (x : ℤ) → run r x (track_digits r n i w) ≡ (pos (r ^ length w) *ℤ x) +ℤ pos (spelled r n i w)
unfolding track_digits run spelled
spelled_is_run r n i [] x = one x r
  where
    one : (x : ℤ) (r : ℕ) → x ≡ (pos (r ^ 0) *ℤ x) +ℤ pos 0
    one x r = rw (pow-zero r) (omega (arith, ints))
spelled_is_run r n i (l ∷ w) x = spelled_is_run r n i w ((pos r *ℤ x) +ℤ pos (digit r n i l)) ∙ regroup r (r ^ length w) (digit r n i l) (spelled r n i w) x ∙ ap (λ k. (pos k *ℤ x) +ℤ pos (digit r n i l * r ^ length w + spelled r n i w)) (sym (next_power r (length w)))
  where
    by_parts : (r p d s a b : ℕ) → (pos p *ℤ ((pos r *ℤ diff a b) +ℤ pos d)) +ℤ pos s ≡ (pos (r * p) *ℤ diff a b) +ℤ pos (d * p + s)
    by_parts r p d s a b = simp (pos_diff, diff_add, diff_mul) (diff_same _ _ _ _ (omega arith))

    regroup : (r p d s : ℕ) (x : ℤ) → (pos p *ℤ ((pos r *ℤ x) +ℤ pos d)) +ℤ pos s ≡ (pos (r * p) *ℤ x) +ℤ pos (d * p + s)
    regroup r p d s x = by_diff (λ x. (pos p *ℤ ((pos r *ℤ x) +ℤ pos d)) +ℤ pos s ≡ (pos (r * p) *ℤ x) +ℤ pos (d * p + s)) (by_parts r p d s) x

-- the value is the run from minus the sign bit
pub value_is_run : (r n i sign : ℕ) (w : List ℕ) → value r n i sign w ≡ run r (diff 0 (sign_bit n i sign)) (track_digits r n i w)
value_is_run r n i sign w = value_by r n i sign w ∙ regroup (spelled r n i w) (sign_bit n i sign) (r ^ length w) ∙ sym (spelled_is_run r n i w (diff 0 (sign_bit n i sign)))
  where
    regroup : (s b p : ℕ) → diff s (b * p) ≡ (pos p *ℤ diff 0 b) +ℤ pos s
    regroup s b p = simp (pos_diff, diff_add, diff_mul) (diff_same _ _ _ _ (omega arith))
