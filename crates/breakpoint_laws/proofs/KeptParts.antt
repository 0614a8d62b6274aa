-- The kept part of a letter of all tracks: its digits without the one on the track. A letter is put together from its kept part and that
-- digit, and the kept part has the digits of the other tracks.
use Rattle.std.proofs.Common.{◌≡◌, ℕ, zero, suc, ◌+◌, ◌-◌, ◌^◌, ◌<◌, ◌≤◌, List, [], ◌∷◌, length, arith, refl, ◌∙◌, sym, ap, subst}
use Prim.Native.Nat.{min}
use Rattle.std.specs.Prelude.{slice_index, All}
use Rattle.std.proofs.lemmas.List.Elements.{All-nil, All-cons, All-head, All-tail}
use Rattle.lash_model.specs.Letters.{digits, number, digit, AreDigits}
use Rattle.lash_model.proofs.Digits.{digits_are, length-digits, digits-number, number-digits, number_below}
use Rattle.lasso_laws.proofs.Letters.{digit_below}
use Rattle.lash_model.specs.Sets.{inserted_at}
use Rattle.subset_build.specs.Projection.{with_digit}
use Rattle.subset_build.proofs.KeptLetters.{digits_with, digit_before, digit_behind}

-- a list without the entry at a place
pub removed_at : ℕ → List ℕ → List ℕ
removed_at i [] = []
removed_at zero (x ∷ xs) = xs
removed_at (suc i) (x ∷ xs) = x ∷ removed_at i xs

removed-inserted : (i d : ℕ) (xs : List ℕ) → i ≤ length xs → removed_at i (inserted_at i d xs) ≡ xs
unfolding removed_at
removed-inserted zero d [] h = refl
removed-inserted zero d (x ∷ xs) h = refl
removed-inserted (suc i) d [] h = absurd (omega (arith, h))
removed-inserted (suc i) d (x ∷ xs) h = ap (λ ys. x ∷ ys) (removed-inserted i d xs (omega (arith, h)))

inserted-removed : (i : ℕ) (xs : List ℕ) → i < length xs → inserted_at i (slice_index xs i) (removed_at i xs) ≡ xs
unfolding removed_at
inserted-removed i [] h = absurd (omega (arith, h))
inserted-removed zero (x ∷ xs) h = refl
inserted-removed (suc i) (x ∷ xs) h = ap (λ ys. x ∷ ys) (inserted-removed i xs (omega (arith, h)))

length-removed : (i n : ℕ) (xs : List ℕ) → i < length xs → length xs ≡ n + 1 → length (removed_at i xs) ≡ n
unfolding removed_at
length-removed i n [] h e = absurd (omega (arith, h))
length-removed zero n (x ∷ xs) h e = omega (arith, e)
length-removed (suc i) zero (x ∷ xs) h e = absurd (omega (arith, h, e))
length-removed (suc i) (suc n) (x ∷ xs) h e = ap suc (length-removed i n xs (omega (arith, h)) (omega (arith, e)))

removed_below : (r i : ℕ) (xs : List ℕ) → All (λ d. d < r) xs → All (λ d. d < r) (removed_at i xs)
unfolding removed_at
removed_below r i [] h = All-nil (λ d. d < r)
removed_below r zero (x ∷ xs) h = All-tail (λ d. d < r) x xs h
removed_below r (suc i) (x ∷ xs) h = All-cons (λ d. d < r) x (removed_at i xs) (All-head (λ d. d < r) x xs h)
    (removed_below r i xs (All-tail (λ d. d < r) x xs h))

-- base, number of kept tracks, track, letter of all tracks
pub kept_part : ℕ → ℕ → ℕ → ℕ → ℕ
kept_part r n i l = number r (removed_at i (digits r (n + 1) l))

kept_digits : (r n i l : ℕ) → 0 < r → i ≤ n → l < r ^ (n + 1) → AreDigits r n (removed_at i (digits r (n + 1) l))
kept_digits r n i l b h lt = let ds = digits_are r (n + 1) l b lt in record {
  count = length-removed i n (digits r (n + 1) l) (omega (arith, h, ds.count)) ds.count;
  below = removed_below r i (digits r (n + 1) l) ds.below;
}

pub kept_part_below : (r n i l : ℕ) → 0 < r → i ≤ n → l < r ^ (n + 1) → kept_part r n i l < r ^ n
unfolding kept_part
kept_part_below r n i l b h lt = let ds = kept_digits r n i l b h lt in subst (λ k. number r (removed_at i (digits r (n + 1) l)) < r ^ k) ds.count
    (number_below r (removed_at i (digits r (n + 1) l)) ds.below)

-- the parts of a letter that is put together
pub kept-with_digit : (r n i l d : ℕ) → 0 < r → i ≤ n → l < r ^ n → d < r → kept_part r n i (with_digit r n i l d) ≡ l
unfolding kept_part
kept-with_digit r n i l d b h lt below = ap (λ ds. number r (removed_at i ds)) (digits_with r n i l d b lt h below)
    ∙ ap (number r) (removed-inserted i d (digits r n l) (omega (arith, h, length-digits r n l))) ∙ number-digits r n l b lt

-- and a letter is put together from its parts
pub with_digit-kept : (r n i l : ℕ) → 0 < r → i ≤ n → l < r ^ (n + 1) → with_digit r n i (kept_part r n i l) (digit r (n + 1) i l) ≡ l
unfolding with_digit kept_part digit
with_digit-kept r n i l b h lt = ap (λ ds. number r (inserted_at i (slice_index (digits r (n + 1) l) i) ds))
    (digits-number r n (removed_at i (digits r (n + 1) l)) (kept_digits r n i l b h lt))
    ∙ ap (number r) (inserted-removed i (digits r (n + 1) l) (omega (arith, h, length-digits r (n + 1) l))) ∙ number-digits r (n + 1) l b lt

-- the digits of the other tracks
pub kept_before : (r n i j l : ℕ) → 0 < r → i ≤ n → l < r ^ (n + 1) → j < i → digit r n j (kept_part r n i l) ≡ digit r (n + 1) j l
kept_before r n i j l b h lt before =
    sym (digit_before r n i j (kept_part r n i l) (digit r (n + 1) i l) b (kept_part_below r n i l b h lt) h
    (digit_below r (n + 1) i l b (omega (arith, h)) lt) before) ∙ ap (digit r (n + 1) j) (with_digit-kept r n i l b h lt)

pub kept_behind : (r n i j l : ℕ) → 0 < r → i ≤ n → l < r ^ (n + 1) → i ≤ j → digit r n j (kept_part r n i l) ≡ digit r (n + 1) (j + 1) l
kept_behind r n i j l b h lt behind =
    sym (digit_behind r n i j (kept_part r n i l) (digit r (n + 1) i l) b (kept_part_below r n i l b h lt) h
    (digit_below r (n + 1) i l b (omega (arith, h)) lt) behind) ∙ ap (digit r (n + 1) (j + 1)) (with_digit-kept r n i l b h lt)

-- ---- letters out of range act as the last one
abbrev pub clamp : ℕ → ℕ → ℕ
clamp m l = min l (m - 1)

pub clamp_small : (m l : ℕ) → l < m → clamp m l ≡ l
clamp_small m l h = omega (arith, h)

pub clamp_below : (m l : ℕ) → 0 < m → clamp m l < m
clamp_below m l h = omega (arith, h)
