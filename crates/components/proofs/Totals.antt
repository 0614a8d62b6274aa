-- Sums of a list's entries, and how many entries are not below a number, if one entry changes.
use Rattle.std.proofs.Common.{◌≡◌, ℕ, zero, suc, ◌+◌, ◌*◌, ◌<◌, ◌≤◌, Bool, true, false, List, [], ◌∷◌, length, slice_index as at, slice_set, refl, ap, arith}
use Rattle.std.specs.Prelude.{nat_lt}
use Rattle.std.proofs.lemmas.Bool.{lt-ltb, le-ltb}
use Rattle.components.specs.Walking.{total, fresh, one_unless}

pub total_set : (xs : List ℕ) (i v : ℕ) → i < length xs → total (slice_set xs i v) + at xs i ≡ total xs + v
total_set [] i v lt = absurd (omega (arith, lt))
total_set (x ∷ xs) zero v lt = omega arith
total_set (x ∷ xs) (suc i) v lt = omega (arith, total_set xs i v (omega (arith, lt)))

pub total_bound : (xs : List ℕ) (w : ℕ) → ((i : ℕ) → i < length xs → at xs i ≤ w) → total xs ≤ length xs * w
total_bound [] w h = omega arith
total_bound (x ∷ xs) w h =
    let rest = total_bound xs w (λ i lt. h (suc i) (omega (arith, lt))) in
    omega (arith, rest, h zero (omega arith))

one_of : (n x : ℕ) → n ≤ x → one_unless (nat_lt x n) ≡ 1
one_of n x le = ap one_unless (le-ltb x n le)

none_of : (n x : ℕ) → x < n → one_unless (nat_lt x n) ≡ 0
none_of n x lt = ap one_unless (lt-ltb x n lt)

pub fresh_set : (n : ℕ) (xs : List ℕ) (i v : ℕ) → i < length xs → n ≤ at xs i → v < n → fresh n (slice_set xs i v) + 1 ≡ fresh n xs
fresh_set n [] i v lt le below = absurd (omega (arith, lt))
fresh_set n (x ∷ xs) zero v lt le below = omega (arith, one_of n x le, none_of n v below)
fresh_set n (x ∷ xs) (suc i) v lt le below = omega (arith, fresh_set n xs i v (omega (arith, lt)) le below)

pub fresh_some : (n : ℕ) (xs : List ℕ) (i : ℕ) → i < length xs → n ≤ at xs i → 0 < fresh n xs
fresh_some n [] i lt le = absurd (omega (arith, lt))
fresh_some n (x ∷ xs) zero lt le = omega (arith, one_of n x le)
fresh_some n (x ∷ xs) (suc i) lt le = omega (arith, fresh_some n xs i (omega (arith, lt)) le)

pub fresh_all : (n : ℕ) (xs : List ℕ) → fresh n xs ≤ length xs
fresh_all n [] = omega arith
fresh_all n (x ∷ xs) = omega (arith, fresh_all n xs, at_most_one (nat_lt x n))
  where
    at_most_one : (b : Bool) → one_unless b ≤ 1
    at_most_one true = omega arith
    at_most_one false = omega arith

pub fresh_full : (n : ℕ) (xs : List ℕ) → ((i : ℕ) → i < length xs → n ≤ at xs i) → fresh n xs ≡ length xs
fresh_full n [] h = refl
fresh_full n (x ∷ xs) h = omega (arith, one_of n x (h zero (omega arith)), fresh_full n xs (λ i lt. h (suc i) (omega (arith, lt))))

pub fresh_none : (n : ℕ) (xs : List ℕ) → ((i : ℕ) → i < length xs → at xs i < n) → fresh n xs ≡ 0
fresh_none n [] h = refl
fresh_none n (x ∷ xs) h = omega (arith, none_of n x (h zero (omega arith)), fresh_none n xs (λ i lt. h (suc i) (omega (arith, lt))))
