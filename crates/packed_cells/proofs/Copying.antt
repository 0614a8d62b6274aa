-- A list copied number by number into cells of the least bits.
use Rattle.std.proofs.Common.{◌≡◌, ℕ, ◌+◌, ◌-◌, ◌^◌, ◌<◌, ◌≤◌, ◌⊎◌, inl, inr, List, length, slice_index, slice_set, All, arith, ◌∙◌, sym, ap}
use Rattle.std.proofs.lemmas.Bool.{cases_lt}
use Rattle.std.proofs.lemmas.Nat.{pow_pos, pow_below}
use Rattle.std.proofs.lemmas.List.{get_or-set_same, get_or-set_other}
use Rattle.packed_cells.specs.Cells.{IsLeastBits}

-- one number more is copied
pub copied_more : (xs ys : List ℕ) (at v : ℕ) → v ≡ slice_index xs at → length ys ≡ length xs → at < length xs → ((k : ℕ) → k < at → slice_index ys k ≡ slice_index xs k) → (k : ℕ) → k < at + 1 → slice_index (slice_set ys at v) k ≡ slice_index xs k
copied_more xs ys at v is same h before k lt = by (cases_lt k at)
  where
    by : (k < at) ⊎ (at ≤ k) → slice_index (slice_set ys at v) k ≡ slice_index xs k
    by (inl below) = get_or-set_other ys at k v 0 (λ e. absurd (omega (arith, below, e))) ∙ before k below
    by (inr above) =
        let here : k ≡ at = omega (arith, above, lt) in
        ap (slice_index (slice_set ys at v)) here ∙ get_or-set_same ys at v 0 (omega (arith, h, same)) ∙ is ∙ ap (slice_index xs) (sym here)

-- powers of two tell their exponents
pub same_exponent : (a b : ℕ) → 2 ^ a ≡ 2 ^ b → a ≡ b
same_exponent a b e = by (cases_lt a b) (cases_lt b a)
  where
    by : (a < b) ⊎ (b ≤ a) → (b < a) ⊎ (a ≤ b) → a ≡ b
    by (inl h) k = absurd (omega (arith, pow_below a b h, e))
    by (inr h) (inl k) = absurd (omega (arith, pow_below b a k, e))
    by (inr h) (inr k) = omega (arith, h, k)

-- the bits of the largest number are the least bits for all
pub least_for_all : (items : List ℕ) (top bits : ℕ) → All (λ n. n ≤ top) items → ((m : ℕ) → All (λ n. n ≤ m) items → top ≤ m) → 1 ≤ bits → top < 2 ^ bits → ((fewer : ℕ) → 1 ≤ fewer → top < 2 ^ fewer → bits ≤ fewer) → IsLeastBits items bits
least_for_all items top bits above bound some holds least = record {
  some = some;
  holds = λ i d h. omega (arith, above i d h, holds);
  least = λ fewer one all. least fewer one (omega (arith, bound (2 ^ fewer - 1) (λ i d h. omega (arith, all i d h)), pow_pos fewer));
}
