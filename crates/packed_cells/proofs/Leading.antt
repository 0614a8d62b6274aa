-- How many bits a number has, from its leading zeros in 32.
use Rattle.std.proofs.Common.{◌≡◌, ℕ, suc, ◌+◌, ◌-◌, ◌^◌, ◌<◌, ◌≤◌, arith, sym, subst}
use Rattle.std.proofs.lemmas.Bool.{cases_lt}
use Rattle.std.proofs.lemmas.Nat.{leading_top}
use Rattle.std.proofs.Math.Nat.{pow-le-pow_right}
use Rattle.std.proofs.Common.{inl, inr, ◌⊎◌}
use lib.Count.{count_leading_zeros}

length_is : (none j : ℕ) → none + suc j ≡ 32 → 32 - none ≡ suc j
length_is none j e = omega (arith, e)

pub leading-holds : (n : ℕ) → 0 < n → n < 2 ^ 32 → n < 2 ^ (32 - count_leading_zeros 32 n)
leading-holds n h few =
    let top = leading_top 32 n h few in
    subst (λ k. n < 2 ^ k) (sym (length_is (count_leading_zeros 32 n) top.0 top.1)) top.3

pub leading-least : (n : ℕ) → 0 < n → n < 2 ^ 32 → (bits : ℕ) → n < 2 ^ bits → 32 - count_leading_zeros 32 n ≤ bits
leading-least n h few bits below =
    let top = leading_top 32 n h few in
    by top.0 (length_is (count_leading_zeros 32 n) top.0 top.1) top.2 (cases_lt top.0 bits)
  where
    by : (j : ℕ) → 32 - count_leading_zeros 32 n ≡ suc j → 2 ^ j ≤ n → (j < bits) ⊎ (bits ≤ j) → 32 - count_leading_zeros 32 n ≤ bits
    by j e low (inl b) = omega (arith, e, b)
    by j e low (inr b) = absurd (omega (arith, low, below, pow-le-pow_right {n = 2} (two) b))
      where
        two : 0 < 2
        two = omega arith
