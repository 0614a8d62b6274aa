-- Thresholds rise, so a count is right if the last one before it is below the value and the next one is not.
use Rattle.std.proofs.Common.{◌≡◌, ℕ, ◌+◌, ◌-◌, ◌≤◌, ◌<◌, List, length, true, false, arith, sym, subst}
use Rattle.std.proofs.Math.IntN.{ℤ, pos}
use Rattle.std.specs.Prelude.{◌<ℤ◌, ◌≤ℤ◌, int_lt}
use Rattle.std.proofs.lemmas.Int.{ints}
use Rattle.std.proofs.lemmas.Bool.{cases_lt}
use Rattle.std.specs.List.{AllPairs}
use mathlib.Core.Logic.{inl, inr}
use Rattle.threshold_laws.specs.Thresholds.{below}
use Rattle.threshold_laws.proofs.Counting.{count_split}
use Rattle.linear_atoms.specs.Closing.{entry}
use Rattle.linear_atoms.specs.Filling.{IsCountedUpTo}

pub less_by_test : (a b : ℤ) → int_lt a b ≡ true → a <ℤ b
less_by_test a b h = grind (arith, ints)

pub at_most_by_test : (a b : ℤ) → int_lt a b ≡ false → b ≤ℤ a
at_most_by_test a b h = grind (arith, ints)

under_last : (a b x : ℤ) → a <ℤ b → b <ℤ x → a <ℤ x
under_last a b x h k = omega (arith, ints, h, k)

over_first : (a b x : ℤ) → a <ℤ b → x ≤ℤ a → x ≤ℤ b
over_first a b x h k = omega (arith, ints, h, k)

-- the thresholds before the count are below the value
before : (ts : List ℤ) (x : ℤ) (n : ℕ) → AllPairs (λ a b. a <ℤ b) ts → IsCountedUpTo ts x n → (j : ℕ) → j < n → entry ts j <ℤ x
before ts x n rising c j lt = elim (cases_lt j (n - 1)) [
  | inl less ↦ under_last (entry ts j) (entry ts (n - 1)) x (rising j (n - 1) (pos 0) less (omega (arith, lt, c.within))) (c.last (omega (arith, lt)))
  | inr not_less ↦ subst (λ k. entry ts k <ℤ x) (omega (arith, lt, not_less)) (c.last (omega (arith, lt)))
]

-- those from one on that is not are not
behind : (ts : List ℤ) (x : ℤ) (n : ℕ) → AllPairs (λ a b. a <ℤ b) ts → x ≤ℤ entry ts n → (j : ℕ) → n ≤ j → j < length ts → x ≤ℤ entry ts j
behind ts x n rising first j a b = elim (cases_lt n j) [
  | inl less ↦ over_first (entry ts n) (entry ts j) x (rising n j (pos 0) less b) first
  | inr not_less ↦ subst (λ k. x ≤ℤ entry ts k) (omega (arith, a, not_less)) first
]

pub counted_before : (ts : List ℤ) (x : ℤ) (n : ℕ) → AllPairs (λ a b. a <ℤ b) ts → IsCountedUpTo ts x n → x ≤ℤ entry ts n → n ≡ below ts x
counted_before ts x n rising c next = sym (count_split ts x n c.within (before ts x n rising c) (behind ts x n rising next))

pub counted_all : (ts : List ℤ) (x : ℤ) (n : ℕ) → AllPairs (λ a b. a <ℤ b) ts → IsCountedUpTo ts x n → length ts ≤ n → n ≡ below ts x
counted_all ts x n rising c all = sym (count_split ts x n c.within (before ts x n rising c) (λ j a b. absurd (omega (arith, a, b, all))))

-- one threshold more
pub counted_more : (ts : List ℤ) (x : ℤ) (n : ℕ) → n < length ts → entry ts n <ℤ x → IsCountedUpTo ts x (n + 1)
counted_more ts x n lt h = record { within = omega (arith, lt); last = λ _. subst (λ k. entry ts k <ℤ x) (omega arith) h }
