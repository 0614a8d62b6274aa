-- The thresholds rise, so those below the value stand in front.
use Rattle.std.proofs.Common.{◌≡◌, ℕ, ℤ, pos, List, ◌<◌, ◌≤◌, ◌⊎◌, inl, inr, length, get_or, Bool, true, false, ap, ◌∙◌, sym, arith, rules}
use Rattle.std.specs.Prelude.{◌<ℤ◌, ◌≤ℤ◌, int_lt}
use Rattle.std.proofs.lemmas.Int.{ints}
use Rattle.std.proofs.lemmas.Bool.{cases_eq}
use Rattle.std.specs.List.{AllPairs}
use Rattle.std.specs.List.Sorted.{IsPartitionedBy}
use Rattle.std.proofs.lemmas.List.Sorted.{IsPartitionPoint-from_clause}
use Rattle.threshold_laws.proofs.Counting.{count_split}
use Rattle.linear_atoms.proofs.counts.count_below.Goals as goal

less_from_test : (a b : ℤ) → int_lt a b ≡ true → a <ℤ b
less_from_test a b h = grind (arith, ints)

not_less_from_test : (a b : ℤ) → int_lt a b ≡ false → b ≤ℤ a
not_less_from_test a b h = grind (arith, ints)

test_passes : (a b c : ℤ) → a <ℤ b → int_lt b c ≡ true → int_lt a c ≡ true
test_passes a b c h e = grind (arith, ints)

parted : (ts : List ℤ) (value : ℤ) → AllPairs (λ x y. x <ℤ y) ts → IsPartitionedBy (λ t. int_lt t value) ts
parted ts value h i j d le lt e = elim (cases_eq i j) [ inl q ↦ ap (λ k. int_lt (get_or ts k d) value) q ∙ e | inr ne ↦ test_passes (get_or ts i d) (get_or ts j d) value (h i j d (omega arith) lt) e ]

pub returns-clause-value : goal.returns-clause-value
returns-clause-value c =
    let point = IsPartitionPoint-from_clause (λ t. int_lt t c.args.value.now) c.args.thresholds.now c.partition_point.result c.partition_point.ensures.partitioned (parted c.args.thresholds.now c.args.value.now c.requires.rising) (λ a r q k. search rules) in
    sym (count_split c.args.thresholds.now c.args.value.now c.partition_point.result c.partition_point.ensures.bound (λ j b. less_from_test _ _ (point.0 j (pos 0) (omega arith) b)) (λ j a b. not_less_from_test _ _ (point.1 j (pos 0) a b)))
