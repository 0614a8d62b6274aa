-- The places rise, so those below the given one stand in front.
use Rattle.std.proofs.Common.{ℕ, ℤ, List, ◌<◌, inl, inr, get_or, nat_lt, ap, ◌∙◌, arith, rules}
use Rattle.std.proofs.lemmas.Bool.{ltb-true, ltb-false, lt-ltb, cases_eq}
use Rattle.std.specs.List.{AllPairs}
use Rattle.std.specs.List.Sorted.{IsPartitionedBy}
use Rattle.std.proofs.lemmas.List.Sorted.{IsPartitionPoint-from_clause}
use Rattle.formula_core.proofs.linear.find_place.Goals as goal

parted : (ts : List (ℕ × ℤ)) (place : ℕ) → AllPairs (λ s t. s.0 < t.0) ts → IsPartitionedBy (λ t. nat_lt t.0 place) ts
parted ts place h i j d le lt e = elim (cases_eq i j) [ inl q ↦ ap (λ k. nat_lt (get_or ts k d).0 place) q ∙ e | inr ne ↦ lt-ltb (get_or ts i d).0 place (omega (arith, h i j d (omega arith) lt, ltb-true (get_or ts j d).0 place e)) ]

pub returns : goal.returns
returns c =
    let point = IsPartitionPoint-from_clause (λ t. nat_lt t.0 c.args.place) c.args.terms.now c.partition_point.result c.partition_point.ensures.partitioned (parted c.args.terms.now c.args.place c.requires) (λ a r q k. search rules) in
    record { within = c.partition_point.ensures.bound; before = λ k d low high. ltb-true _ _ (point.0 k d low high); behind = λ k d low high. ltb-false _ _ (point.1 k d low high) }
