use Rattle.std.proofs.Common.{◌≡◌, ◌<◌, ℕ, List, length}
use Rattle.std.specs.Prelude.{All}
use Rattle.product_ops.specs.Restriction.{AreEnds, AreDoubled}
use Rattle.product_ops.proofs.restriction.double.Given as goal

abbrev pub invariant-loop-state : goal.invariant-loop-state
invariant-loop-state l = record {
  count : length l.ends ≡ length l.initial.ends;
  inside : All (λ q. q < length l.ends) l.ends;
  doubled : (rows : List ℕ) (width least : ℕ) → AreEnds rows width least l.initial.ends → AreDoubled rows width least l.state l.ends;
}
