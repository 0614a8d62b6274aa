use Rattle.std.proofs.Common.{◌≡◌, ◌≤◌, ◌+◌, ◌-◌, length}
use Rattle.script_pieces.specs.Taking.{IsOpen, Takes, IsNeeded}
use Rattle.script_pieces.proofs.pieces.Pieces.fetch.Given as goal

abbrev pub invariant-reads : goal.invariant-reads
invariant-reads g l = record {
  kept : Takes l.initial.self l.self (g.S.Source.left l.initial.source) (g.S.Source.left l.source);
  needed : IsNeeded l.initial.self l.self;
  idle : (IsOpen l.initial.self → ⊥) → l.source ≡ l.initial.source;
  counted : g.S.Source.faults l.initial.source ≤ g.S.Source.faults l.source;
}

abbrev pub decreases-reads : goal.decreases-reads
decreases-reads g l = 16777217 - (l.self.given + length l.self.held)
