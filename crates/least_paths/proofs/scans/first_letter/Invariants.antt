use Rattle.std.proofs.Common.{◌≡◌, ℕ, ◌<◌}
use Rattle.least_paths.specs.Nets.{target}
use Rattle.least_paths.proofs.scans.first_letter.Given as goal

abbrev pub invariant-loop-letter : goal.invariant-loop-letter
invariant-loop-letter g l = (other : ℕ) → other < l.letter → target (g.G.Graph.net l.graph) l.from other ≡ l.to → ⊥
