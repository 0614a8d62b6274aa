use Rattle.linear_atoms.specs.Kinds.{comparison_of}
use Rattle.linear_atoms.specs.Bounds.{AreSeeds}
use Rattle.linear_atoms.proofs.real.seeds_of.Given as goal

abbrev pub invariant-loop-at : goal.invariant-loop-at
invariant-loop-at l = AreSeeds (comparison_of l.bounds.kind) l.bounds.atom.now l.at l.seeds.items
