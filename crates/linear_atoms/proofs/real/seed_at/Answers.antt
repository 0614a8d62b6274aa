use Rattle.std.proofs.Common.{rules}
use mir.Syntax.{w128}
use mir.Val.{to_z, of_z}
use Rattle.linear_atoms.specs.Kinds.{comparison_of}
use Rattle.linear_atoms.proofs.WindowSums.{seed_small}
use Rattle.linear_atoms.proofs.real.seed_at.Goals as goal

pub returns-clause-small : goal.returns-clause-small
returns-clause-small c = seed_small (comparison_of c.args.bounds.now.kind) c.args.bounds.now.atom.now.terms c.args.bounds.now.lowest c.args.bounds.now.sum c.args.bounds.now.atom.now.constant (to_z w128 (of_z w128 c.raised.result)) c.args.at c.requires.window c.requires.constant c.requires.at (search rules)
