use Rattle.set_compile.proofs.Modes.{made_shape, made_kind, made_same}
use Rattle.set_compile.proofs.minimizing.minimized.Goals as goal

pub returns-in-Ok-clause-shape : goal.returns-in-Ok-clause-shape
returns-in-Ok-clause-shape g c = λ mode k. made_shape mode c.args.table.now.table c.in-Ok.made.table c.in-Ok.ensures.base c.in-Ok.ensures.tracks c.in-Ok.ensures.diagram c.in-Ok.ensures.fractions k

pub returns-in-Ok-clause-kind : goal.returns-in-Ok-clause-kind
returns-in-Ok-clause-kind g c = made_kind c.args.table.now.table c.in-Ok.made.table c.in-Ok.ensures.diagram c.in-Ok.ensures.fractions

pub returns-in-Ok-clause-same : goal.returns-in-Ok-clause-same
returns-in-Ok-clause-same g c = made_same c.args.table.now.table c.in-Ok.made.table c.in-Ok.ensures.words c.in-Ok.ensures.lassos
