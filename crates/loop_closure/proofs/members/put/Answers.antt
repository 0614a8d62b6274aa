use Rattle.std.proofs.Common.{ap}
use Rattle.formula_core.specs.Shape.{formula_of}
use Rattle.loop_closure.specs.Builders.{whole_of}
use Rattle.loop_closure.specs.Joins.{join_of}
use Rattle.loop_closure.proofs.Joining.{put_one, put_first}
use Rattle.loop_closure.proofs.members.put.Goals as goal

pub returns-in-Ok : goal.returns-in-Ok
returns-in-Ok c = put_one (join_of c.args.join) (whole_of c.args.whole) (formula_of c.in-Some.left) (formula_of c.args.formula) (formula_of c.in-Ok.formula) (ap whole_of c.in-Some.is) c.in-Ok.ensures

pub returns-in-None : goal.returns-in-None
returns-in-None c = put_first (join_of c.args.join) (whole_of c.args.whole) (formula_of c.args.formula) (ap whole_of c.in-None.is)
