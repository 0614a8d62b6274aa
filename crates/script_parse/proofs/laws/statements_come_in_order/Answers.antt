use Rattle.script_parse.proofs.InOrder.{given_in_order}
use Rattle.script_parse.proofs.laws.statements_come_in_order.Goals as goal

pub returns : goal.returns
returns c = given_in_order
