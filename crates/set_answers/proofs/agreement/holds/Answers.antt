use Rattle.std.proofs.Common.{ap}
use Rattle.step_tables.specs.Kept.{Kept}
use Rattle.set_answers.proofs.Truth.{truth_is}
use Rattle.set_answers.proofs.agreement.holds.Goals as goal

pub returns : goal.returns
returns c = truth_is c.args.canon.now.table c.table-table.result.now.table c.root.result c.out.result (ap (λ (k : Kept). k.table) c.table-table.ensures.value) c.requires c.root.ensures.value c.out.ensures.value
