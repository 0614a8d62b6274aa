use Rattle.script_names.proofs.TruthKept.{truth_kept}
use Rattle.script_names.proofs.tests.keep_all.Goals as goal

pub keep-requires-clause-inside : goal.keep-requires-clause-inside
keep-requires-clause-inside c = truth_kept _ _ c.new-zero.result c.new-zero.ensures c.in-Ok.ensures
