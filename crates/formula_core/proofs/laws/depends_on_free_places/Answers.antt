-- Past the end of both vectors the entries are 0, so that the places below it are enough.
use Rattle.formula_core.proofs.Depending.{depends_on_used, depends_on_free}
use Rattle.formula_core.proofs.laws.depends_on_free_places.Goals as goal

pub returns-clause-used : goal.returns-clause-used
returns-clause-used c = depends_on_used

pub returns-clause-free : goal.returns-clause-free
returns-clause-free c = depends_on_free
