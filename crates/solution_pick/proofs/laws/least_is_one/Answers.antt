use Rattle.std.proofs.Common.{ap}
use Rattle.graph_laws.specs.Paths.{Path}
use Rattle.solution_pick.proofs.Accepted.{one_path}
use Rattle.solution_pick.proofs.laws.least_is_one.Goals as goal

pub returns-clause-signs : goal.returns-clause-signs
returns-clause-signs c = λ t sign other w v a b. ap (λ (p : Path). p.start) (one_path t sign other w v a b)

pub returns-clause-words : goal.returns-clause-words
returns-clause-words c = λ t sign other w v a b. ap (λ (p : Path). p.word) (one_path t sign other w v a b)
