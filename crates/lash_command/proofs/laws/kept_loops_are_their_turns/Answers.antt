use Rattle.lash_command.proofs.LoopBodies.{kept_turns}
use Rattle.lash_command.proofs.laws.kept_loops_are_their_turns.Goals as goal

pub returns : goal.returns
returns c = λ base. kept_turns base c.closure_joins_turns.ensures
