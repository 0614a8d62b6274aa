use Rattle.lash_command.proofs.Endings.{good_scripts_end}
use Rattle.lash_command.proofs.laws.good_scripts_finish.Goals as goal

pub returns : goal.returns
returns c = λ settings. good_scripts_end settings (record { answered = c.answers_have_one_cause.ensures.answered settings; refused = c.answers_have_one_cause.ensures.refused settings; pieces = c.answers_have_one_cause.ensures.pieces settings })
