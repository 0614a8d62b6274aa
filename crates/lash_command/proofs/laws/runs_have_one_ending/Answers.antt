use Rattle.lash_command.proofs.Endings.{runs_end_alike}
use Rattle.lash_command.proofs.laws.runs_have_one_ending.Goals as goal

pub returns : goal.returns
returns c = λ settings. runs_end_alike settings (record { answered = c.answers_have_one_cause.ensures.answered settings; refused = c.answers_have_one_cause.ensures.refused settings; pieces = c.answers_have_one_cause.ensures.pieces settings })
