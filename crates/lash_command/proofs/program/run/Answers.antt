-- The run is one with the default settings.
use Rattle.std.proofs.Common.{length, subst}
use Rattle.statement_answers.specs.declared.settings.Settings.{Settings}
use Rattle.lash_command.specs.Answers.{Explains}
use Rattle.lash_command.proofs.program.run.Goals as goal

pub returns : goal.returns
returns g c = record {
  ending = c.answer-ending.result;
  status_is = c.status.ensures;
  explained = subst (λ (s : Settings). Explains s c.answer-ending.result (length c.args.words.now) (record { left = g.S.Source.left c.args.input.now; read_faults = g.S.Source.faults c.args.input.now; held = g.K.Sink.held c.args.out.now; write_faults = g.K.Sink.faults c.args.out.now }) (record { left = g.S.Source.left c.answer-ending.new.input; read_faults = g.S.Source.faults c.answer-ending.new.input; held = g.K.Sink.held c.answer-ending.new.out; write_faults = g.K.Sink.faults c.answer-ending.new.out })) c.defaults.ensures.settings c.answer-ending.ensures;
  reported = c.report.ensures;
}
