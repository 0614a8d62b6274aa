use Rattle.std.proofs.Common.{◌≡◌, ◌≤◌, ◌-◌, true}
use Rattle.statement_answers.specs.Keeping.{sets_kept}
use Rattle.lash_command.specs.Answers.{HasCome}
use Rattle.lash_command.proofs.session.session.Given as goal

abbrev pub invariant-statements : goal.invariant-statements
invariant-statements g l = record {
  base : l.statements.base ≡ l.fn.settings.base;
  settings : l.library.settings ≡ l.fn.settings;
  live : l.statements.live ≡ true;
  few : l.answered ≤ l.statements.progress.given;
  within : l.statements.progress.given ≤ 16777216;
  come : HasCome l.fn.settings (record { left = g.S.Source.left l.initial.input; read_faults = g.S.Source.faults l.initial.input; held = g.K.Sink.held l.initial.out; write_faults = g.K.Sink.faults l.initial.out }) (record { left = g.S.Source.left l.input; read_faults = g.S.Source.faults l.input; held = g.K.Sink.held l.out; write_faults = g.K.Sink.faults l.out }) (sets_kept l.library) l.statements.progress l.answered;
}

abbrev pub decreases-statements : goal.decreases-statements
decreases-statements g l = 16777216 - l.statements.progress.given
