use Rattle.std.proofs.Common.{arith, sym, ap, subst, []}
use Rattle.script_parse.specs.Answers.{State}
use Rattle.statement_answers.specs.Keeping.{Library, sets_kept}
use Rattle.lash_command.specs.Answers.{Outside, HasCome}
use Rattle.lash_command.proofs.Coming.{come_none}
use Rattle.lash_command.proofs.session.session.Goals as goal

pub returns-in-Err : goal.returns-in-Err
returns-in-Err g c = (0, record { kept = []; progress = record { given = 0; held = [] }; come = come_none c.args.settings (record { left = g.S.Source.left c.args.input.now; read_faults = g.S.Source.faults c.args.input.now; held = g.K.Sink.held c.args.out.now; write_faults = g.K.Sink.faults c.args.out.now }); is = tt })

pub statements-init : goal.statements-init
statements-init g c =
    let o : Outside = record { left = g.S.Source.left c.args.input.now; read_faults = g.S.Source.faults c.args.input.now; held = g.K.Sink.held c.args.out.now; write_faults = g.K.Sink.faults c.args.out.now } in
    record {
      base = ap (λ (s : State). s.base) c.in-Ok.ensures;
      settings = ap (λ (l : Library). l.settings) c.new-library.ensures;
      live = ap (λ (s : State). s.live) c.in-Ok.ensures;
      few = omega arith;
      within = omega (arith, ap (λ (s : State). s.progress.given) c.in-Ok.ensures);
      come = subst (λ (l : Library). HasCome c.args.settings o o (sets_kept l) c.in-Ok.statements.progress 0) (sym c.new-library.ensures) (subst (λ (s : State). HasCome c.args.settings o o [] s.progress 0) (sym c.in-Ok.ensures) (come_none c.args.settings o));
    }
