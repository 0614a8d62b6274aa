use Rattle.std.proofs.Common.{true, ap, take, subst}
use Rattle.std.specs.Prelude.{Ok, Some}
use Rattle.script_names.specs.Kept.{sets_of}
use Rattle.script_parse.specs.Answers.{State, GivesStatement}
use Rattle.script_parse.proofs.Stepping.{gives}
use Rattle.script_parse.proofs.reader.Statements.statement.Goals as goal

pub returns-in-Ok : goal.returns-in-Ok
returns-in-Ok c =
    let kept = sets_of c.args.defs.now in
    let before : State = record { base = c.self.inside.base; progress = c.self.inside.pieces; live = c.self.inside.live } in
    let after : State = record { base = c.self.inside.base; progress = c.give.new.self; live = true } in
    subst (λ (x : State). GivesStatement kept x c.args.size after (Ok (Some c.in-Ok.statement))) c.self.view_is
    (gives kept before c.give.new.self c.args.size c.in-Ok.statement c.given.result (take c.args.size c.held.result.now) c.give.ensures.given c.give.ensures.held c.given.ensures (ap (take c.args.size) c.held.ensures) c.in-Ok.ensures)
