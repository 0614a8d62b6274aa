use Rattle.std.proofs.Common.{rules, ◌≡◌, ◌∙◌, sym}
use mir.Val.{SFits}
use mir.Syntax.{w128}
use Rattle.linear_atoms.proofs.Members.{not_among_from_test, met_known, met_added}
use Rattle.linear_atoms.proofs.thresholds.meet.Goals as goal

pub returns-then-contains-clause-met : goal.returns-then-contains-clause-met
returns-then-contains-clause-met c = met_known c.args.bound.now c.args.found.now.keys (sym c.contains.ensures ∙ c.if-contains.true)

pub returns-then-len-room-clause-fresh : goal.returns-then-len-room-clause-fresh
returns-then-len-room-clause-fresh c = λ e. not_among_from_test c.args.bound.now c.args.found.now.keys (sym c.contains.ensures ∙ c.if-contains.false)

pub returns-in-Ok-clause-met : goal.returns-in-Ok-clause-met
returns-in-Ok-clause-met c =
    let fits : SFits w128 c.args.bound.now = search rules in
    met_added c.args.bound.now c.args.found.now.keys c.insert.new.self.keys fits (sym c.contains.ensures ∙ c.if-contains.false) c.in-Ok.ensures.keys
