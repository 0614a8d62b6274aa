use Rattle.std.proofs.Common.{ap, sym, ◌∙◌}
use Rattle.components.specs.Rankings.{lift}
use Rattle.components.proofs.Lifts.{even_rest, lift_same, lift_other}
use Rattle.components.proofs.ranking.lifted.Goals as goal
use Rattle.components.proofs.ranking.lifted.Goals.{else-loops-via-then-loops+else-even-colour, else-loops-via-else-loops}

pub returns-then-even-colour : goal.returns-then-even-colour
returns-then-even-colour c =
    sym (ap (λ b. lift b c.args.colour c.args.rank) c.if-loops.true
    ∙ lift_other c.args.colour c.args.rank (λ e. c.if-even-colour.true (sym (even_rest c.args.rank) ∙ e)))

pub returns-else-loops : goal.returns-else-loops
returns-else-loops c = elim c.else-loops.branch [
  | else-loops-via-then-loops+else-even-colour w ↦ sym (lift_same c.args.loops c.args.colour c.args.rank (even_rest c.args.rank ∙ w.if-even-colour.false))
  | else-loops-via-else-loops w ↦ sym (ap (λ b. lift b c.args.colour c.args.rank) w.if-loops.false)
]
