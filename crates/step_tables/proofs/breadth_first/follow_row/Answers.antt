use Rattle.std.proofs.Common.{◌≡◌, arith, subst}
use Rattle.step_tables.specs.Gathering.{Following}
use Rattle.step_tables.proofs.Numbering.{following_row}
use Rattle.step_tables.proofs.breadth_first.follow_row.Goals as goal

pub returns-clause-followed : goal.returns-clause-followed
returns-clause-followed g c =
    let kept = c.loop-letter.invariant in
    let m = g.M.Machine.meaning c.args.machine.now in
    let over : c.loop-letter.letter ≡ m.width = omega (arith, kept.3, c.loop-letter.auto.letter-end, c.loop-letter-test.false) in
    following_row m c.args.at c.loop-letter.table (subst (λ n. Following m c.args.at n c.loop-letter.table) over kept.4) kept.2
