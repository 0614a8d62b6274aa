use Rattle.std.proofs.Common.{◌≡◌, length, arith}
use Rattle.components.proofs.Ending.{steps_in}
use Rattle.components.proofs.Reckoning.{are_ranks}
use Rattle.components.proofs.ranking.ranks_by_parts.Goals as goal

pub returns : goal.returns
returns c =
    let rows = c.args.rows.now in
    let width = c.args.letters in
    let colours = c.args.colours.now in
    let whole : c.loop-state.state ≡ length colours = omega (arith, c.loop-state-test.false, c.loop-state.auto.state-end) in
    are_ranks rows width colours c.args.parts.now c.requires.parts (steps_in (length colours) rows width c.requires.rows c.requires.targets)
    c.requires.letters (λ q lt. c.requires.colours q 0 lt) c.requires.weak c.in_ok-by_part.by_part.items c.in_ok-by_part.ensures
    c.loop-state.ranks.items (omega (arith, c.loop-state.invariant.long, whole)) (λ q lt. c.loop-state.invariant.each q (omega (arith, lt, whole)))
