use Rattle.std.proofs.Common.{◌≡◌, ◌+◌, ℕ, false, slice_index, arith, sym, ap, subst, ◌∙◌}
use Rattle.std.specs.List.{slice_index_or}
use Rattle.components.specs.Rankings.{lift, part_after, IsRisen}
use Rattle.components.proofs.Lifting.{risen_skip, risen_more}
use Rattle.components.proofs.ranking.risen.Goals as goal
use Rattle.components.proofs.ranking.risen.Goals.{then-below-part, else-below-part}

pub loop-letter-preserved : goal.loop-letter-preserved
loop-letter-preserved c =
    let rows = c.args.rows.now in
    let width = c.args.letters in
    let colours = c.args.colours.now in
    let p = c.args.parts.now in
    let ranks = c.args.ranks.now in
    let q = c.args.state in
    let k = c.loop-letter.letter in
    let colour = slice_index colours q in
    let part_is : c.part_of-part.result ≡ slice_index p.numbers q = c.part_of-part.ensures in
    let below_is : c.part_of-below.result ≡ part_after rows width p q k = c.part_of-below.ensures in
    let loops_is : c.loops-loops.result ≡ slice_index_or p.looping (slice_index p.numbers q) false = c.loops-loops.ensures
    ∙ ap (λ j. slice_index_or p.looping j false) part_is in
    let Risen : ℕ → Type 0 = λ best. IsRisen rows width colours p ranks q (k + 1) best in
    elim c.if-below-part.branch [
      | then-below-part w ↦ subst Risen (sym w.best-is)
          (risen_more rows width colours p ranks q k c.loop-letter.best w.lifted-then-below-part.result w.greater-best-then-below-part.result
          c.loop-letter-test.true c.requires.small (omega (arith, w.if-below-part.true, part_is, below_is))
          (w.lifted-then-below-part.ensures
          ∙ (ap (λ b. lift b colour (slice_index ranks c.part_of-below.result)) loops_is
          ∙ ap (λ j. lift (slice_index_or p.looping (slice_index p.numbers q) false) colour (slice_index ranks j)) below_is))
          w.greater-best-then-below-part.ensures c.loop-letter.invariant)
      | else-below-part w ↦ subst Risen (sym w.best-is)
          (risen_skip rows width colours p ranks q k c.loop-letter.best (omega (arith, w.if-below-part.false, part_is, below_is)) c.loop-letter.invariant)
    ]
