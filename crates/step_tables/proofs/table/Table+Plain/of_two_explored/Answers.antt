use Rattle.std.proofs.Common.{◌∙◌}
use Rattle.step_tables.specs.Kept.{answered, laid_in_two}
use Rattle.step_tables.proofs.Laying.{laid_in_two_in_range, in_range_as}
use Rattle.step_tables.proofs.table.Table+Plain.of_two_explored.Goals as goal

pub of_lists-requires : goal.of_lists-requires
of_lists-requires g c =
    let base = c.args.base in
    let k = c.args.whole.now in
    let l = c.args.fraction.now in
    let says_yes = g.A.Answers.says_yes c.args.colours.now in
    in_range_as
    (laid_in_two base c.args.tracks k l (answered says_yes l.keys))
    c.in_ok-roots.roots
    c.in_ok-rows.rows
    c.in_ok-outs.outs
    c.in_ok-frac_rows.frac_rows
    c.of-colours.result
    (laid_in_two_in_range base c.args.tracks k l says_yes c.radix-radix.ensures.low c.radix-radix.ensures.high c.requires.few c.rows.ensures.linked c.rows-3.ensures.linked c.requires.width c.requires.fraction_width c.requires.starts c.requires.outs c.requires.cells)
    (c.in_ok-roots.ensures ∙ c.starts.ensures)
    (c.in_ok-rows.ensures ∙ c.rows.ensures.value)
    (c.in_ok-outs.ensures ∙ c.starts-2.ensures)
    (c.in_ok-frac_rows.ensures ∙ c.rows-3.ensures.value)
    (c.of-colours.ensures ∙ c.in_ok-bits_of.ensures)
