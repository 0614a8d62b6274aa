use Rattle.std.proofs.Common.{◌∙◌}
use Rattle.step_tables.specs.Kept.{answered, laid}
use Rattle.step_tables.proofs.Laying.{laid_in_range, in_range_as}
use Rattle.step_tables.proofs.table.Table+Plain.of_explored.Goals as goal

pub of_lists-requires : goal.of_lists-requires
of_lists-requires g c =
    let base = c.args.base in
    let k = c.args.found.now in
    let says_yes = g.A.Answers.says_yes c.args.outputs.now in
    in_range_as
    (laid base c.args.tracks k (answered says_yes k.keys))
    c.in_ok-roots.roots
    c.in_ok-rows.rows
    c.of-outs.result
    c.in_ok-frac_rows.frac_rows
    c.in_ok-colours.colours
    (laid_in_range base c.args.tracks k says_yes c.radix-radix.ensures.low c.radix-radix.ensures.high c.requires.few c.rows.ensures.linked c.requires.width c.requires.starts c.requires.cells)
    (c.in_ok-roots.ensures ∙ c.starts.ensures)
    (c.in_ok-rows.ensures ∙ c.rows.ensures.value)
    (c.of-outs.ensures ∙ c.in_ok-bits_of.ensures)
    (c.in_ok-frac_rows.ensures)
    (c.in_ok-colours.ensures)
