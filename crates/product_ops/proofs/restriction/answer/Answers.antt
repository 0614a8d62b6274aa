use Rattle.std.proofs.Common.{rules, refl, slice_index}
use Rattle.part_laws.proofs.LassoWords.{fraction_is_graph}
use Rattle.product_ops.proofs.Zeros.{end_colour, one_if_yes, zero_if_no}
use Rattle.product_ops.proofs.restriction.answer.Goals as goal

pub returns-then-colour-clause-value : goal.returns-then-colour-clause-value
returns-then-colour-clause-value g c = one_if_yes _ _ c.colour.result
    (end_colour c.args.source.now.table c.letters-letters.ensures.table c.requires.weak c.requires.fractions c.args.state c.out.result (slice_index c.args.ends.now c.out.result) c.args.ends.now
    c.requires.state c.requires.count c.requires.ends c.out.ensures.value refl) c.colour.ensures c.if-colour.true

pub returns-else-colour-clause-value : goal.returns-else-colour-clause-value
returns-else-colour-clause-value g c = zero_if_no (slice_index c.args.source.now.table.colours (slice_index c.args.ends.now c.out.result)) _ c.colour.result
    ((fraction_is_graph c.args.source.now.table c.letters-letters.ensures.table).colours_in (slice_index c.args.ends.now c.out.result) (search rules))
    (end_colour c.args.source.now.table c.letters-letters.ensures.table c.requires.weak c.requires.fractions c.args.state c.out.result (slice_index c.args.ends.now c.out.result) c.args.ends.now
    c.requires.state c.requires.count c.requires.ends c.out.ensures.value refl) c.colour.ensures c.if-colour.false
