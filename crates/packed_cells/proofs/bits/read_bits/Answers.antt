use Rattle.std.proofs.Common.{◌%◌, ◌/◌, ◌^◌, ap, ◌∙◌}
use Rattle.packed_cells.proofs.Fields.{field_of_pair}
use Rattle.packed_cells.proofs.bits.read_bits.Goals as goal

pub returns : goal.returns
returns c = c.field.ensures ∙ ap (λ p. p / 2 ^ (c.args.place % 64) % 2 ^ c.args.bits) c.pair_at.ensures.pair ∙ field_of_pair c.args.words.now c.args.place c.args.bits c.pair_at.ensures.words c.requires.some c.requires.few c.requires.within
