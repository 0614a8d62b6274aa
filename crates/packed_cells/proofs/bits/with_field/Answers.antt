use Rattle.std.proofs.Common.{◌∙◌, arith}
use Rattle.packed_cells.proofs.Fields.{replaced_fits}
use Rattle.packed_cells.proofs.bits.with_field.Goals as goal

pub overflow_add-result : goal.overflow_add-result
overflow_add-result c = record { fits = replaced_fits c.args.pair c.args.shift c.args.bits c.from-old.result c.from.result 128 (c.from-old.ensures ∙ c.field.ensures) c.requires.shift c.requires.bits (rw c.from.ensures c.requires.value) (omega (arith, c.requires.shift, c.requires.bits)) c.ranges.pair.fits }

pub returns-clause-low : goal.returns-clause-low
returns-clause-low c = λ h few. replaced_fits c.args.pair c.args.shift c.args.bits c.from-old.result c.from.result 64 (c.from-old.ensures ∙ c.field.ensures) c.requires.shift c.requires.bits (rw c.from.ensures c.requires.value) few h
