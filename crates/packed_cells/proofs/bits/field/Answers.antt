use Rattle.std.proofs.Common.{◌/◌, ◌-◌, ◌^◌, bit_and, ap, ◌∙◌, arith}
use Rattle.std.proofs.lemmas.Nat.{one_shl, and_mask}
use Rattle.packed_cells.proofs.bits.field.Goals as goal

pub returns : goal.returns
returns c = ap (λ m. bit_and (c.args.pair / 2 ^ c.args.shift) (m - 1)) (one_shl c.args.bits 128 (omega (arith, c.requires.bits))) ∙ and_mask (c.args.pair / 2 ^ c.args.shift) c.args.bits
