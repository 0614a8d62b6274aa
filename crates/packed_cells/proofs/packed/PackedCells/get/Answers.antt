use Rattle.std.proofs.Common.{◌*◌, ◌/◌, ◌%◌, ◌^◌, slice_index, length, ap, sym, ◌∙◌, arith}
use Rattle.packed_cells.specs.Digits.{number_of}
use Rattle.packed_cells.proofs.Fields.{cell_read, within_all, cell_within}
use Rattle.packed_cells.proofs.packed.PackedCells.get.Goals as goal

pub overflow_mul-at : goal.overflow_mul-at
overflow_mul-at c = record { fits = omega (arith, within_all c.args.at c.self.inside.len c.self.inside.bits (2 ^ 40) (cell_within c.self.inside.bits c.self.inside.len (number_of (2 ^ 64) c.self.inside.words.items) c.args.at c.args.self.now.items (ap (λ v. v.items) c.self.view_is) c.requires) c.self.invariant.few) }

pub read_bits-requires-clause-within : goal.read_bits-requires-clause-within
read_bits-requires-clause-within c = rw c.as_slice.ensures.value (within_all c.args.at c.self.inside.len c.self.inside.bits (length c.self.inside.words.items * 64) (cell_within c.self.inside.bits c.self.inside.len (number_of (2 ^ 64) c.self.inside.words.items) c.args.at c.args.self.now.items (ap (λ v. v.items) c.self.view_is) c.requires) c.self.invariant.enough)

pub returns-clause-value : goal.returns-clause-value
returns-clause-value c =
    c.read_bits.ensures
    ∙ ap (λ ws. number_of (2 ^ 64) ws / 2 ^ (c.args.at * c.self.inside.bits) % 2 ^ c.self.inside.bits) c.as_slice.ensures.value
    ∙ sym (cell_read c.self.inside.words.items c.self.inside.bits c.self.inside.len c.args.at (cell_within c.self.inside.bits c.self.inside.len (number_of (2 ^ 64) c.self.inside.words.items) c.args.at c.args.self.now.items (ap (λ v. v.items) c.self.view_is) c.requires))
    ∙ ap (λ v. slice_index v.items c.args.at) c.self.view_is
