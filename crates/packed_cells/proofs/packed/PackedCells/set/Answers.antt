use Rattle.std.proofs.Common.{◌≡◌, ◌+◌, ◌*◌, ◌/◌, ◌%◌, ◌^◌, ◌<◌, slice_set, length, ap, sym, ◌∙◌, subst, arith}
use Rattle.std.proofs.lemmas.List.{with_items_is}
use Rattle.packed_cells.specs.Digits.{number_of, digits_of}
use Rattle.packed_cells.proofs.Fields.{cell_written, within_all, cell_within}
use Rattle.packed_cells.proofs.packed.PackedCells.set.Goals as goal

pub overflow_mul-at : goal.overflow_mul-at
overflow_mul-at c = record { fits = omega (arith, within_all c.args.at c.self.inside.len c.self.inside.bits (2 ^ 40) (cell_within c.self.inside.bits c.self.inside.len (number_of (2 ^ 64) c.self.inside.words.items) c.args.at c.args.self.now.items (ap (λ v. v.items) c.self.view_is) c.requires.place) c.self.invariant.few) }

pub write_bits-requires-clause-within : goal.write_bits-requires-clause-within
write_bits-requires-clause-within c = rw c.as_mut_slice.ensures.value (within_all c.args.at c.self.inside.len c.self.inside.bits (length c.self.inside.words.items * 64) (cell_within c.self.inside.bits c.self.inside.len (number_of (2 ^ 64) c.self.inside.words.items) c.args.at c.args.self.now.items (ap (λ v. v.items) c.self.view_is) c.requires.place) c.self.invariant.enough)

pub returns-clause-items : goal.returns-clause-items
returns-clause-items c =
    let back = with_items_is c.self.inside.words c.write_bits.new.words (c.write_bits.ensures.count ∙ ap length c.as_mut_slice.ensures.value ∙ sym c.self.inside.words.ok.0) in
    ap (λ ws. digits_of (2 ^ c.self.inside.bits) c.self.inside.len (number_of (2 ^ 64) ws)) back
    ∙ cell_written c.self.inside.words.items c.write_bits.new.words c.self.inside.bits c.self.inside.len c.args.at c.args.value (cell_within c.self.inside.bits c.self.inside.len (number_of (2 ^ 64) c.self.inside.words.items) c.args.at c.args.self.now.items (ap (λ v. v.items) c.self.view_is) c.requires.place) (subst (λ b. c.args.value < 2 ^ b) (ap (λ v. v.bits) (sym c.self.view_is)) c.requires.value) (subst (λ ws. number_of (2 ^ 64) c.write_bits.new.words + number_of (2 ^ 64) ws / 2 ^ (c.args.at * c.self.inside.bits) % 2 ^ c.self.inside.bits * 2 ^ (c.args.at * c.self.inside.bits) ≡ number_of (2 ^ 64) ws + c.args.value * 2 ^ (c.args.at * c.self.inside.bits)) c.as_mut_slice.ensures.value c.write_bits.ensures.changed)
    ∙ ap (λ items. slice_set items c.args.at c.args.value) (ap (λ v. v.items) c.self.view_is)
