use Rattle.std.proofs.Common.{◌^◌, length, ap, sym, ◌∙◌}
use Rattle.packed_cells.specs.Digits.{number_of}
use Rattle.packed_cells.proofs.Digits.{length-digits_of}
use Rattle.packed_cells.proofs.packed.PackedCells.len.Goals as goal

pub returns : goal.returns
returns c = sym (length-digits_of (2 ^ c.self.inside.bits) c.self.inside.len (number_of (2 ^ 64) c.self.inside.words.items)) ∙ ap (λ v. length v.items) c.self.view_is
