use Rattle.std.proofs.Common.{◌^◌, sym, arith}
use Rattle.packed_cells.specs.Digits.{number_of}
use Rattle.packed_cells.proofs.Digits.{length-digits_of}
use Rattle.packed_cells.proofs.packed.Packed.word_count.Goals as goal

pub returns-clause-enough : goal.returns-clause-enough
returns-clause-enough c = rw (sym c.self.view_is, length-digits_of (2 ^ c.self.inside.bits) c.self.inside.len (number_of (2 ^ 64) c.self.inside.words.items), c.len.ensures) (omega (arith, c.self.invariant.enough, c.self.inside.words.ok))

pub returns-clause-least : goal.returns-clause-least
returns-clause-least c = rw (sym c.self.view_is, length-digits_of (2 ^ c.self.inside.bits) c.self.inside.len (number_of (2 ^ 64) c.self.inside.words.items), c.len.ensures) (λ words h. omega (arith, c.self.invariant.least, c.self.inside.words.ok, h))
