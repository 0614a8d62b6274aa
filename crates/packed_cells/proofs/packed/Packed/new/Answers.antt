use Rattle.std.proofs.Common.{rules, ◌≡◌, ◌^◌, replicate, ap, ◌∙◌}
use Rattle.std.proofs.lemmas.Nat.{pow_pos}
use Rattle.packed_cells.specs.Digits.{number_of, digits_of}
use Rattle.packed_cells.proofs.Digits.{digits_of-zero, number_of-zeros}
use Rattle.packed_cells.proofs.packed.Packed.new.Goals as goal

pub returns-in-Ok : goal.returns-in-Ok
returns-in-Ok c =
    let zeros : c.in-Ok.words.items ≡ replicate c.div_ceil.result 0 = search rules in
    ap (λ items. record { items = items; bits = c.args.bits }) (ap (digits_of (2 ^ c.args.bits) c.args.len) (ap (number_of (2 ^ 64)) zeros ∙ number_of-zeros (2 ^ 64) c.div_ceil.result) ∙ digits_of-zero (2 ^ c.args.bits) c.args.len (pow_pos c.args.bits))
