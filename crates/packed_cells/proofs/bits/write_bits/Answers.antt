use Rattle.std.proofs.Common.{◌+◌, ◌/◌, ◌%◌, ◌^◌, ◌≤◌, ◌∙◌, arith}
use Rattle.std.proofs.Math.Nat.{mod-eq_of_lt}
use Rattle.packed_cells.proofs.Digits.{number_changed}
use Rattle.packed_cells.proofs.Fields.{number_exchanged, pair_changed, one_word, two_words}
use Rattle.packed_cells.proofs.bits.write_bits.Goals as goal

pub returns-then-shift-bits-gt64-clause-changed : goal.returns-then-shift-bits-gt64-clause-changed
returns-then-shift-bits-gt64-clause-changed c =
    number_exchanged c.args.words.now _ c.args.place c.args.bits c.pair_at.result c.with_field-pair.result c.args.value c.pair_at.ensures.words c.requires.some c.requires.few c.requires.within c.pair_at.ensures.pair c.with_field-pair.ensures.changed
    (rw (c.pair_at.ensures.pair ∙ two_words c.args.words.now (c.args.place / 64) (c.args.place % 64 + c.args.bits) c.if-shift-bits-gt64.true)
    (pair_changed c.args.words.now (c.args.place / 64) c.with_field-pair.result (omega (arith, c.requires.within, c.if-shift-bits-gt64.true))))

pub returns-else-shift-bits-gt64-clause-changed : goal.returns-else-shift-bits-gt64-clause-changed
returns-else-shift-bits-gt64-clause-changed c =
    let few : c.args.place % 64 + c.args.bits ≤ 64 = omega (arith, c.if-shift-bits-gt64.false) in
    let single = c.pair_at.ensures.pair ∙ one_word c.args.words.now (c.args.place / 64) (c.args.place % 64 + c.args.bits) few in
    number_exchanged c.args.words.now _ c.args.place c.args.bits c.pair_at.result c.with_field-pair.result c.args.value c.pair_at.ensures.words c.requires.some c.requires.few c.requires.within c.pair_at.ensures.pair c.with_field-pair.ensures.changed
    (rw (mod-eq_of_lt (c.with_field-pair.ensures.low (rw single (c.pair_at.ensures.words (c.args.place / 64))) few), single)
    (number_changed (2 ^ 64) c.args.words.now (c.args.place / 64) c.with_field-pair.result (omega (arith, c.requires.within, c.requires.some))))
