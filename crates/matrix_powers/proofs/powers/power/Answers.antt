use Rattle.std.proofs.Common.{◌+◌, get_or, subst}
use Rattle.matrix_powers.specs.Products.{HaveSameEntries, IsExtendedTwice}
use Rattle.matrix_powers.proofs.Searching.{great_base, searching_found}
use Rattle.matrix_powers.proofs.powers.power.Goals as goal

pub returns-then-not-is_small : goal.returns-then-not-is_small
returns-then-not-is_small c = great_base c.args.matrix.now (c.is_small.ensures.great c.if-not-is_small.true)

pub returns-then-has_entries_of : goal.returns-then-has_entries_of
returns-then-has_entries_of c =
    let twice = subst (IsExtendedTwice c.args.matrix.now c.loop-before.powers.items c.extend_twice.new.powers.items) c.in-Ok-true.field-0-test c.in-Ok-true.ensures in
    let powers = c.extend_twice.new.powers.items in
    let exponent = c.loop-before.before + 1 in
    let second = subst (HaveSameEntries c.index.result.now) c.index-in-loop-before.ensures (c.has_entries_of.ensures.same c.if-has_entries_of.true) in
    let same = subst (λ x. HaveSameEntries x (get_or powers (exponent + exponent) c.index-in-loop-before.result.now)) c.index.ensures second in
    searching_found c.args.matrix.now c.loop-before.before c.loop-before.powers.items c.extend_twice.new.powers.items c.index.result.now c.index-in-loop-before.result.now c.loop-before.invariant c.loop-before-test.true twice.0 twice.1 same
