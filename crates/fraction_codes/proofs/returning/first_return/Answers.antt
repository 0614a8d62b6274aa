-- One power more was marked, or the power at hand was met before.
use Rattle.std.proofs.Common.{ℕ, ◌-◌, ◌<◌, length, arith, ◌∙◌, sym, subst}
use Rattle.std.proofs.lemmas.List.{get_or_read}
use Rattle.fraction_codes.specs.Steps.{IsPowerTurn}
use Rattle.fraction_codes.proofs.Turning.{marks_more, marks_inside, met_again, turn_is}
use Rattle.fraction_codes.proofs.returning.first_return.Goals as goal

pub loop-place-preserved : goal.loop-place-preserved
loop-place-preserved c =
    let read = get_or_read c.loop-place.met.items c.loop-place.power c.index.result.now (marks_inside c.args.radix c.args.divisor c.loop-place.place c.loop-place.power c.loop-place.met.items c.requires.divisor c.loop-place.invariant) c.index.ensures 0 in
    marks_more c.args.radix c.args.divisor c.loop-place.place c.loop-place.power c.loop-place.met.items c.requires.divisor (sym read ∙ c.loop-place-test.true) c.loop-place.invariant

pub overflow_sub-result : goal.overflow_sub-result
overflow_sub-result c =
    let inside : c.loop-place.power < length c.loop-place.met.items = marks_inside c.args.radix c.args.divisor c.loop-place.place c.loop-place.power c.loop-place.met.items c.requires.divisor c.loop-place.invariant in
    let read = get_or_read c.loop-place.met.items c.loop-place.power c.index.result.now inside c.index.ensures 0 in
    let again = get_or_read c.loop-place.met.items c.loop-place.power c.index-2.result.now inside c.index-2.ensures 0 in
    let met = met_again c.args.radix c.args.divisor c.loop-place.place c.loop-place.power c.loop-place.met.items c.requires.divisor (λ e. c.loop-place-test.false (read ∙ e)) c.loop-place.invariant in
    omega (arith, again, met.below)

pub returns : goal.returns
returns c =
    let inside : c.loop-place.power < length c.loop-place.met.items = marks_inside c.args.radix c.args.divisor c.loop-place.place c.loop-place.power c.loop-place.met.items c.requires.divisor c.loop-place.invariant in
    let read = get_or_read c.loop-place.met.items c.loop-place.power c.index.result.now inside c.index.ensures 0 in
    let again = get_or_read c.loop-place.met.items c.loop-place.power c.index-2.result.now inside c.index-2.ensures 0 in
    let P : ℕ → Type 0 = λ m. IsPowerTurn c.args.radix c.args.divisor (record { stem = m - 1; cycle = c.loop-place.place - (m - 1) }) in
    subst P (sym again) (turn_is c.args.radix c.args.divisor c.loop-place.place c.loop-place.power c.loop-place.met.items c.requires.divisor (λ e. c.loop-place-test.false (read ∙ e)) c.loop-place.invariant)
