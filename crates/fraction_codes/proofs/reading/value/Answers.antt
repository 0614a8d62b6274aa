-- The three words in turn: their room, what is gained, and the fraction in lowest terms.
use Rattle.std.proofs.Common.{◌≡◌, ℕ, ◌+◌, ◌*◌, ◌^◌, ◌≤◌, ◌<◌, ◌==◌, length, arith, refl, ap, subst, sym, ◌∙◌}
use Rattle.digit_codes.specs.Reading.{lasso_of}
use Rattle.lash_model.specs.Letters.{sign_bit}
use Rattle.lash_model.specs.Lassos.{numerator}
use Rattle.fraction_codes.specs.Steps.{turned}
use Rattle.fraction_codes.proofs.Digits.{few_signs}
use Rattle.fraction_codes.proofs.LowestTerms.{value_is}
use Rattle.fraction_codes.proofs.ReadingOn.{IsLassoRead, lasso_read, first_room, second_room, third_room, end_room, turned_is, denominator_read, denominator_positive, denominator_small, numerator_read}
use Rattle.fraction_codes.proofs.reading.value.Goals as goal

room_of : (q r n : ℕ) → q ≡ r → q ^ n ≤ 2 ^ 100 → r ^ n ≤ 2 ^ 100
room_of q r n e h = subst (λ b. b ^ n ≤ 2 ^ 100) e h

pub sign_digit-negative-requires-clause-few : goal.sign_digit-negative-requires-clause-few
sign_digit-negative-requires-clause-few c = few_signs c.args.base c.args.tracks (omega (arith, c.radix.ensures.low)) c.requires.few

pub read_on-point-requires-clause-room : goal.read_on-point-requires-clause-room
read_on-point-requires-clause-room c =
    let room : c.args.base ^ (length c.args.lasso.now.whole + length c.args.lasso.now.stem + length c.args.lasso.now.cycle) ≤ 2 ^ 100 = room_of c.radix.result c.args.base _ c.radix.ensures.value (c.if-not-is_short.ensures.short refl) in
    rw c.letters.ensures (first_room c.args.base (length c.args.lasso.now.whole) (length c.args.lasso.now.stem) (length c.args.lasso.now.cycle) (omega (arith, c.radix.ensures.low)) room)

pub read_on-stem-requires-clause-room : goal.read_on-stem-requires-clause-room
read_on-stem-requires-clause-room c =
    let room : c.args.base ^ (length c.args.lasso.now.whole + length c.args.lasso.now.stem + length c.args.lasso.now.cycle) ≤ 2 ^ 100 = room_of c.radix.result c.args.base _ c.radix.ensures.value (c.if-not-is_short.ensures.short refl) in
    rw c.letters-2.ensures (second_room c.args.base (length c.args.lasso.now.whole) (length c.args.lasso.now.stem) (length c.args.lasso.now.cycle) c.read_on-point.result.power (omega (arith, c.radix.ensures.low)) room (c.read_on-point.ensures.power ∙ ap (λ w. 1 * c.args.base ^ length w) c.letters.ensures))

pub read_on-end-requires-clause-room : goal.read_on-end-requires-clause-room
read_on-end-requires-clause-room c =
    let room : c.args.base ^ (length c.args.lasso.now.whole + length c.args.lasso.now.stem + length c.args.lasso.now.cycle) ≤ 2 ^ 100 = room_of c.radix.result c.args.base _ c.radix.ensures.value (c.if-not-is_short.ensures.short refl) in
    rw c.letters-3.ensures (third_room c.args.base (length c.args.lasso.now.whole) (length c.args.lasso.now.stem) (length c.args.lasso.now.cycle) c.read_on-point.result.power c.read_on-stem.result.power room (c.read_on-point.ensures.power ∙ ap (λ w. 1 * c.args.base ^ length w) c.letters.ensures) (c.read_on-stem.ensures.power ∙ ap (λ w. c.read_on-point.result.power * c.args.base ^ length w) c.letters-2.ensures))

pub numerator-requires : goal.numerator-requires
numerator-requires c =
    let room : c.args.base ^ (length c.args.lasso.now.whole + length c.args.lasso.now.stem + length c.args.lasso.now.cycle) ≤ 2 ^ 100 = room_of c.radix.result c.args.base _ c.radix.ensures.value (c.if-not-is_short.ensures.short refl) in
    let read : IsLassoRead c.args.base c.args.tracks c.args.track (lasso_of c.args.lasso.now) c.read_on-point.result c.read_on-stem.result c.read_on-end.result = lasso_read _ _ _ _ _ _ _ _ _ _ c.letters.ensures c.letters-2.ensures c.letters-3.ensures c.read_on-point.ensures c.read_on-stem.ensures c.read_on-end.ensures in
    turned_is c.args.base c.args.tracks c.args.track (lasso_of c.args.lasso.now) c.read_on-point.result c.read_on-stem.result c.read_on-end.result (omega (arith, c.radix.ensures.low)) c.requires.track c.requires.lasso read (end_room c.args.base c.args.tracks c.args.track (lasso_of c.args.lasso.now) c.read_on-point.result c.read_on-stem.result c.read_on-end.result read room)

pub lowest-requires-clause-positive : goal.lowest-requires-clause-positive
lowest-requires-clause-positive c =
    let read : IsLassoRead c.args.base c.args.tracks c.args.track (lasso_of c.args.lasso.now) c.read_on-point.result c.read_on-stem.result c.read_on-end.result = lasso_read _ _ _ _ _ _ _ _ _ _ c.letters.ensures c.letters-2.ensures c.letters-3.ensures c.read_on-point.ensures c.read_on-stem.ensures c.read_on-end.ensures in
    subst (λ d. 0 < d) (sym (denominator_read c.args.base c.args.tracks c.args.track (lasso_of c.args.lasso.now) c.read_on-point.result c.read_on-stem.result c.read_on-end.result (omega (arith, c.radix.ensures.low)) read)) (denominator_positive c.args.base c.args.tracks (lasso_of c.args.lasso.now) c.radix.ensures.low c.requires.lasso)

pub lowest-requires-clause-den : goal.lowest-requires-clause-den
lowest-requires-clause-den c =
    let room : c.args.base ^ (length c.args.lasso.now.whole + length c.args.lasso.now.stem + length c.args.lasso.now.cycle) ≤ 2 ^ 100 = room_of c.radix.result c.args.base _ c.radix.ensures.value (c.if-not-is_short.ensures.short refl) in
    let read : IsLassoRead c.args.base c.args.tracks c.args.track (lasso_of c.args.lasso.now) c.read_on-point.result c.read_on-stem.result c.read_on-end.result = lasso_read _ _ _ _ _ _ _ _ _ _ c.letters.ensures c.letters-2.ensures c.letters-3.ensures c.read_on-point.ensures c.read_on-stem.ensures c.read_on-end.ensures in
    denominator_small c.args.base c.args.tracks c.args.track (lasso_of c.args.lasso.now) c.read_on-point.result c.read_on-stem.result c.read_on-end.result (omega (arith, c.radix.ensures.low)) read room

pub returns-clause-value : goal.returns-clause-value
returns-clause-value c =
    let read : IsLassoRead c.args.base c.args.tracks c.args.track (lasso_of c.args.lasso.now) c.read_on-point.result c.read_on-stem.result c.read_on-end.result = lasso_read _ _ _ _ _ _ _ _ _ _ c.letters.ensures c.letters-2.ensures c.letters-3.ensures c.read_on-point.ensures c.read_on-stem.ensures c.read_on-end.ensures in
    let bit : sign_bit c.args.tracks c.args.track c.args.lasso.now.sign < 2 = subst (λ s. s < 2) c.sign_digit-negative.ensures.value c.sign_digit-negative.ensures.below in
    let is : turned (sign_bit c.args.tracks c.args.track c.args.lasso.now.sign == 1) c.read_on-stem.result c.read_on-end.result ≡ numerator c.args.base c.args.tracks c.args.track (lasso_of c.args.lasso.now) = numerator_read c.args.base c.args.tracks c.args.track (lasso_of c.args.lasso.now) c.read_on-point.result c.read_on-stem.result c.read_on-end.result (omega (arith, c.radix.ensures.low)) bit read in
    value_is c.args.base c.args.tracks c.args.track (lasso_of c.args.lasso.now) _ _ c.lowest.result (denominator_read c.args.base c.args.tracks c.args.track (lasso_of c.args.lasso.now) c.read_on-point.result c.read_on-stem.result c.read_on-end.result (omega (arith, c.radix.ensures.low)) read) (c.numerator.ensures.value ∙ ap (λ s. turned (s == 1) c.read_on-stem.result c.read_on-end.result) c.sign_digit-negative.ensures.value ∙ is) c.lowest.ensures
