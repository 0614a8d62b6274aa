use Rattle.std.proofs.Common.{arith, ◌≡◌, ◌<◌, ◌∙◌, ap, refl, length, slice_index, take}
use Rattle.lash_model.specs.Letters.{digits, number}
use Rattle.product_ops.specs.Tracks.{pick}
use Rattle.product_ops.proofs.TrackReading.{place_in, digit_below, room, turn, all_read}
use Rattle.product_ops.proofs.reading.read_letter.Goals as goal

pub loop-place-init : goal.loop-place-init
unfolding number
loop-place-init c = refl

pub overflow_mul-read : goal.overflow_mul-read
overflow_mul-read c =
    let some : 0 < c.args.base = omega (arith, c.radix-radix.ensures.low) in
    omega (arith, room c.args.base c.args.tracks c.args.places.now c.args.letter c.loop-place.place-index c.loop-place.read c.radix-radix.result some c.requires.places.below c.requires.letter c.loop-place-test.true c.requires.fits c.loop-place.invariant c.radix-radix.ensures.value)

pub overflow_add-read : goal.overflow_add-read
overflow_add-read c =
    let some : 0 < c.args.base = omega (arith, c.radix-radix.ensures.low) in
    omega (
      arith,
      room c.args.base c.args.tracks c.args.places.now c.args.letter c.loop-place.place-index c.loop-place.read c.radix-radix.result some c.requires.places.below c.requires.letter c.loop-place-test.true c.requires.fits c.loop-place.invariant c.radix-radix.ensures.value,
      c.letter_digit.ensures,
      digit_below c.args.base c.args.tracks (slice_index c.args.places.now c.loop-place.place-index) c.args.letter some c.requires.letter (place_in c.args.tracks c.args.places.now c.loop-place.place-index c.requires.places.below c.loop-place-test.true),
    )

pub loop-place-preserved : goal.loop-place-preserved
loop-place-preserved c = turn c.args.base c.args.tracks c.args.places.now c.args.letter c.loop-place.place-index c.loop-place.read c.radix-radix.result c.letter_digit.result c.loop-place-test.true c.loop-place.invariant c.radix-radix.ensures.value c.letter_digit.ensures

pub returns : goal.returns
returns c =
    let end : c.loop-place.place-index ≡ length c.args.places.now = omega (arith, c.loop-place-test.false, c.loop-place.auto.place-index-end) in
    c.loop-place.invariant ∙ ap (λ k. number c.args.base (pick (take k c.args.places.now) (digits c.args.base c.args.tracks c.args.letter))) end ∙ all_read c.args.base c.args.tracks c.args.places.now c.args.letter
