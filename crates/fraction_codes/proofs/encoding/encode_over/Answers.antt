use Rattle.std.proofs.Common.{◌≡◌, All, length, map, ap, ◌∙◌}
use Rattle.std.proofs.lemmas.List.{take_at}
use Rattle.lash_model.specs.Lassos.{Lasso}
use Rattle.fraction_codes.specs.Fractions.{IsFraction}
use Rattle.fraction_codes.specs.FixedCodes.{first_rest}
use Rattle.fraction_codes.specs.LongDivision.{rests_after, letters_of}
use Rattle.fraction_codes.proofs.Coding.{small_fractions, fixed_code, first_rests_below, IsMade}
use Rattle.fraction_codes.proofs.LongRuns.{length-rests_after}
use Rattle.fraction_codes.proofs.Digits.{few_signs}
use Rattle.fraction_codes.proofs.encoding.encode_over.Goals as goal

pub sign_vector-sign-requires : goal.sign_vector-sign-requires
sign_vector-sign-requires c = few_signs c.args.radix (length c.args.values.now) c.requires.low c.requires.few

pub returns : goal.returns
returns c =
    let first : c.deref_mut.result.now ≡ map (first_rest c.args.divisor) c.args.values.now = c.deref_mut.ensures.value ∙ c.in_ok-rests.ensures.value in
    let count : length c.divide_on.new.rests ≡ c.in_ok-rests.rests.len = ap length c.in_ok-stem.ensures.rests ∙ length-rests_after c.args.radix c.from.result c.in_ok-turn.turn.stem c.deref_mut.result.now ∙ c.deref_mut.ensures.len in
    let second : c.deref_mut-2.result.now ≡ c.divide_on.new.rests = c.deref_mut-2.ensures.value ∙ take_at c.divide_on.new.rests _ c.in_ok-rests.rests.len count in
    let fractions : All IsFraction c.args.values.now = small_fractions c.args.values.now c.requires.small in
    let x : Lasso = record { sign = c.sign_vector-sign.result; whole = c.in_ok-whole.whole; stem = c.in_ok-stem.stem; cycle = c.in_ok-cycle.cycle } in
    let made : IsMade c.args.radix c.args.divisor c.args.values.now x c.in_ok-turn.turn = record {
      sign = c.sign_vector-sign.ensures;
      whole = record { enough = c.in_ok-whole.ensures.room.enough; letters = c.in_ok-whole.ensures.letters };
      turn = c.in_ok-turn.ensures;
      below = first_rests_below c.args.values.now c.args.divisor c.requires.common.positive fractions c.requires.common.clears;
      stem = c.in_ok-stem.ensures.letters ∙ ap (λ d. letters_of c.args.radix d c.in_ok-turn.turn.stem c.deref_mut.result.now) c.from.ensures ∙ ap (λ xs. letters_of c.args.radix c.args.divisor c.in_ok-turn.turn.stem xs) first;
      cycle = c.in_ok-cycle.ensures.letters ∙ ap (λ d. letters_of c.args.radix d c.in_ok-turn.turn.cycle c.deref_mut-2.result.now) c.from-2.ensures ∙ ap (λ xs. letters_of c.args.radix c.args.divisor c.in_ok-turn.turn.cycle xs) (second ∙ c.in_ok-stem.ensures.rests ∙ ap (λ d. rests_after c.args.radix d c.in_ok-turn.turn.stem c.deref_mut.result.now) c.from.ensures ∙ ap (λ xs. rests_after c.args.radix c.args.divisor c.in_ok-turn.turn.stem xs) first);
    } in
    fixed_code c.args.radix c.args.divisor c.args.values.now x c.in_ok-turn.turn c.requires.low fractions c.requires.common c.in_ok-whole.ensures.room made
