-- The parts of an encoding make the fixed code, and its vector is the given one.
use Rattle.std.proofs.Common.{◌≡◌, ℕ, zero, suc, ◌+◌, ◌-◌, ◌*◌, ◌^◌, ◌≤◌, ◌<◌, List, [], ◌∷◌, length, map, get_or, Some, arith, refl, ◌∙◌, sym, ap, subst}
use Rattle.std.proofs.Math.IntN.{ℤ, pos, negsuc, ◌+ℤ◌, ◌-ℤ◌, ◌*ℤ◌}
use Rattle.std.specs.Prelude.{All, slice_get, ◌≤ℤ◌, unsigned_abs}
use Rattle.std.proofs.Math.Nat.{eq_of_mul-eq-mul_right}
use Rattle.std.proofs.lemmas.Int.{ints}
use Rattle.std.proofs.lemmas.List.{get_or-map, length-map}
use Rattle.std.proofs.lemmas.List.Elements.{All-weaker, All-map}
use Rattle.integer_laws.proofs.Ring.{diff_same, diff_add, diff_mul, pos_diff, by_diff}
use Rattle.lash_model.specs.Letters.{number, AreDigits, digit, sign_bit}
use Rattle.lash_model.specs.Words.{spelled, value}
use Rattle.lash_model.specs.Lassos.{Lasso, IsLasso, denominator, numerator}
use Rattle.lash_model.proofs.Digits.{digits-number, power_positive}
use Rattle.fraction_codes.specs.declared.ratio.Ratio.{Ratio}
use Rattle.fraction_codes.specs.declared.returning.Turn.{Turn}
use Rattle.fraction_codes.specs.Fractions.{IsFraction, IsSmall, IsWholeTimes, IsCommonDenominator, sign_of, floor, above_floor}
use Rattle.fraction_codes.specs.FixedCodes.{IsWithin, IsFixedCode, SpellsVector, first_rest}
use Rattle.fraction_codes.specs.LongDivision.{rests_after, letters_of, IsFirstMetAgain}
use Rattle.fraction_codes.specs.Steps.{IsPowerTurn, IsFloorCount, IsWholeWord, sign_distance, raised}
use Rattle.fraction_codes.proofs.Counting.{sign_bits_below, signs_below}
use Rattle.fraction_codes.proofs.Flooring.{floor_sign, inside_is, distance_inside, lowered, raised_below, floor_parts, above_below}
use Rattle.fraction_codes.proofs.LongRuns.{length-letters_of, rests_add, length-rests_after, rests_below, letters_below, long_is, power_spells}
use Rattle.fraction_codes.proofs.Meeting.{first_rest_times, rests_same, met_is}

-- what stands at a place
pub record IsEntry (vs : List Ratio) (i : ℕ) (v : Ratio) : Type 0 where
  pub inside : i < length vs
  pub is : get_or vs i v ≡ v

pub entry_is : (vs : List Ratio) (i : ℕ) (v : Ratio) → slice_get vs i ≡ Some v → IsEntry vs i v
entry_is [] i v e = absurd (cc)
entry_is (x ∷ vs) zero v e = record { inside = omega arith; is = cc }
entry_is (x ∷ vs) (suc i) v e = let rest = entry_is vs i v e in record { inside = omega (arith, rest.inside); is = rest.is }

-- what holds of all holds of an entry
at_entry : (P : Ratio → Type 0) (vs : List Ratio) (i : ℕ) (v : Ratio) → All P vs → IsEntry vs i v → P v
at_entry P vs i v all here = subst P here.is (all i v here.inside)

mapped_entry : (f : Ratio → ℕ) (vs : List Ratio) (i : ℕ) (v : Ratio) → IsEntry vs i v → get_or (map f vs) i 0 ≡ f v
mapped_entry f vs i v here = get_or-map f vs i v 0 here.inside ∙ ap f here.is

-- the bits of the sign vector are the signs
pub sign_is : (vs : List Ratio) (i : ℕ) (v : Ratio) → IsEntry vs i v → sign_bit (length vs) i (number 2 (map (λ v. sign_of v.num) vs)) ≡ sign_of v.num
unfolding sign_bit digit
sign_is vs i v here = ap (λ ds. get_or ds i 0) (digits-number 2 (length vs) (map (λ v. sign_of v.num) vs) are) ∙ mapped_entry (λ v. sign_of v.num) vs i v here
  where
    are : AreDigits 2 (length vs) (map (λ v. sign_of v.num) vs)
    are = record { count = length-map vs (λ v. sign_of v.num); below = sign_bits_below vs }

raised_all_below : (p : ℕ) (vs : List Ratio) → All (λ v. sign_distance (floor v) < p) vs → All (λ x. x < p) (map (λ v. raised p (floor v)) vs)
raised_all_below p vs all = All-map (λ x. x < p) (λ v. raised p (floor v)) vs (All-weaker (λ v. sign_distance (floor v) < p) (λ v. raised p (floor v) < p) (λ v h. raised_below p (floor v) h) vs all)

pub small_fractions : (vs : List Ratio) → All IsSmall vs → All IsFraction vs
small_fractions vs all = All-weaker IsSmall IsFraction (λ v h. record { positive = h.positive }) vs all

-- a word that has room for all floors, of the letters of the division of the raised floors
pub record IsRoomyWord (r : ℕ) (vs : List Ratio) (w : List ℕ) : Type 0 where
  pub enough : All (λ v. sign_distance (floor v) < r ^ length w) vs
  pub letters : w ≡ letters_of r (r ^ length w) (length w) (map (λ v. raised (r ^ length w) (floor v)) vs)

-- the letters of such a word, and what they spell
pub whole_below : (r : ℕ) (vs : List Ratio) (w : List ℕ) → 0 < r → IsRoomyWord r vs w → All (λ l. l < r ^ length vs) w
whole_below r vs w h is =
    let P : List ℕ → Type 0 = All (λ l. l < r ^ length vs) in
    let Q : ℕ → Type 0 = λ n. All (λ l. l < r ^ n) (letters_of r (r ^ length w) (length w) (map (λ v. raised (r ^ length w) (floor v)) vs)) in
    subst P (sym is.letters) (subst Q (length-map vs (λ v. raised (r ^ length w) (floor v))) (letters_below r (r ^ length w) (length w) (map (λ v. raised (r ^ length w) (floor v)) vs) h (raised_all_below (r ^ length w) vs is.enough)))

pub whole_spells : (r : ℕ) (vs : List Ratio) (w : List ℕ) (i : ℕ) (v : Ratio) → 0 < r → IsRoomyWord r vs w → IsEntry vs i v → spelled r (length vs) i w ≡ raised (r ^ length w) (floor v)
whole_spells r vs w i v h is here =
    ap (spelled r (length vs) i) is.letters
    ∙ power_spells r (length vs) i (length w) (map (λ v. raised (r ^ length w) (floor v)) vs) h (sym (length-map vs (λ v. raised (r ^ length w) (floor v)))) here.inside (raised_all_below (r ^ length w) vs is.enough)
    ∙ mapped_entry (λ v. raised (r ^ length w) (floor v)) vs i v here

pub whole_value : (r sign : ℕ) (vs : List Ratio) (w : List ℕ) (i : ℕ) (v : Ratio) → 0 < r → All IsFraction vs → sign ≡ number 2 (map (λ v. sign_of v.num) vs) → IsRoomyWord r vs w → IsEntry vs i v → value r (length vs) i sign w ≡ floor v
unfolding value
whole_value r sign vs w i v h small e is here =
    ap (λ s. pos s -ℤ pos (sign_bit (length vs) i sign * r ^ length w)) (whole_spells r vs w i v h is here)
    ∙ ap (λ b. pos (raised (r ^ length w) (floor v)) -ℤ pos (b * r ^ length w)) bit
    ∙ lowered (r ^ length w) (floor v) (at_entry (λ v. sign_distance (floor v) < r ^ length w) vs i v is.enough here)
  where
    bit : sign_bit (length vs) i sign ≡ sign_of (floor v)
    bit = ap (sign_bit (length vs) i) e ∙ sign_is vs i v here ∙ sym (floor_sign v.num v.den (at_entry IsFraction vs i v small here).positive)

-- the room for the floors, as the definition has it
within_all : (r k : ℕ) (vs : List Ratio) → All (λ v. sign_distance (floor v) < r ^ k) vs → All (IsWithin r k) vs
within_all r k vs all = All-weaker (λ v. sign_distance (floor v) < r ^ k) (IsWithin r k) (λ v h. let i = inside_is (r ^ k) (floor v) h in (i.low, i.high)) vs all

all_within : (r k : ℕ) (vs : List Ratio) → All (IsWithin r k) vs → All (λ v. sign_distance (floor v) < r ^ k) vs
all_within r k vs all = All-weaker (IsWithin r k) (λ v. sign_distance (floor v) < r ^ k) (λ v h. distance_inside (r ^ k) (floor v) h.0 h.1) vs all

-- the letters of the fraction are in range
letters_in_range : (r d k : ℕ) (vs : List Ratio) (rests : List ℕ) → 0 < r → length rests ≡ length vs → All (λ p. p < d) rests → All (λ l. l < r ^ length vs) (letters_of r d k rests)
letters_in_range r d k vs rests h e all = let P : ℕ → Type 0 = λ n. All (λ l. l < r ^ n) (letters_of r d k rests) in subst P e (letters_below r d k rests h all)

-- what is made in parts
pub record IsMade (r d : ℕ) (vs : List Ratio) (x : Lasso) (t : Turn) : Type 0 where
  pub sign : x.sign ≡ number 2 (map (λ v. sign_of v.num) vs)
  pub whole : IsRoomyWord r vs x.whole
  pub turn : IsPowerTurn r d t
  pub below : All (λ p. p < d) (map (first_rest d) vs)
  pub stem : x.stem ≡ letters_of r d t.stem (map (first_rest d) vs)
  pub cycle : x.cycle ≡ letters_of r d t.cycle (rests_after r d t.stem (map (first_rest d) vs))

stem_length : (r d : ℕ) (vs : List Ratio) (x : Lasso) (t : Turn) → IsMade r d vs x t → length x.stem ≡ t.stem
stem_length r d vs x t made = ap length made.stem ∙ length-letters_of r d t.stem (map (first_rest d) vs)

cycle_length : (r d : ℕ) (vs : List Ratio) (x : Lasso) (t : Turn) → IsMade r d vs x t → length x.cycle ≡ t.cycle
cycle_length r d vs x t made = ap length made.cycle ∙ length-letters_of r d t.cycle (rests_after r d t.stem (map (first_rest d) vs))

pub made_in_range : (r d : ℕ) (vs : List Ratio) (x : Lasso) (t : Turn) → 0 < r → IsMade r d vs x t → IsLasso r (length vs) x
made_in_range r d vs x t h made =
    let P : List ℕ → Type 0 = All (λ l. l < r ^ length vs) in
    let rests : List ℕ = map (first_rest d) vs in
    record {
      sign = subst (λ s. s < 2 ^ length vs) (sym made.sign) (signs_below vs);
      whole = whole_below r vs x.whole h made.whole;
      stem = subst P (sym made.stem) (letters_in_range r d t.stem vs rests h (length-map vs (first_rest d)) made.below);
      cycle = subst P (sym made.cycle) (letters_in_range r d t.cycle vs (rests_after r d t.stem rests) h (length-rests_after r d t.stem rests ∙ length-map vs (first_rest d)) (rests_below r d t.stem rests made.below));
      turns = subst (λ k. 0 < k) (sym (cycle_length r d vs x t made)) made.turn.turns;
    }

-- the stem and the cycle by their own lengths
stem_by_length : (r d : ℕ) (vs : List Ratio) (x : Lasso) (t : Turn) → IsMade r d vs x t → x.stem ≡ letters_of r d (length x.stem) (map (first_rest d) vs)
stem_by_length r d vs x t made = made.stem ∙ ap (λ k. letters_of r d k (map (first_rest d) vs)) (sym (stem_length r d vs x t made))

cycle_by_length : (r d : ℕ) (vs : List Ratio) (x : Lasso) (t : Turn) → IsMade r d vs x t → x.cycle ≡ letters_of r d (length x.cycle) (rests_after r d (length x.stem) (map (first_rest d) vs))
cycle_by_length r d vs x t made = made.cycle ∙ ap (λ k. letters_of r d k (rests_after r d t.stem (map (first_rest d) vs))) (sym (cycle_length r d vs x t made)) ∙ ap (λ k. letters_of r d (length x.cycle) (rests_after r d k (map (first_rest d) vs))) (sym (stem_length r d vs x t made))

pub fixed_code : (r d : ℕ) (vs : List Ratio) (x : Lasso) (t : Turn) → 2 ≤ r → All IsFraction vs → IsCommonDenominator vs d → IsFloorCount r vs (length x.whole) → IsMade r d vs x t → IsFixedCode r vs d x
fixed_code r d vs x t h fractions common room made = record {
  in_range = made_in_range r d vs x t positive made;
  sign = λ i v e. ap (sign_bit (length vs) i) made.sign ∙ sign_is vs i v (entry_is vs i v e);
  enough = within_all r (length x.whole) vs room.enough;
  least = λ k all. room.least k (all_within r k vs all);
  whole = λ i v e. whole_value r x.sign vs x.whole i v positive fractions made.sign made.whole (entry_is vs i v e);
  met = let P : ℕ → Type 0 = λ k. IsFirstMetAgain (λ k. rests_after r d k (map (first_rest d) vs)) k (length x.cycle) in let Q : ℕ → Type 0 = λ k. IsFirstMetAgain (λ k. rests_after r d k (map (first_rest d) vs)) t.stem k in subst P (sym (stem_length r d vs x t made)) (subst Q (sym (cycle_length r d vs x t made)) (met_is r d vs t positive fractions common made.below made.turn));
  stem = stem_by_length r d vs x t made;
  cycle = cycle_by_length r d vs x t made;
}
  where
    positive : 0 < r
    positive = omega (arith, h)

-- ---- the vector of a fixed code
first_rest_below : (v : Ratio) (d : ℕ) → 0 < d → IsFraction v → IsWholeTimes d v → first_rest d v < d
first_rest_below v d h small whole = by (above_floor v) (unsigned_abs v.den) (first_rest d v) (above_below v.num v.den small.positive) (first_rest_times v d small whole)
  where
    by : (e y p : ℕ) → e < y → e * d ≡ y * p → p < d
    by e y p l q = grind arith

pub first_rests_below : (vs : List Ratio) (d : ℕ) → 0 < d → All IsFraction vs → All (IsWholeTimes d) vs → All (λ p. p < d) (map (first_rest d) vs)
first_rests_below vs d h fractions clears = All-map (λ p. p < d) (first_rest d) vs (λ i w inside. first_rest_below (get_or vs i w) d h (fractions i w inside) (clears i w inside))

-- a return of the remainders is a value: with p the first remainder, z the one that returns, and s and t what the stem and the cycle
-- spell
returned : (d u k p s t z y e : ℕ) → 0 < d → u * p ≡ d * s + z → suc k * z ≡ d * t + z → e * d ≡ y * p → u * k * e ≡ (k * s + t) * y
returned d u k p s t z y e h first second own = eq_of_mul-eq-mul_right d h (u * k * e) ((k * s + t) * y) (turned u k e d ∙ ap (λ x. u * k * x) own ∙ swapped u k y p ∙ ap (λ x. k * y * x) first ∙ spread k y d s z ∙ ap (λ x. k * y * (d * s) + y * x) (once k z d t second) ∙ together k y d s t)
  where
    turned : (u k e d : ℕ) → u * k * e * d ≡ u * k * (e * d)
    turned u k e d = omega arith

    swapped : (u k y p : ℕ) → u * k * (y * p) ≡ k * y * (u * p)
    swapped u k y p = omega arith

    spread : (k y d s z : ℕ) → k * y * (d * s + z) ≡ k * y * (d * s) + y * (k * z)
    spread k y d s z = omega arith

    once : (k z d t : ℕ) → suc k * z ≡ d * t + z → k * z ≡ d * t
    once k z d t e = omega (arith, e)

    together : (k y d s t : ℕ) → k * y * (d * s) + y * (d * t) ≡ (k * s + t) * y * d
    together k y d s t = omega arith

over : (f : ℤ) (y e den t : ℕ) → den * e ≡ t * y → ((pos den *ℤ f) +ℤ pos t) *ℤ pos y ≡ ((f *ℤ pos y) +ℤ pos e) *ℤ pos den
over f y e den t h = by_diff (λ f. ((pos den *ℤ f) +ℤ pos t) *ℤ pos y ≡ ((f *ℤ pos y) +ℤ pos e) *ℤ pos den) (λ p q. simp (pos_diff, diff_add, diff_mul) (diff_same _ _ _ _ (omega (arith, h)))) f

abs_pos : (w : ℤ) → (pos 1) ≤ℤ w → w ≡ pos (unsigned_abs w)
abs_pos (pos b) h = refl
abs_pos (negsuc b) h = absurd (omega (arith, ints, h))

-- what the vector follows from
pub record IsReturning (r d : ℕ) (vs : List Ratio) (x : Lasso) : Type 0 where
  pub positive : 0 < d
  pub clears : All (IsWholeTimes d) vs
  pub whole : (i : ℕ) (v : Ratio) → slice_get vs i ≡ Some v → value r (length vs) i x.sign x.whole ≡ floor v
  pub again : rests_after r d (length x.stem + length x.cycle) (map (first_rest d) vs) ≡ rests_after r d (length x.stem) (map (first_rest d) vs)
  pub stem : x.stem ≡ letters_of r d (length x.stem) (map (first_rest d) vs)
  pub cycle : x.cycle ≡ letters_of r d (length x.cycle) (rests_after r d (length x.stem) (map (first_rest d) vs))

pub spells_by : (r d : ℕ) (vs : List Ratio) (x : Lasso) → 2 ≤ r → All IsFraction vs → IsReturning r d vs x → SpellsVector r vs x
unfolding numerator denominator
spells_by r d vs x h small code i v e =
    ap (λ f. ((pos (r ^ length x.stem * (r ^ length x.cycle - 1)) *ℤ f) +ℤ pos ((r ^ length x.cycle - 1) * spelled r (length vs) i x.stem + spelled r (length vs) i x.cycle)) *ℤ v.den) (code.whole i v e)
    ∙ ap (λ w. ((pos (r ^ length x.stem * (r ^ length x.cycle - 1)) *ℤ floor v) +ℤ pos ((r ^ length x.cycle - 1) * spelled r (length vs) i x.stem + spelled r (length vs) i x.cycle)) *ℤ w) den_is
    ∙ over (floor v) (unsigned_abs v.den) (above_floor v) (r ^ length x.stem * (r ^ length x.cycle - 1)) ((r ^ length x.cycle - 1) * spelled r (length vs) i x.stem + spelled r (length vs) i x.cycle) whole_turn
    ∙ ap (λ z. z *ℤ pos (r ^ length x.stem * (r ^ length x.cycle - 1))) (ap (λ w. (floor v *ℤ w) +ℤ pos (above_floor v)) (sym den_is) ∙ sym (floor_parts v.num v.den here_small.positive))
  where
    here : IsEntry vs i v
    here = entry_is vs i v e

    here_small : IsFraction v
    here_small = at_entry IsFraction vs i v small here

    den_is : v.den ≡ pos (unsigned_abs v.den)
    den_is = abs_pos v.den here_small.positive

    rests : List ℕ
    rests = map (first_rest d) vs

    below : All (λ p. p < d) rests
    below = first_rests_below vs d code.positive small code.clears

    count : length vs ≡ length rests
    count = sym (length-map vs (first_rest d))

    positive : 0 < r
    positive = omega (arith, h)

    stem_rests : List ℕ
    stem_rests = rests_after r d (length x.stem) rests

    first : r ^ length x.stem * first_rest d v ≡ d * spelled r (length vs) i x.stem + get_or stem_rests i 0
    first = ap (λ p. r ^ length x.stem * p) (sym (mapped_entry (first_rest d) vs i v here)) ∙ long_is r d (length vs) i (length x.stem) rests positive count here.inside below ∙ ap (λ w. d * spelled r (length vs) i w + get_or stem_rests i 0) (sym code.stem)

    second : suc (r ^ length x.cycle - 1) * get_or stem_rests i 0 ≡ d * spelled r (length vs) i x.cycle + get_or stem_rests i 0
    second = ap (λ p. p * get_or stem_rests i 0) (sym full) ∙ long_is r d (length vs) i (length x.cycle) stem_rests positive (count ∙ sym (length-rests_after r d (length x.stem) rests)) here.inside (rests_below r d (length x.stem) rests below) ∙ ap (λ w. d * spelled r (length vs) i w + get_or (rests_after r d (length x.cycle) stem_rests) i 0) (sym code.cycle) ∙ ap (λ xs. d * spelled r (length vs) i x.cycle + get_or xs i 0) (sym (rests_add r d (length x.stem) (length x.cycle) rests) ∙ code.again)
      where
        full : r ^ length x.cycle ≡ suc (r ^ length x.cycle - 1)
        full = by (r ^ length x.cycle) (power_positive r (length x.cycle) positive)
          where
            by : (p : ℕ) → 0 < p → p ≡ suc (p - 1)
            by p h = omega (arith, h)

    whole_turn : r ^ length x.stem * (r ^ length x.cycle - 1) * above_floor v ≡ ((r ^ length x.cycle - 1) * spelled r (length vs) i x.stem + spelled r (length vs) i x.cycle) * unsigned_abs v.den
    whole_turn = returned d (r ^ length x.stem) (r ^ length x.cycle - 1) (first_rest d v) (spelled r (length vs) i x.stem) (spelled r (length vs) i x.cycle) (get_or stem_rests i 0) (unsigned_abs v.den) (above_floor v) code.positive first second (first_rest_times v d here_small (at_entry (IsWholeTimes d) vs i v code.clears here))

pub spells_vector : (r d : ℕ) (vs : List Ratio) (x : Lasso) → 2 ≤ r → All IsFraction vs → IsCommonDenominator vs d → IsFixedCode r vs d x → SpellsVector r vs x
spells_vector r d vs x h fractions common code = spells_by r d vs x h fractions (record { positive = common.positive; clears = common.clears; whole = code.whole; again = code.met.again; stem = code.stem; cycle = code.cycle })

-- the same of what is made in parts, over any divisor that makes all fractions integers
pub made_spells : (r d : ℕ) (vs : List Ratio) (x : Lasso) (t : Turn) → 2 ≤ r → 0 < d → All IsFraction vs → All (IsWholeTimes d) vs → IsMade r d vs x t → SpellsVector r vs x
made_spells r d vs x t h some fractions clears made = spells_by r d vs x h fractions (record {
  positive = some;
  clears = clears;
  whole = λ i v e. whole_value r x.sign vs x.whole i v positive fractions made.sign made.whole (entry_is vs i v e);
  again = subst P (sym (stem_length r d vs x t made)) (subst Q (sym (cycle_length r d vs x t made)) (rests_same r d (t.stem + t.cycle) t.stem (map (first_rest d) vs) positive made.below made.turn.again));
  stem = stem_by_length r d vs x t made;
  cycle = cycle_by_length r d vs x t made;
})
  where
    positive : 0 < r
    positive = omega (arith, h)

    P : ℕ → Type 0
    P k = rests_after r d (k + length x.cycle) (map (first_rest d) vs) ≡ rests_after r d k (map (first_rest d) vs)

    Q : ℕ → Type 0
    Q k = rests_after r d (t.stem + k) (map (first_rest d) vs) ≡ rests_after r d t.stem (map (first_rest d) vs)

-- ---- the whole word, from its parts
pub roomy_is : (r k p : ℕ) (vs : List Ratio) (rests w : List ℕ) → All (λ v. sign_distance (floor v) < r ^ k) vs → p ≡ r ^ k → rests ≡ map (λ v. raised p (floor v)) vs → w ≡ letters_of r p k rests → IsRoomyWord r vs w
roomy_is r k p vs rests w enough ep er ew = record {
  enough = subst (λ n. All (λ v. sign_distance (floor v) < r ^ n) vs) (sym count) enough;
  letters = ew ∙ ap (letters_of r p k) er ∙ ap (λ q. letters_of r q k (map (λ v. raised q (floor v)) vs)) ep ∙ ap (λ n. letters_of r (r ^ n) n (map (λ v. raised (r ^ n) (floor v)) vs)) (sym count);
}
  where
    count : length w ≡ k
    count = ap length ew ∙ length-letters_of r p k rests

pub whole_word_is : (r k p : ℕ) (vs : List Ratio) (rests w : List ℕ) → IsFloorCount r vs k → p ≡ r ^ k → rests ≡ map (λ v. raised p (floor v)) vs → w ≡ letters_of r p k rests → IsWholeWord r vs w
whole_word_is r k p vs rests w room ep er ew = record {
  room = subst (IsFloorCount r vs) (sym count) room;
  letters = (roomy_is r k p vs rests w room.enough ep er ew).letters;
}
  where
    count : length w ≡ k
    count = ap length ew ∙ length-letters_of r p k rests
