-- Each vector of fractions over one denominator has a lasso: there is room for its floors, and the powers of the base return.
use Rattle.std.proofs.Common.{◌≡◌, ◌≢◌, ℕ, zero, suc, ◌+◌, ◌-◌, ◌*◌, ◌%◌, ◌^◌, ◌≤◌, ◌<◌, ◌==◌, List, [], ◌∷◌, length, map, get_or, set, replicate, Some, arith, refl, ◌∙◌, subst}
use Rattle.std.proofs.Math.IntN.{ℤ, pos, ◌*ℤ◌}
use Rattle.std.specs.Prelude.{All, slice_get, unsigned_abs}
use Rattle.std.specs.List.{count_by}
use mathlib.Core.Logic.{◌⊎◌, inl, inr}
use Rattle.std.proofs.Math.Nat.{pow-suc, pow-zero, pow-le-pow_right, dvd-mul_left}
use Rattle.std.proofs.lemmas.Bool.{cases_eq}
use Rattle.std.proofs.lemmas.Int.{ints}
use Rattle.std.proofs.lemmas.List.{length-map, length-replicate, get_or-replicate}
use Rattle.std.proofs.lemmas.List.Folds.{sum_by-replicate}
use Rattle.std.proofs.lemmas.List.Elements.{All-nil, All-cons, All-weaker, All-map}
use Rattle.lash_model.specs.Letters.{number}
use Rattle.lash_model.specs.Lassos.{Lasso, IsLasso, denominator, numerator}
use Rattle.fraction_codes.specs.declared.ratio.Ratio.{Ratio}
use Rattle.fraction_codes.specs.declared.returning.Turn.{Turn}
use Rattle.fraction_codes.specs.Fractions.{IsFraction, IsWholeTimes, sign_of, floor}
use Rattle.fraction_codes.specs.FixedCodes.{HasLasso, SpellsVector, first_rest}
use Rattle.fraction_codes.specs.LongDivision.{rests_after, letters_of}
use Rattle.fraction_codes.specs.Steps.{AreMarks, IsPowerTurn, sign_distance, raised}
use Rattle.fraction_codes.proofs.Coding.{IsMade, roomy_is, first_rests_below, made_in_range, made_spells}
use Rattle.fraction_codes.proofs.Turning.{one_at_zero, zeros_less, mark_next, marks_inside, marks_more, turn_is}

-- ---- the powers return
zeros_all : (d : ℕ) → count_by (λ m. m == 0) (replicate d 0) ≡ d
zeros_all d = sum_by-replicate one_at_zero d 0 ∙ times_one d
  where
    times_one : (d : ℕ) → d * 1 ≡ d
    times_one d = omega arith

marks_none : (r d : ℕ) → AreMarks r d 0 (1 % d) (replicate d 0)
marks_none r d = record {
  count = length-replicate d 0;
  power_is = rw (pow-zero r) refl;
  marked = λ j l. absurd (omega (arith, l));
  met = λ v j l e. absurd (omega (arith, e, get_or-replicate {A = ℕ} d v 0 0 l));
  unmarked = omega (arith, zeros_all d);
}

record Turns (r d : ℕ) : Type 0 where
  pub turn : Turn
  pub is : IsPowerTurn r d turn

less_zeros : (r d k power n : ℕ) (marks : List ℕ) → 0 < d → AreMarks r d k power marks → get_or marks power 0 ≡ 0 → count_by (λ m. m == 0) marks ≤ n → count_by (λ m. m == 0) (set marks power (k + 1)) + 1 ≤ n
less_zeros r d k power n marks h are free l = omega (arith, l, zeros_less marks power (k + 1) (marks_inside r d k power marks h are) free (mark_next k))

turn_within : (n r d k power : ℕ) (marks : List ℕ) → 0 < d → count_by (λ m. m == 0) marks ≤ n → AreMarks r d k power marks → Turns r d
turn_within zero r d k power marks h l are = record { turn = record { stem = get_or marks power 0 - 1; cycle = k - (get_or marks power 0 - 1) }; is = turn_is r d k power marks h (λ free. absurd (omega (arith, less_zeros r d k power 0 marks h are free l))) are }
turn_within (suc n) r d k power marks h l are = by (λ free. turn_within n r d (k + 1) (power * r % d) (set marks power (k + 1)) h (omega (arith, less_zeros r d k power (suc n) marks h are free l)) (marks_more r d k power marks h free are)) (cases_eq (get_or marks power 0) 0)
  where
    by : (get_or marks power 0 ≡ 0 → Turns r d) → (get_or marks power 0 ≡ 0) ⊎ (get_or marks power 0 ≢ 0) → Turns r d
    by rec (inl free) = rec free
    by rec (inr marked) = record { turn = record { stem = get_or marks power 0 - 1; cycle = k - (get_or marks power 0 - 1) }; is = turn_is r d k power marks h marked are }

turn_of : (r d : ℕ) → 0 < d → Turns r d
turn_of r d h = turn_within d r d 0 (1 % d) (replicate d 0) h (omega (arith, zeros_all d)) (marks_none r d)

-- ---- there is room for the floors
growth : (r x : ℕ) → 2 ≤ r → x < r ^ x
growth r zero h = rw (pow-zero r) (omega arith)
growth r (suc x) h = omega (arith, pow-suc r x, doubled (r ^ x) r x h (growth r x h))
  where
    doubled : (p r x : ℕ) → 2 ≤ r → x < p → suc x < p * r
    doubled p r x h k = grind arith

record Room (r : ℕ) (vs : List Ratio) : Type 0 where
  pub count : ℕ
  pub enough : All (λ v. sign_distance (floor v) < r ^ count) vs

room_of : (r : ℕ) (vs : List Ratio) → 2 ≤ r → Room r vs
room_of r [] h = record { count = 0; enough = All-nil (λ v. sign_distance (floor v) < r ^ 0) }
room_of r (v ∷ vs) h = let rest = room_of r vs h in record {
  count = sign_distance (floor v) + rest.count;
  enough = All-cons (λ w. sign_distance (floor w) < r ^ (sign_distance (floor v) + rest.count)) v vs (wider (sign_distance (floor v)) (sign_distance (floor v)) (sign_distance (floor v) + rest.count) (growth r (sign_distance (floor v)) h) (omega arith)) (All-weaker (λ w. sign_distance (floor w) < r ^ rest.count) (λ w. sign_distance (floor w) < r ^ (sign_distance (floor v) + rest.count)) (λ w k. wider (sign_distance (floor w)) rest.count (sign_distance (floor v) + rest.count) k (omega arith)) vs rest.enough);
}
  where
    wider : (x k m : ℕ) → x < r ^ k → k ≤ m → x < r ^ m
    wider x k m h' l = omega (arith, h', pow-le-pow_right {n = r} (omega (arith, h)) l)

-- ---- the lasso
record Lassoed (r : ℕ) (vs : List Ratio) : Type 0 where
  pub lasso : Lasso
  pub in_range : IsLasso r (length vs) lasso
  pub spells : SpellsVector r vs lasso

lasso_for : (r d : ℕ) (vs : List Ratio) → 2 ≤ r → 0 < d → All IsFraction vs → All (IsWholeTimes d) vs → Lassoed r vs
lasso_for r d vs h some fractions clears = record { lasso = x; in_range = made_in_range r d vs x turn.turn (omega (arith, h)) made; spells = made_spells r d vs x turn.turn h some fractions clears made }
  where
    turn : Turns r d
    turn = turn_of r d some

    room : Room r vs
    room = room_of r vs h

    rests : List ℕ
    rests = map (first_rest d) vs

    raised_floors : List ℕ
    raised_floors = map (λ v. raised (r ^ room.count) (floor v)) vs

    x : Lasso
    x = record {
      sign = number 2 (map (λ v. sign_of v.num) vs);
      whole = letters_of r (r ^ room.count) room.count raised_floors;
      stem = letters_of r d turn.turn.stem rests;
      cycle = letters_of r d turn.turn.cycle (rests_after r d turn.turn.stem rests);
    }

    made : IsMade r d vs x turn.turn
    made = record {
      sign = refl;
      whole = roomy_is r room.count (r ^ room.count) vs raised_floors (letters_of r (r ^ room.count) room.count raised_floors) room.enough refl refl refl;
      turn = turn.is;
      below = first_rests_below vs d some fractions clears;
      stem = refl;
      cycle = refl;
    }

-- ---- of integers over one denominator
abbrev over : ℕ → ℤ → Ratio
over d m = record { num = m; den = pos d }

get_mapped : (f : ℤ → Ratio) (ms : List ℤ) (i : ℕ) (m : ℤ) → slice_get ms i ≡ Some m → slice_get (map f ms) i ≡ Some (f m)
get_mapped f [] i m e = absurd (cc)
get_mapped f (x ∷ ms) zero m e = cc
get_mapped f (x ∷ ms) (suc i) m e = get_mapped f ms i m e

pub has_lasso : (r d : ℕ) (ms : List ℤ) → 2 ≤ r → 0 < d → HasLasso r d ms
has_lasso r d ms h some =
    let vs : List Ratio = map (over d) ms in
    let made : Lassoed r vs = lasso_for r d vs h some (All-map IsFraction (over d) ms (λ i m inside. record { positive = omega (arith, ints, some) })) (All-map (IsWholeTimes d) (over d) ms (λ i m inside. dvd-mul_left d (unsigned_abs (get_or ms i m)))) in
    let P : ℕ → Type 0 = λ n. IsLasso r n made.lasso in
    let Q : ℤ → ℕ → ℕ → Type 0 = λ m i n. numerator r n i made.lasso *ℤ pos d ≡ m *ℤ pos (denominator r made.lasso) in
    let count : length vs ≡ length ms = length-map ms (over d) in
    record {
      lasso = made.lasso;
      in_range = subst P count made.in_range;
      spells = λ i m e. subst (Q m i) count (made.spells i (over d m) (get_mapped (over d) ms i m e));
    }
