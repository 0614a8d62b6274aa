-- Closing under letters over a sign letter: marking a state, the turns of the loops, and the closed set.
use Rattle.std.proofs.Common.{◌≡◌, ℕ, zero, suc, ◌+◌, ◌-◌, ◌*◌, ◌^◌, ◌<◌, ◌≤◌, IsTrue, Bool, true, false, cond, List, [], ◌∷◌, ◌++◌, length, map, arith, refl, ◌∙◌, sym, ap, subst, inl, inr}
use Rattle.std.specs.Prelude.{slice_index, slice_set, All, Contains, count_by, sum_by, ◌⊎◌}
use Rattle.std.specs.List.{slice_index_or, AllByRecursion}
use Rattle.std.proofs.Math.Nat.{pow-le-pow_right}
use Rattle.std.proofs.lemmas.Bool.{cases_lt, cases_eq, false≢true}
use Rattle.std.proofs.lemmas.List.{length-replicate, get_or-set_same, get_or-set_other, length-set, length_push, get_or_push, get_or_append_left, get_or_default, get_or_past, map-append}
use Rattle.std.proofs.lemmas.List.Elements.{All-push, All-contains, All-nil, recursion_from_All, Contains-append_left, Contains-push}
use Rattle.std.proofs.lemmas.List.Sums.{sum_by-cons}
use Rattle.graph_laws.specs.Walks.{go}
use Rattle.graph_laws.specs.Exploring.{list_at}
use Rattle.graph_laws.proofs.Joining.{go-append}
use Rattle.canonical_laws.proofs.Diagrams.{read_below}
use Rattle.lash_model.specs.Letters.{sign_letter}
use Rattle.lash_model.specs.Tables.{Table, letters, ints, IsTable}
use Rattle.subset_build.specs.Projection.{with_digit, kept, root_over, int_transitions, target, IsSignReached, IsRisingSet, AreStartSets, is_rising_in}
use Rattle.subset_build.specs.Subsets.{Forgetting, IsProjected}
use Rattle.subset_build.specs.Closing.{Marking, is_marked, IsMarking, met_by, met_state, none_marked, marked_states, AreOver, IsClosing, IsFollowing, AreSetsUpto}
use Rattle.subset_build.proofs.KeptLetters.{few_signs, with_digit_below, sign_letter_below}
use Rattle.subset_build.proofs.RisingSets.{filter_range, same_set}
use Rattle.subset_build.proofs.Targets.{int_moves, target_below, proper_set}

-- ---- marking a state
marked_below : (m : Marking) (q : ℕ) → is_marked m q ≡ true → q < length m.marked
marked_below m q h = elim (cases_lt q (length m.marked)) [
  | inl inside ↦ inside
  | inr past ↦ absurd (false≢true (sym (get_or_past m.marked q false past) ∙ h))
]

pub still_marked : (b : Bool) (m : Marking) (q x : ℕ) → is_marked m x ≡ true → is_marked (met_by b m q) x ≡ true
still_marked true m q x h = h
still_marked false m q x h = elim (cases_eq x q) [
  | inl e ↦ subst (λ y. slice_index_or (slice_set m.marked q true) y false ≡ true) (sym e) (get_or-set_same m.marked q true false (subst (λ y. y < length m.marked) e (marked_below m x h)))
  | inr apart ↦ get_or-set_other m.marked q x true false apart ∙ h
]

pub now_marked : (b : Bool) (m : Marking) (q : ℕ) → is_marked m q ≡ b → q < length m.marked → is_marked (met_by b m q) q ≡ true
now_marked true m q e lt = e
now_marked false m q e lt = get_or-set_same m.marked q true false lt

pub marks_count : (b : Bool) (m : Marking) (q : ℕ) → length (met_by b m q).marked ≡ length m.marked
marks_count true m q = refl
marks_count false m q = length-set m.marked q true

states_longer : (b : Bool) (m : Marking) (q : ℕ) → length m.states ≤ length (met_by b m q).states
states_longer true m q = omega arith
states_longer false m q = omega (arith, length_push m.states q)

states_kept : (b : Bool) (m : Marking) (q i : ℕ) → i < length m.states → slice_index (met_by b m q).states i ≡ slice_index m.states i
states_kept true m q i lt = refl
states_kept false m q i lt = get_or_append_left m.states (q ∷ []) 0 i lt

all_met : (P : ℕ → Type 0) (b : Bool) (m : Marking) (q : ℕ) → All P m.states → P q → All P (met_by b m q).states
all_met P true m q h p = h
all_met P false m q h p = All-push P m.states q h p

abbrev one_if : Bool → ℕ
one_if b = cond b 1 0

-- one mark more counts one more
count_set : (xs : List Bool) (i : ℕ) → i < length xs → slice_index_or xs i false ≡ false → count_by (λ b. b) (slice_set xs i true) ≡ count_by (λ b. b) xs + 1
count_set [] i lt h = absurd (omega (arith, lt))
count_set (x ∷ xs) zero lt h = sum_by-cons one_if true xs ∙ regroup (sum_by one_if xs) ∙ ap (λ n. n + 1) (ap (λ b. one_if b + sum_by one_if xs) (sym h) ∙ sym (sum_by-cons one_if x xs))
  where
    regroup : (n : ℕ) → 1 + n ≡ (0 + n) + 1
    regroup n = omega arith
count_set (x ∷ xs) (suc i) lt h = sum_by-cons one_if x (slice_set xs i true) ∙ ap (λ n. one_if x + n) (count_set xs i (omega (arith, lt)) h) ∙ regroup (one_if x) (sum_by one_if xs) ∙ ap (λ n. n + 1) (sym (sum_by-cons one_if x xs))
  where
    regroup : (a n : ℕ) → a + (n + 1) ≡ (a + n) + 1
    regroup a n = omega arith

pub mark_at : (xs : List Bool) (i : ℕ) (x b : Bool) → i < length xs → x ≡ slice_index_or xs i x → x ≡ b → slice_index_or xs i false ≡ b
mark_at xs i x b inside read e = get_or_default xs i false x inside ∙ sym read ∙ e

pub marking_more : (marked : List Bool) (states : List ℕ) (q : ℕ) → IsMarking (record { marked = marked; states = states }) → slice_index_or marked q false ≡ false → q < length marked → IsMarking (record { marked = slice_set marked q true; states = states ++ q ∷ [] })
marking_more marked states q h unmarked lt = record {
  marks = all_met (λ x. is_marked (met_by false m q) x ≡ true) false m q (λ k d inside. still_marked false m q (slice_index_or states k d) (h.marks k d inside)) (now_marked false m q unmarked lt);
  found = λ x e. found x e (cases_eq x q);
  once = length_push states q ∙ ap (λ n. n + 1) h.once ∙ sym (count_set marked q lt unmarked);
}
  where
    m : Marking
    m = record { marked = marked; states = states }

    found : (x : ℕ) → slice_index_or (slice_set marked q true) x false ≡ true → (x ≡ q) ⊎ (x ≡ q → ⊥) → Contains (states ++ q ∷ []) x
    found x e (inl same) = subst (λ y. Contains (states ++ q ∷ []) y) (sym same) (Contains-push states q)
    found x e (inr apart) = Contains-append_left states (q ∷ []) x (h.found x (sym (get_or-set_other marked q x true false apart) ∙ e))

-- ---- what is reached
pub root_reached : (t : Table) (track sign b q : ℕ) → b < 2 → q ≡ root_over t track sign b → IsSignReached t track sign q
root_reached t track sign b q lt e = record { bit = b; word = []; bit_below = lt; digits_in = All-nil (λ d. d < t.base); leads = e }

pub target_reached : (t : Table) (track sign x d q : ℕ) → IsSignReached t track sign x → d < t.base → q ≡ target (int_transitions t) track (sign_letter t.base (kept t) sign) x d → IsSignReached t track sign q
target_reached t track sign x d q h lt e = record {
  bit = h.bit;
  word = h.word ++ d ∷ [];
  bit_below = h.bit_below;
  digits_in = All-push (λ y. y < t.base) h.word d h.digits_in lt;
  leads = e ∙ ap (λ y. target (int_transitions t) track z y d) h.leads ∙ sym (go-append t.rows (letters t) start (map over h.word) (over d ∷ [])) ∙ ap (go t.rows (letters t) start) (sym (map-append over h.word (d ∷ [])));
}
  where
    z : ℕ
    z = sign_letter t.base (kept t) sign

    over : ℕ → ℕ
    over y = with_digit t.base (kept t) track z y

    start : ℕ
    start = root_over t track sign h.bit

-- ---- the turns of the loops
pub met_closing : (t : Table) (track sign roots at some q : ℕ) (m : Marking) → IsClosing t track sign roots at some m → IsSignReached t track sign q → IsClosing t track sign roots at some (met_state m q)
met_closing t track sign roots at some q m h r = record {
  count = marks_count (is_marked m q) m q ∙ h.count;
  sound = all_met (IsSignReached t track sign) (is_marked m q) m q h.sound r;
  begun = λ b lt. still_marked (is_marked m q) m q (root_over t track sign b) (h.begun b lt);
  upto = omega (arith, h.upto, states_longer (is_marked m q) m q);
  followed = λ i d lt below. subst (λ x. is_marked (met_state m q) (target (int_transitions t) track z x d) ≡ true) (sym (states_kept (is_marked m q) m q i (omega (arith, lt, h.upto)))) (still_marked (is_marked m q) m q (target (int_transitions t) track z (slice_index m.states i) d) (h.followed i d lt below));
  inside = λ lt. omega (arith, h.inside lt, states_longer (is_marked m q) m q);
  following = λ d lt. subst (λ x. is_marked (met_state m q) (target (int_transitions t) track z x d) ≡ true) (sym (states_kept (is_marked m q) m q at (h.inside (omega (arith, lt))))) (still_marked (is_marked m q) m q (target (int_transitions t) track z (slice_index m.states at) d) (h.following d lt));
}
  where
    z : ℕ
    z = sign_letter t.base (kept t) sign

-- nothing is marked yet
pub none_closing : (t : Table) (track sign : ℕ) (m : Marking) → m ≡ none_marked (ints t) → IsClosing t track sign 0 0 0 m
none_closing t track sign m e = subst (IsClosing t track sign 0 0 0) (sym e) (record {
  count = length-replicate (ints t) false;
  sound = All-nil (IsSignReached t track sign);
  begun = λ b lt. absurd (omega (arith, lt));
  upto = omega arith;
  followed = λ i d lt below. absurd (omega (arith, lt));
  inside = λ lt. absurd (omega (arith, lt));
  following = λ d lt. absurd (omega (arith, lt));
})

-- a root more
pub root_more : (t : Table) (track sign b q : ℕ) (m : Marking) → IsClosing t track sign b 0 0 m → b < 2 → q < ints t → q ≡ root_over t track sign b → IsClosing t track sign (b + 1) 0 0 (met_state m q)
root_more t track sign b q m h lt below e = record {
  count = k.count;
  sound = k.sound;
  begun = λ c less. elim (cases_lt c b) [
    | inl before ↦ k.begun c before
    | inr last ↦ subst (λ x. is_marked (met_state m q) x ≡ true) (e ∙ ap (root_over t track sign) (omega (arith, less, last))) (now_marked (is_marked m q) m q refl (subst (λ n. q < n) (sym h.count) below))
  ];
  upto = k.upto;
  followed = k.followed;
  inside = k.inside;
  following = k.following;
}
  where
    k : IsClosing t track sign b 0 0 (met_state m q)
    k = met_closing t track sign b 0 0 q m h (root_reached t track sign b q lt e)

-- a digit more
pub digit_more : (t : Table) (track sign at d q : ℕ) (m : Marking) → IsClosing t track sign 2 at d m → at < length m.states → d < t.base → q < ints t → q ≡ target (int_transitions t) track (sign_letter t.base (kept t) sign) (slice_index m.states at) d → IsClosing t track sign 2 at (d + 1) (met_state m q)
digit_more t track sign at d q m h inside lt below e = record {
  count = k.count;
  sound = k.sound;
  begun = k.begun;
  upto = k.upto;
  followed = k.followed;
  inside = λ _. omega (arith, inside, states_longer (is_marked m q) m q);
  following = λ c less. elim (cases_lt c d) [
    | inl before ↦ k.following c before
    | inr last ↦ subst (λ x. is_marked (met_state m q) x ≡ true) (moved c (omega (arith, less, last))) (now_marked (is_marked m q) m q refl (subst (λ n. q < n) (sym h.count) below))
  ];
}
  where
    z : ℕ
    z = sign_letter t.base (kept t) sign

    k : IsClosing t track sign 2 at d (met_state m q)
    k = met_closing t track sign 2 at d q m h (target_reached t track sign (slice_index m.states at) d q (h.sound at 0 inside) lt e)

    moved : (c : ℕ) → d ≡ c → q ≡ target (int_transitions t) track z (slice_index (met_state m q).states at) c
    moved c same = e ∙ ap (λ x. target (int_transitions t) track z x d) (sym (states_kept (is_marked m q) m q at inside)) ∙ ap (target (int_transitions t) track z (slice_index (met_state m q).states at)) same

-- a state more
pub state_more : (t : Table) (track sign at : ℕ) (m : Marking) → IsClosing t track sign 2 at t.base m → at < length m.states → IsClosing t track sign 2 (at + 1) 0 m
state_more t track sign at m h inside = record {
  count = h.count;
  sound = h.sound;
  begun = h.begun;
  upto = omega (arith, inside);
  followed = λ i d lt below. elim (cases_lt i at) [
    | inl before ↦ h.followed i d before below
    | inr last ↦ let same : at ≡ i = omega (arith, lt, last) in subst (λ j. is_marked m (target (int_transitions t) track (sign_letter t.base (kept t) sign) (slice_index m.states j) d) ≡ true) same (h.following d below)
  ];
  inside = λ lt. absurd (omega (arith, lt));
  following = λ d lt. absurd (omega (arith, lt));
}

-- ---- the closed set
word_marked : (t : Table) (track sign : ℕ) (m : Marking) → IsMarking m → IsClosing t track sign 2 (length m.states) 0 m → (x : ℕ) (word : List ℕ) → is_marked m x ≡ true → AllByRecursion (λ d. d < t.base) word → is_marked m (go t.rows (letters t) x (map (with_digit t.base (kept t) track (sign_letter t.base (kept t) sign)) word)) ≡ true
word_marked t track sign m k h x [] e a = e
word_marked t track sign m k h x (d ∷ word) e a = word_marked t track sign m k h (target (int_transitions t) track (sign_letter t.base (kept t) sign) x d) word (followed (k.found x e)) a.1
  where
    followed : Contains m.states x → is_marked m (target (int_transitions t) track (sign_letter t.base (kept t) sign) x d) ≡ true
    followed c = subst (λ y. is_marked m (target (int_transitions t) track (sign_letter t.base (kept t) sign) y d) ≡ true) (get_or_default m.states c.0 0 x c.1 ∙ c.2) (h.followed c.0 d c.1 a.0)

pub closed : (t : Table) (track sign : ℕ) (m : Marking) → IsMarking m → IsClosing t track sign 2 (length m.states) 0 m → IsRisingSet (IsSignReached t track sign) (marked_states m)
closed t track sign m k h = same_set (λ q. (q < length m.marked) × (is_marked m q ≡ true)) (IsSignReached t track sign) (marked_states m)
    (λ q e. All-contains (IsSignReached t track sign) m.states q h.sound (k.found q e.1))
    (λ q r. (marked_below m q (marked q r), marked q r))
    (filter_range (is_marked m) (length m.marked))
  where
    marked : (q : ℕ) → IsSignReached t track sign q → is_marked m q ≡ true
    marked q r = subst (λ x. is_marked m x ≡ true) (sym r.leads) (word_marked t track sign m k h (root_over t track sign r.bit) r.word (h.begun r.bit r.bit_below) (recursion_from_All (λ d. d < t.base) r.word r.digits_in))

-- ---- the loops' turns, over their own names
-- of all tracks
pub one_track_more : (t : Table) (track : ℕ) → track < t.tracks → kept t + 1 ≡ t.tracks
one_track_more t track lt = omega (arith, lt)

pub sign_in : (t : Table) (track sign first stride b : ℕ) → track < t.tracks → AreOver 2 (kept t) track sign first stride → b < 2 → first + b * stride < 2 ^ t.tracks
sign_in t track sign first stride b lt h below = subst (λ n. first + b * stride < 2 ^ n) (one_track_more t track lt) (h.below b below)

pub met_root : (t : Table) (track sign first stride b root q : ℕ) (m : Marking) → AreOver 2 (kept t) track sign first stride → b < 2 → IsClosing t track sign b 0 0 m → root ≡ first + b * stride → q < ints t → q ≡ slice_index t.roots root → IsClosing t track sign (b + 1) 0 0 (met_state m q)
met_root t track sign first stride b root q m over lt h is below e = root_more t track sign b q m h lt below (e ∙ ap (slice_index t.roots) (is ∙ over.each b lt))

pub met_target : (t : Table) (track sign at state first stride d letter q : ℕ) (m : Marking) → AreOver t.base (kept t) track (sign_letter t.base (kept t) sign) first stride → d < t.base → IsFollowing t track sign at state d m → letter ≡ first + d * stride → q < ints t → q ≡ slice_index t.rows (state * letters t + letter) → IsFollowing t track sign at state (d + 1) (met_state m q)
met_target t track sign at state first stride d letter q m over lt h is below e = record {
  closing = digit_more t track sign at d q m h.closing h.within lt below (e ∙ ap (λ l. slice_index t.rows (state * letters t + l)) (is ∙ over.each d lt) ∙ ap (λ x. target (int_transitions t) track (sign_letter t.base (kept t) sign) x d) h.state_is);
  within = omega (arith, h.within, states_longer (is_marked m q) m q);
  state_is = h.state_is ∙ sym (states_kept (is_marked m q) m q at h.within);
}

-- ---- a set for each sign vector
pub few_kept_signs : (t : Table) → IsTable t → 2 ^ kept t ≤ 4096
few_kept_signs t h =
    let some : 0 < 2 = omega arith in
    let le : kept t ≤ t.tracks = omega arith in
    omega (arith, few_signs t.base t.tracks h.shape.base_low h.shape.few_letters, pow-le-pow_right some le)

pub few_kept_letters : (t : Table) → IsTable t → t.base ^ kept t ≤ 4096
few_kept_letters t h =
    let some : 0 < t.base = omega (arith, h.shape.base_low) in
    let le : kept t ≤ t.tracks = omega arith in
    omega (arith, h.shape.few_letters, pow-le-pow_right some le)

pub no_sets : (t : Table) (track : ℕ) (m : Marking) → m ≡ none_marked (ints t) → AreSetsUpto t track 0 [] m
no_sets t track m e = record { count = refl; each = λ sign lt. absurd (omega (arith, lt)); marks_are = ap (λ (k : Marking). length k.marked) e ∙ length-replicate (ints t) false }

pub set_more : (t : Table) (track n : ℕ) (sets : List (List ℕ)) (set : List ℕ) (m k : Marking) → AreSetsUpto t track n sets m → IsRisingSet (IsSignReached t track n) set → length k.marked ≡ ints t → AreSetsUpto t track (n + 1) (sets ++ set ∷ []) k
set_more t track n sets set m k h s marks = record {
  count = length_push sets set ∙ ap (λ i. i + 1) h.count;
  each = λ sign lt. elim (cases_lt sign n) [
    | inl before ↦ subst (IsRisingSet (IsSignReached t track sign)) (sym (get_or_append_left sets (set ∷ []) [] sign (subst (λ i. sign < i) (sym h.count) before))) (h.each sign before)
    | inr last ↦ here sign (omega (arith, lt, last))
  ];
  marks_are = marks;
}
  where
    here : (sign : ℕ) → sign ≡ n → IsRisingSet (IsSignReached t track sign) (list_at (sets ++ set ∷ []) sign)
    here sign e = subst (λ i. IsRisingSet (IsSignReached t track i) (list_at (sets ++ set ∷ []) i)) (sym e) (subst (IsRisingSet (IsSignReached t track n)) (sym (get_or_push sets set [] n h.count)) s)

pub all_sets : (t : Table) (track n : ℕ) (sets : List (List ℕ)) (m : Marking) → AreSetsUpto t track n sets m → n ≡ 2 ^ kept t → AreStartSets t track sets
all_sets t track n sets m h e = record { count = h.count ∙ e; each = λ sign lt. h.each sign (subst (λ i. sign < i) (sym e) lt) }

-- a start set is of states
pub reached_below : (t : Table) (track sign q : ℕ) → IsTable t → track < t.tracks → sign < 2 ^ kept t → IsSignReached t track sign q → q < ints t
reached_below t track sign q h lt small r = subst (λ x. x < ints t) (sym r.leads) (walk (root_over t track sign r.bit) r.word root (recursion_from_All (λ d. d < t.base) r.word r.digits_in))
  where
    z : ℕ
    z = sign_letter t.base (kept t) sign

    root : root_over t track sign r.bit < ints t
    root = read_below t.roots (ints t) (with_digit 2 (kept t) track sign r.bit) h.roots_in (subst (λ n. with_digit 2 (kept t) track sign r.bit < n) (sym h.roots_count) (subst (λ n. with_digit 2 (kept t) track sign r.bit < 2 ^ n) (one_track_more t track lt) (with_digit_below 2 (kept t) track sign r.bit (omega arith) small (omega (arith, lt)) r.bit_below)))

    walk : (x : ℕ) (word : List ℕ) → x < ints t → AllByRecursion (λ d. d < t.base) word → go t.rows (letters t) x (map (with_digit t.base (kept t) track z) word) < ints t
    walk x [] inside a = inside
    walk x (d ∷ word) inside a = walk (target (int_transitions t) track z x d) word (target_below (int_transitions t) track z x d (int_moves t h) lt (sign_letter_below t.base (kept t) sign h.shape.base_low small) inside a.0) a.1

-- the machine of the sets, from what a table and its start sets give
pub projected : (t : Table) (track : ℕ) (sets : List (List ℕ)) (width base tracks states : ℕ) (rows : List ℕ) (f : Forgetting) → IsTable t → track < t.tracks → AreStartSets t track sets → f ≡ record { moves = record { base = base; tracks = tracks; rows = rows; states = states }; track = track } → width ≡ base ^ (tracks - 1) → base ≡ t.base → tracks ≡ t.tracks → rows ≡ t.rows → states ≡ ints t → IsProjected width (record { moves = f.moves; track = f.track; sets = sets })
projected t track sets width base tracks states rows f h lt s is width_is base_is tracks_are rows_are states_are = rw (is, width_is, base_is, tracks_are, rows_are, states_are) here
  where
    proper : (k : ℕ) (d : List ℕ) → k < length sets → IsTrue (is_rising_in 0 (ints t) (slice_index_or sets k d))
    proper k d inside =
        let at : k < 2 ^ kept t = subst (λ n. k < n) s.count inside in
        subst (λ x. is_rising_in 0 (ints t) x ≡ true) (get_or_default sets k [] d inside) (proper_set (IsSignReached t track k) (ints t) (list_at sets k) (s.each k at) (λ q r. reached_below t track k q h lt at r))

    here : IsProjected (t.base ^ (t.tracks - 1)) (record { moves = int_transitions t; track = track; sets = sets })
    here = record { width_is = refl; few = omega (arith, s.count, few_kept_signs t h); proper = proper }
