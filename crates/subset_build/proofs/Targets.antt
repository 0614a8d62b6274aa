-- Where sets of states go: the targets of the members are exactly the step's members, and proper keys are rising lists of states.
use Rattle.std.proofs.Common.{◌≡◌, ℕ, zero, suc, ◌+◌, ◌-◌, ◌*◌, ◌^◌, ◌<◌, ◌≤◌, Bool, true, List, [], ◌∷◌, ◌++◌, length, map, take, arith, refl, ◌∙◌, sym, ap, subst, inl, inr}
use Rattle.std.specs.Prelude.{slice_index, All, Contains, nat_eq, nat_le, nat_lt, ◌&&◌, ◌⊎◌}
use Rattle.std.specs.List.{slice_index_or, range_with_len, AllPairs, list_any, Any}
use Rattle.std.proofs.lemmas.Bool.{eqb-true, eq-eqb, ltb-true, le-leb, lt-ltb, and_parts, and_from}
use Rattle.std.proofs.lemmas.List.{append_assoc, take_more, flat_map_more}
use Rattle.std.proofs.lemmas.List.Folds.{Any-from_list_any, list_any_at}
use Rattle.std.proofs.lemmas.List.FromFn.{map-range_with_len_more, length-range_with_len, get_or-range_with_len, length-map-range_with_len, get_or-map-range_with_len}
use Rattle.std.proofs.lemmas.List.Elements.{All-contains, All-nil, All-cons, All-head, All-tail, Contains-append_cases, Contains-append_left, Contains-append_right}
use Rattle.canonical_laws.proofs.Diagrams.{read_below, place_within}
use Rattle.lash_model.specs.Tables.{Table, IsTable}
use Rattle.subset_build.specs.Projection.{with_digit, Transitions, int_transitions, target, is_target, step_of_set, is_rising_in, IsRisingSet}
use Rattle.subset_build.specs.Closing.{AreOver}
use Rattle.subset_build.specs.Subsets.{AreTransitions, targets, targets_of_set}
use Rattle.subset_build.proofs.KeptLetters.{with_digit_below}
use Rattle.subset_build.proofs.RisingSets.{filter_range, same_set, one_set}

-- the integer part of a table goes to its own states
pub int_moves : (t : Table) → IsTable t → AreTransitions (int_transitions t)
int_moves t h = record { base_low = h.shape.base_low; few_letters = h.shape.few_letters; rows_count = h.rows_count; rows_in = h.rows_in }

-- where a state's target on a letter stands
pub move_in : (m : Transitions) (q l : ℕ) → AreTransitions m → q < m.states → l < m.base ^ m.tracks → q * m.base ^ m.tracks + l < length m.rows
move_in m q l h q_in l_in = subst (λ n. q * m.base ^ m.tracks + l < n) (sym h.rows_count) (place_within q m.states (m.base ^ m.tracks) l q_in l_in)

pub move_below : (m : Transitions) (q l : ℕ) → AreTransitions m → q < m.states → l < m.base ^ m.tracks → slice_index m.rows (q * m.base ^ m.tracks + l) < m.states
move_below m q l h q_in l_in = read_below m.rows m.states (q * m.base ^ m.tracks + l) h.rows_in (move_in m q l h q_in l_in)

-- a member goes to the state by a digit
pub record IsTargetOf (m : Transitions) (track letter : ℕ) (set : List ℕ) (q : ℕ) : Type 0 where
  pub source : ℕ
  pub digit : ℕ
  pub member : Contains set source
  pub digit_below : digit < m.base
  pub leads : target m track letter source digit ≡ q

pub target_below : (m : Transitions) (track letter p d : ℕ) → AreTransitions m → track < m.tracks → letter < m.base ^ (m.tracks - 1) → p < m.states → d < m.base → target m track letter p d < m.states
target_below m track letter p d h lt small inside below = move_below m p (with_digit m.base (m.tracks - 1) track letter d) h inside letter_below
  where
    letter_below : with_digit m.base (m.tracks - 1) track letter d < m.base ^ m.tracks
    letter_below = subst (λ n. with_digit m.base (m.tracks - 1) track letter d < m.base ^ n) (omega (arith, lt)) (with_digit_below m.base (m.tracks - 1) track letter d (omega (arith, h.base_low)) small (omega (arith, lt)) below)

-- ---- by the test
tested : (m : Transitions) (track letter p q : ℕ) → list_any (λ d. nat_eq (target m track letter p d) q) (range_with_len 0 m.base) ≡ true → (d : ℕ) × (d < m.base) × (target m track letter p d ≡ q)
tested m track letter p q h = from (Any-from_list_any (λ d. nat_eq (target m track letter p d) q) (range_with_len 0 m.base) h)
  where
    from : Any (λ d. nat_eq (target m track letter p d) q ≡ true) (range_with_len 0 m.base) → (d : ℕ) × (d < m.base) × (target m track letter p d ≡ q)
    from a =
        let inside : a.0 < m.base = subst (λ n. a.0 < n) (length-range_with_len 0 m.base) a.2 in
        let is : a.1 ≡ a.0 = sym a.3 ∙ get_or-range_with_len 0 m.base a.0 a.1 inside ∙ omega arith in
        (a.1, subst (λ x. x < m.base) (sym is) inside, eqb-true (target m track letter p a.1) q a.4)

pub target_from_test : (m : Transitions) (track letter : ℕ) (set : List ℕ) (q : ℕ) → is_target m track set letter q ≡ true → IsTargetOf m track letter set q
target_from_test m track letter set q h = from (Any-from_list_any (λ p. list_any (λ d. nat_eq (target m track letter p d) q) (range_with_len 0 m.base)) set h)
  where
    from : Any (λ p. list_any (λ d. nat_eq (target m track letter p d) q) (range_with_len 0 m.base) ≡ true) set → IsTargetOf m track letter set q
    from a = let r = tested m track letter a.1 q a.4 in record { source = a.1; digit = r.0; member = (a.0, a.2, a.3); digit_below = r.1; leads = r.2 }

pub test_from_target : (m : Transitions) (track letter : ℕ) (set : List ℕ) (q : ℕ) → IsTargetOf m track letter set q → is_target m track set letter q ≡ true
test_from_target m track letter set q h = list_any_at outer set h.member.0 h.source h.member.1 (subst (λ p. outer p ≡ true) (sym h.member.2) inner)
  where
    outer : ℕ → Bool
    outer p = list_any (λ d. nat_eq (target m track letter p d) q) (range_with_len 0 m.base)

    inner : outer h.source ≡ true
    inner = list_any_at (λ d. nat_eq (target m track letter h.source d) q) (range_with_len 0 m.base) h.digit 0 (subst (λ n. h.digit < n) (sym (length-range_with_len 0 m.base)) h.digit_below) (eq-eqb (target m track letter h.source (slice_index (range_with_len 0 m.base) h.digit)) q (ap (target m track letter h.source) (get_or-range_with_len 0 m.base h.digit 0 h.digit_below ∙ omega arith) ∙ h.leads))

-- ---- by the list
pub has_target : (m : Transitions) (track letter : ℕ) (set : List ℕ) (p d : ℕ) → Contains set p → d < m.base → Contains (targets_of_set m track letter set) (target m track letter p d)
has_target m track letter set p d c lt = at set c.0 c.1 c.2
  where
    own : Contains (targets m track letter p) (target m track letter p d)
    own = (d, subst (λ n. d < n) (sym (length-map-range_with_len (target m track letter p) 0 m.base)) lt, get_or-map-range_with_len (target m track letter p) 0 m.base d d (target m track letter p d) lt (omega arith))

    at : (set : List ℕ) (k : ℕ) → k < length set → slice_index_or set k p ≡ p → Contains (targets_of_set m track letter set) (target m track letter p d)
    at [] k inside e = absurd (omega (arith, inside))
    at (a ∷ set) zero inside e = Contains-append_left (targets m track letter a) (targets_of_set m track letter set) (target m track letter p d) (subst (λ x. Contains (targets m track letter x) (target m track letter p d)) (sym e) own)
    at (a ∷ set) (suc k) inside e = Contains-append_right (targets m track letter a) (targets_of_set m track letter set) (target m track letter p d) (at set k (omega (arith, inside)) e)

more_members : (m : Transitions) (track letter a : ℕ) (set : List ℕ) (q : ℕ) → IsTargetOf m track letter set q → IsTargetOf m track letter (a ∷ set) q
more_members m track letter a set q h = record { source = h.source; digit = h.digit; member = (suc h.member.0, omega (arith, h.member.1), h.member.2); digit_below = h.digit_below; leads = h.leads }

pub target_from_contains : (m : Transitions) (track letter : ℕ) (set : List ℕ) (q : ℕ) → Contains (targets_of_set m track letter set) q → IsTargetOf m track letter set q
target_from_contains m track letter [] q c = absurd (omega (arith, c.1))
target_from_contains m track letter (a ∷ set) q c = from (Contains-append_cases (targets m track letter a) (targets_of_set m track letter set) q c) (λ k. target_from_contains m track letter set q k)
  where
    own : Contains (targets m track letter a) q → IsTargetOf m track letter (a ∷ set) q
    own k =
        let inside : k.0 < m.base = subst (λ n. k.0 < n) (length-map-range_with_len (target m track letter a) 0 m.base) k.1 in
        record { source = a; digit = k.0; member = (0, omega arith, refl); digit_below = inside; leads = sym (get_or-map-range_with_len (target m track letter a) 0 m.base k.0 k.0 q inside (omega arith)) ∙ k.2 }

    from : Contains (targets m track letter a) q ⊎ Contains (targets_of_set m track letter set) q → (Contains (targets_of_set m track letter set) q → IsTargetOf m track letter set q) → IsTargetOf m track letter (a ∷ set) q
    from (inl k) rec = own k
    from (inr k) rec = more_members m track letter a set q (rec k)

-- ---- the step
pub step_set : (m : Transitions) (track letter : ℕ) (set : List ℕ) → AreTransitions m → track < m.tracks → letter < m.base ^ (m.tracks - 1) → All (λ q. q < m.states) set → IsRisingSet (IsTargetOf m track letter set) (step_of_set m track set letter)
step_set m track letter set h lt small below = same_set (λ q. (q < m.states) × (is_target m track set letter q ≡ true)) (IsTargetOf m track letter set) (step_of_set m track set letter)
    (λ q e. target_from_test m track letter set q e.1)
    (λ q r. (subst (λ x. x < m.states) r.leads (target_below m track letter r.source r.digit h lt small (All-contains (λ q. q < m.states) set r.source below r.member) r.digit_below), test_from_target m track letter set q r))
    (filter_range (is_target m track set letter) m.states)

-- the targets in order are the step
pub ordered_step : (m : Transitions) (track letter : ℕ) (set xs ys : List ℕ) → AreTransitions m → track < m.tracks → letter < m.base ^ (m.tracks - 1) → All (λ q. q < m.states) set → xs ≡ targets_of_set m track letter set → IsRisingSet (Contains xs) ys → ys ≡ step_of_set m track set letter
ordered_step m track letter set xs ys h lt small below e r = one_set (IsTargetOf m track letter set) ys (step_of_set m track set letter)
    (same_set (Contains xs) (IsTargetOf m track letter set) ys
    (λ q c. target_from_contains m track letter set q (subst (λ zs. Contains zs q) e c))
    (λ q k. subst (λ zs. Contains zs q) (sym e) (subst (Contains (targets_of_set m track letter set)) k.leads (has_target m track letter set k.source k.digit k.member k.digit_below)))
    r)
    (step_set m track letter set h lt small below)

-- ---- proper keys
head_test : (low high q : ℕ) (qs : List ℕ) → is_rising_in low high (q ∷ qs) ≡ true → (q < high) × (is_rising_in (q + 1) high qs ≡ true)
head_test low high q qs h =
    let both = and_parts (nat_le low q) (nat_lt q high && is_rising_in (q + 1) high qs) h in
    let rest = and_parts (nat_lt q high) (is_rising_in (q + 1) high qs) both.1 in
    (ltb-true q high rest.0, rest.1)

pub below_from_proper : (low high : ℕ) (qs : List ℕ) → is_rising_in low high qs ≡ true → All (λ q. q < high) qs
below_from_proper low high [] h = All-nil (λ q. q < high)
below_from_proper low high (q ∷ qs) h = let r = head_test low high q qs h in All-cons (λ x. x < high) q qs r.0 (below_from_proper (q + 1) high qs r.1)

pub proper_from_below : (low high : ℕ) (qs : List ℕ) → AllPairs (λ x y. x < y) qs → All (λ q. low ≤ q) qs → All (λ q. q < high) qs → is_rising_in low high qs ≡ true
proper_from_below low high [] rising from upto = refl
proper_from_below low high (q ∷ qs) rising from upto = and_from (nat_le low q) (nat_lt q high && is_rising_in (q + 1) high qs) (le-leb low q (All-head (λ x. low ≤ x) q qs from)) (and_from (nat_lt q high) (is_rising_in (q + 1) high qs) (lt-ltb q high (All-head (λ x. x < high) q qs upto)) (proper_from_below (q + 1) high qs
    (λ i j d lt inside. rising (suc i) (suc j) d (omega (arith, lt)) (omega (arith, inside)))
    (λ k d inside. omega (arith, rising 0 (suc k) d (omega arith) (omega (arith, inside))))
    (All-tail (λ x. x < high) q qs upto)))

-- a set of states is proper
pub proper_set : (P : ℕ → Type 0) (high : ℕ) (qs : List ℕ) → IsRisingSet P qs → ((q : ℕ) → P q → q < high) → is_rising_in 0 high qs ≡ true
proper_set P high qs h f = proper_from_below 0 high qs h.rising (λ k d inside. omega arith) (λ k d inside. f (slice_index_or qs k d) (h.sound k d inside))

-- the targets in order are a proper key
pub ordered_proper : (m : Transitions) (track letter : ℕ) (set xs ys : List ℕ) → AreTransitions m → track < m.tracks → letter < m.base ^ (m.tracks - 1) → All (λ q. q < m.states) set → xs ≡ targets_of_set m track letter set → IsRisingSet (Contains xs) ys → is_rising_in 0 m.states ys ≡ true
ordered_proper m track letter set xs ys h lt small below e r = proper_set (Contains xs) m.states ys r (λ q c. inside q (target_from_contains m track letter set q (subst (λ zs. Contains zs q) e c)))
  where
    inside : (q : ℕ) → IsTargetOf m track letter set q → q < m.states
    inside q k = subst (λ x. x < m.states) k.leads (target_below m track letter k.source k.digit h lt small (All-contains (λ q. q < m.states) set k.source below k.member) k.digit_below)

-- ---- the loops' turns
target_more : (f : ℕ → ℕ) (xs ys zs : List ℕ) (d q : ℕ) → ys ≡ xs ++ map f (range_with_len 0 d) → zs ≡ ys ++ q ∷ [] → q ≡ f d → zs ≡ xs ++ map f (range_with_len 0 (d + 1))
target_more f xs ys zs d q e pushed is =
    pushed
    ∙ ap (λ us. us ++ q ∷ []) e
    ∙ append_assoc xs (map f (range_with_len 0 d)) (q ∷ [])
    ∙ ap (λ x. xs ++ (map f (range_with_len 0 d) ++ x ∷ [])) is
    ∙ ap (λ us. xs ++ us) (sym (map-range_with_len_more f 0 d d (omega arith)))

pub set_targets_more : (m : Transitions) (track letter : ℕ) (set xs ys : List ℕ) (i q : ℕ) → i < length set → xs ≡ targets_of_set m track letter (take i set) → q ≡ slice_index set i → ys ≡ xs ++ targets m track letter q → ys ≡ targets_of_set m track letter (take (i + 1) set)
set_targets_more m track letter set xs ys i q lt e is more =
    more
    ∙ ap (λ us. us ++ targets m track letter q) e
    ∙ flat_map_more (targets m track letter) [] (take i set) q
    ∙ ap (λ x. targets_of_set m track letter (take i set ++ x ∷ [])) is
    ∙ ap (targets_of_set m track letter) (sym (take_more set i 0 lt))

-- the same over the letter that the code reckons
pub pushed_more : (m : Transitions) (track letter state first stride d own q : ℕ) (xs ys zs : List ℕ) → AreOver m.base (m.tracks - 1) track letter first stride → d < m.base → ys ≡ xs ++ map (target m track letter state) (range_with_len 0 d) → zs ≡ ys ++ q ∷ [] → own ≡ first + d * stride → q ≡ slice_index m.rows (state * m.base ^ m.tracks + own) → zs ≡ xs ++ map (target m track letter state) (range_with_len 0 (d + 1))
pushed_more m track letter state first stride d own q xs ys zs over lt e pushed is value = target_more (target m track letter state) xs ys zs d q e pushed (value ∙ ap (λ l. slice_index m.rows (state * m.base ^ m.tracks + l)) (is ∙ over.each d lt))
