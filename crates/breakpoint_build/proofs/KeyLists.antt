-- Lists of the states of a key.
use Rattle.std.proofs.Common.{◌≡◌, ℕ, ◌+◌, ◌*◌, ◌^◌, ◌<◌, ◌≤◌, IsTrue, true, List, [], ◌∷◌, ◌++◌, length, map, arith, ◌∙◌, sym, ap, subst}
use Rattle.std.specs.Prelude.{slice_index, slice_get, All, Contains, nat_eq, nat_le, nat_lt, ◌&&◌}
use Rattle.std.specs.List.{list_any}
use Rattle.std.proofs.lemmas.Bool.{eqb-true, eq-eqb, leb-true, ltb-true, and_parts}
use Rattle.std.proofs.lemmas.List.Elements.{All-contains, All-map, All-weaker}
use Rattle.std.proofs.lemmas.List.Folds.{Any-from_list_any, list_any_at}
use Rattle.std.proofs.lemmas.List.{length-map, get_or-map}
use Rattle.std.proofs.lemmas.List.{append-nil}
use Rattle.std.proofs.lemmas.Option.{get_or_from_slice_get, slice_get_within}
use Rattle.std.specs.declared.option.Option.TheVariants.{Some}
use Rattle.graph_laws.specs.Exploring.{list_at}
use Rattle.lash_model.specs.Tables.{Table, ints, fracs, IsTable}
use Rattle.part_laws.proofs.LassoWords.{out_in}
use Rattle.subset_build.specs.Projection.{Transitions, is_rising_in, IsRisingSet}
use Rattle.subset_build.proofs.Targets.{below_from_proper}
use Rattle.breakpoint_laws.proofs.Keys.{states-key_of}
use Rattle.breakpoint_laws.proofs.ProperKeys.{entry_proper}
use Rattle.subset_build.proofs.RisingSets.{filter_range, one_set, same_set}
use Rattle.breakpoint_laws.specs.Breakpoints.{frac_transitions, states_of, owing_of, entries_of_set, entry_key, is_key}
use Rattle.breakpoint_build.specs.BreakpointMachines.{outputs_of}

-- a rising list of numbers below a bound is no longer than the bound
rising_length : (low high : ℕ) (xs : List ℕ) → low ≤ high → is_rising_in low high xs ≡ true → length xs + low ≤ high
rising_length low high [] h e = omega (arith, h)
rising_length low high (q ∷ qs) h e =
    let a = and_parts (nat_le low q) (nat_lt q high && is_rising_in (q + 1) high qs) e in
    let b = and_parts (nat_lt q high) (is_rising_in (q + 1) high qs) a.1 in
    let below : q < high = ltb-true q high b.0 in
    let above : low ≤ q = leb q a.0 in
    omega (arith, above, rising_length (q + 1) high qs (omega (arith, below)) b.1)
  where
    leb : (q : ℕ) → nat_le low q ≡ true → low ≤ q
    leb q e = leb-true low q e

pub rising_few : (high : ℕ) (xs : List ℕ) → is_rising_in 0 high xs ≡ true → length xs ≤ high
rising_few high xs e = omega (arith, rising_length 0 high xs (omega arith) e)

-- ---- entries
output_in : (t : Table) (set : List ℕ) (q : ℕ) → Contains (outputs_of t set) q → list_any (λ p. nat_eq (slice_index t.outs p) q) set ≡ true
output_in t set q c =
    let inside : c.0 < length set = subst (λ n. c.0 < n) (length-map set (λ p. slice_index t.outs p)) c.1 in
    list_any_at (λ p. nat_eq (slice_index t.outs p) q) set c.0 0 inside
    (eq-eqb (slice_index t.outs (slice_index set c.0)) q (sym (get_or-map (λ p. slice_index t.outs p) set c.0 0 q inside) ∙ c.2))

output_from : (t : Table) (set : List ℕ) (q : ℕ) → list_any (λ p. nat_eq (slice_index t.outs p) q) set ≡ true → Contains (outputs_of t set) q
output_from t set q h =
    let a = Any-from_list_any (λ p. nat_eq (slice_index t.outs p) q) set h in (
      a.0,
      subst (λ n. a.0 < n) (sym (length-map set (λ p. slice_index t.outs p))) a.2,
      get_or-map (λ p. slice_index t.outs p) set a.0 a.1 q a.2 ∙ ap (λ p. slice_index t.outs p) a.3 ∙ eqb-true (slice_index t.outs a.1) q a.4,
    )

outputs_below : (t : Table) (set : List ℕ) → IsTable t → 0 < fracs t → All (λ q. q < ints t) set → All (λ q. q < fracs t) (outputs_of t set)
outputs_below t set h some below = All-map (λ q. q < fracs t) (λ p. slice_index t.outs p) set (All-weaker (λ q. q < ints t) (λ p. slice_index t.outs p < fracs t) (λ p lt. out_in t h some p lt) set below)

pub ordered_entries : (t : Table) (set written ordered : List ℕ) → IsTable t → 0 < fracs t → All (λ q. q < ints t) set → written ≡ outputs_of t set
    → IsRisingSet (Contains written) ordered → ordered ≡ entries_of_set t set
ordered_entries t set written ordered h some below is r = one_set (λ q. (q < fracs t) × (list_any (λ p. nat_eq (slice_index t.outs p) q) set ≡ true)) ordered (entries_of_set t set)
    (same_set (Contains written) (λ q. (q < fracs t) × (list_any (λ p. nat_eq (slice_index t.outs p) q) set ≡ true)) ordered into from r)
    (filter_range (λ q. list_any (λ p. nat_eq (slice_index t.outs p) q) set) (fracs t))
  where
    into : (q : ℕ) → Contains written q → (q < fracs t) × (list_any (λ p. nat_eq (slice_index t.outs p) q) set ≡ true)
    into q c = let d = subst (λ xs. Contains xs q) is c in
        (All-contains (λ x. x < fracs t) (outputs_of t set) q (outputs_below t set h some below) d, output_in t set q d)

    from : (q : ℕ) → (q < fracs t) × (list_any (λ p. nat_eq (slice_index t.outs p) q) set ≡ true) → Contains written q
    from q m = subst (λ xs. Contains xs q) (sym is) (output_from t set q m.1)

-- ---- the states of a step
few_states : (a b c : ℕ) → (a + b) * (c + 1) ≤ 16777216 → b ≤ 16777216
few_states a b c h = grind arith

pub room_few : (m : Transitions) (t : Table) (room shown : List ℕ) → m ≡ frac_transitions t → IsTable t → is_rising_in 0 m.states room ≡ true → shown ≡ room → length shown < 4294967296
room_few m t room shown is h rising e = omega (arith, ap length e, rising_few (fracs t) room (subst (λ (n : Transitions). is_rising_in 0 n.states room ≡ true) is rising), few_states (ints t) (fracs t) (t.base ^ t.tracks) h.shape.few_cells)

pub room_states : (m : Transitions) (t : Table) (room shown : List ℕ) → m ≡ frac_transitions t → is_rising_in 0 m.states room ≡ true → shown ≡ room → All (λ q. q < fracs t) shown
room_states m t room shown is rising e = subst (All (λ q. q < fracs t)) (sym e) (below_from_proper 0 (fracs t) room (subst (λ (n : Transitions). is_rising_in 0 n.states room ≡ true) is rising))

-- ---- the states of an entry
pub set_at : (high : ℕ) (keys : List (List ℕ)) (at : ℕ) (k : List ℕ) → All (λ x. IsTrue (is_rising_in 0 high x)) keys → slice_get keys at ≡ Some k → All (λ q. q < high) k
set_at high keys at k proper e = below_from_proper 0 high k (subst (λ x. is_rising_in 0 high x ≡ true) (get_or_from_slice_get keys at k [] e) (proper at [] (slice_get_within keys at k e)))

pub entries_proper : (t : Table) (set : List ℕ) → is_rising_in 0 (fracs t) (entries_of_set t set) ≡ true
entries_proper t set =
    let whole = and_parts (nat_le (length (entries_of_set t set)) (length (entries_of_set t set ++ [])))
    (is_rising_in 0 (fracs t) (states_of (entry_key t set)) && is_rising_in 0 (fracs t) (owing_of (entry_key t set))) (entry_proper t set) in
    let lists = and_parts (is_rising_in 0 (fracs t) (states_of (entry_key t set))) (is_rising_in 0 (fracs t) (owing_of (entry_key t set))) whole.1 in
    subst (λ xs. is_rising_in 0 (fracs t) xs ≡ true) (states-key_of (entries_of_set t set) []) lists.0

pub entries_few : (t : Table) (set shown : List ℕ) → IsTable t → shown ≡ entries_of_set t set → length shown < 4294967296
entries_few t set shown h e = omega (arith, ap length e, rising_few (fracs t) (entries_of_set t set) (entries_proper t set), few_states (ints t) (fracs t) (t.base ^ t.tracks) h.shape.few_cells)

-- the key that is written for an entry
pub entry_written : (t : Table) (keys : List (List ℕ)) (at : ℕ) (k shown into : List ℕ) → slice_get keys at ≡ Some k → shown ≡ entries_of_set t k
    → into ≡ length shown ∷ shown → into ≡ list_at (map (entry_key t) keys) at
entry_written t keys at k shown into e s i =
    i ∙ ap (λ xs. length xs ∷ xs) s ∙ ap (λ xs. length (entries_of_set t k) ∷ xs) (sym (append-nil (entries_of_set t k)))
    ∙ ap (entry_key t) (sym (get_or_from_slice_get keys at k [] e)) ∙ sym (get_or-map (entry_key t) keys at [] [] (slice_get_within keys at k e))

pub entry_is_key : (t : Table) (k shown into : List ℕ) → shown ≡ entries_of_set t k → into ≡ length shown ∷ shown → is_key (fracs t) into ≡ true
entry_is_key t k shown into s i = subst (λ x. is_key (fracs t) x ≡ true)
    (sym (i ∙ ap (λ xs. length xs ∷ xs) s ∙ ap (λ xs. length (entries_of_set t k) ∷ xs) (sym (append-nil (entries_of_set t k))))) (entry_proper t k)
