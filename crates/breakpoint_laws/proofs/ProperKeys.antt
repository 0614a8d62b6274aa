-- Keys stay proper: the lists of a key after a step, and of an entry, are rising lists of states.
use Rattle.std.proofs.Common.{◌≡◌, ℕ, ◌<◌, ◌≤◌, Bool, true, List, [], ◌++◌, length, arith, refl, ◌∙◌, ap, length-append}
use Rattle.std.specs.Prelude.{slice_index, All, nat_eq, nat_le, ◌&&◌}
use Rattle.std.specs.List.{AllPairs, range_with_len, list_any, filter}
use Rattle.std.proofs.lemmas.Bool.{and_from, le-leb}
use Rattle.std.proofs.lemmas.List.Elements.{All-filter, All-weaker}
use Rattle.std.proofs.lemmas.List.Kept.{AllPairs-filter}
use Rattle.lash_model.specs.Tables.{Table, fracs}
use Rattle.subset_build.specs.Projection.{is_target, is_rising_in}
use Rattle.subset_build.proofs.Targets.{proper_from_below}
use Rattle.subset_build.proofs.RisingSets.{filter_range}
use Rattle.breakpoint_laws.specs.Breakpoints.{frac_transitions, key_of, states_of, owing_of, yes_states, refilled, frac_step, step_of_key, is_key}
use Rattle.breakpoint_laws.specs.Breakpoints.{entries_of_set, entry_key}
use Rattle.breakpoint_laws.proofs.Keys.{states-key_of, owing-key_of}

zero_upto : (xs : List ℕ) → All (λ q. 0 ≤ q) xs
zero_upto xs k d inside = omega arith

rising_proper : (high : ℕ) (xs : List ℕ) → AllPairs (λ x y. x < y) xs → All (λ q. q < high) xs → is_rising_in 0 high xs ≡ true
rising_proper high xs rising below = proper_from_below 0 high xs rising (zero_upto xs) below

key_proper : (high : ℕ) (xs ys : List ℕ) → is_rising_in 0 high xs ≡ true → is_rising_in 0 high ys ≡ true → is_key high (key_of xs ys) ≡ true
key_proper high xs ys a b = and_from (nat_le (length xs) (length (xs ++ ys)))
    (is_rising_in 0 high (states_of (key_of xs ys)) && is_rising_in 0 high (owing_of (key_of xs ys)))
    (le-leb (length xs) (length (xs ++ ys)) (omega (arith, length-append xs ys)))
    (and_from (is_rising_in 0 high (states_of (key_of xs ys))) (is_rising_in 0 high (owing_of (key_of xs ys)))
    (ap (is_rising_in 0 high) (states-key_of xs ys) ∙ a) (ap (is_rising_in 0 high) (owing-key_of xs ys) ∙ b))

range_proper : (high : ℕ) (p : ℕ → Bool) → is_rising_in 0 high (filter p (range_with_len 0 high)) ≡ true
range_proper high p = let r = filter_range p high in
    rising_proper high (filter p (range_with_len 0 high)) r.rising
    (All-weaker (λ q. (q < high) × (p q ≡ true)) (λ q. q < high) (λ q h. h.0) (filter p (range_with_len 0 high)) r.sound)

filtered_proper : (high : ℕ) (p c : ℕ → Bool) → is_rising_in 0 high (filter c (filter p (range_with_len 0 high))) ≡ true
filtered_proper high p c = let r = filter_range p high in
    rising_proper high (filter c (filter p (range_with_len 0 high))) (AllPairs-filter (λ x y. x < y) c (filter p (range_with_len 0 high)) r.rising)
    (All-filter c (λ q. q < high) (filter p (range_with_len 0 high))
    (All-weaker (λ q. (q < high) × (p q ≡ true)) (λ q. q < high) (λ q h. h.0) (filter p (range_with_len 0 high)) r.sound))

pub step_proper : (t : Table) (track letter : ℕ) (key : List ℕ) → is_key (fracs t) (step_of_key t track key letter) ≡ true
step_proper t track letter key =
    key_proper (fracs t) (frac_step t track (states_of key) letter) (yes_states t (frac_step t track (refilled (owing_of key) (states_of key)) letter))
    (range_proper (fracs t) (is_target (frac_transitions t) track (states_of key) letter))
    (filtered_proper (fracs t) (is_target (frac_transitions t) track (refilled (owing_of key) (states_of key)) letter)
    (λ q. nat_eq (slice_index t.colours q) 1))

pub entry_proper : (t : Table) (set : List ℕ) → is_key (fracs t) (entry_key t set) ≡ true
entry_proper t set = key_proper (fracs t) (entries_of_set t set) [] (range_proper (fracs t) (λ q. list_any (λ p. nat_eq (slice_index t.outs p) q) set)) refl
