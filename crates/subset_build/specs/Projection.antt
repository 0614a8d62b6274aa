-- The projection of a diagram along a track: the set of the states in which the diagram can be, whatever the track's digits are (the
-- subset construction of Rabin and Scott).
use Rattle.std.specs.Prelude.{◌≡◌, ℕ, ◌+◌, ◌-◌, ◌*◌, ◌^◌, ◌<◌, ◌↔◌, Bool, true, ◌&&◌, nat_eq, nat_lt, nat_le, if◌then◌else◌, List, [], ◌∷◌, ◌++◌, length, map, slice_index, filter, All, AllPairs, Contains, IsTrue}
use Rattle.std.specs.List.{range_with_len, list_any}
use Rattle.graph_laws.specs.Walks.{go, copies}
use Rattle.graph_laws.specs.Exploring.{Steps, KeyTable, list_at, IsExplored, IsHeavy}
use Rattle.lash_model.specs.Letters.{digits, number, sign_letter}
use Rattle.lash_model.specs.Tables.{Table, letters, ints}
use Rattle.lash_model.specs.Acceptance.{accepts_word}
use Rattle.lash_model.specs.Sets.{inserted_at}

-- base, number of kept tracks, track, kept letter, digit: the letter of all tracks that has the digit on the track, and else the
-- digits of the kept letter. A sign vector is put together so in base 2
unfoldable pub with_digit : ℕ → ℕ → ℕ → ℕ → ℕ → ℕ
with_digit base kept track letter d = number base (inserted_at track d (digits base kept letter))

-- the number of tracks that are kept
abbrev pub kept : Table → ℕ
kept t = t.tracks - 1

-- the root for a kept sign vector and a sign bit on the track
abbrev pub root_over : Table → ℕ → ℕ → ℕ → ℕ
root_over t track sign b = slice_index t.roots (with_digit 2 (kept t) track sign b)

-- where the states of a part of an automaton go: the base, the number of all tracks, the flat rows of targets, the number of states
pub record Transitions : Type 0 where
  pub base : ℕ
  pub tracks : ℕ
  pub rows : List ℕ
  pub states : ℕ

-- of the integer part
abbrev pub int_transitions : Table → Transitions
int_transitions t = record { base = t.base; tracks = t.tracks; rows = t.rows; states = ints t }

-- where a state goes on a kept letter and a digit on the track
abbrev pub target : Transitions → ℕ → ℕ → ℕ → ℕ → ℕ
target m track letter q d = slice_index m.rows (q * m.base ^ m.tracks + with_digit m.base (m.tracks - 1) track letter d)

-- a state is reached under a kept sign vector: from a root over it, by letters over its sign letter
pub record IsSignReached (t : Table) (track sign q : ℕ) : Type 0 where
  pub bit : ℕ
  pub word : List ℕ
  pub bit_below : bit < 2
  pub digits_in : All (λ d. d < t.base) word
  pub leads : q ≡ go t.rows (letters t) (root_over t track sign bit) (map (with_digit t.base (kept t) track (sign_letter t.base (kept t) sign)) word)

-- the rising list of exactly the numbers of a set
pub record IsRisingSet (P : ℕ → Type 0) (xs : List ℕ) : Type 0 where
  pub rising : AllPairs (λ x y. x < y) xs
  pub sound : All P xs
  pub complete : (q : ℕ) → P q → Contains xs q

-- a list of states for each kept sign vector (the sign closure)
pub record AreStartSets (t : Table) (track : ℕ) (sets : List (List ℕ)) : Type 0 where
  pub count : length sets ≡ 2 ^ kept t
  pub each : (sign : ℕ) → sign < 2 ^ kept t → IsRisingSet (IsSignReached t track sign) (list_at sets sign)

-- whether some state of a set goes to a state on a kept letter and some digit
abbrev pub is_target : Transitions → ℕ → List ℕ → ℕ → ℕ → Bool
is_target m track set letter q = list_any (λ p. list_any (λ d. nat_eq (target m track letter p d) q) (range_with_len 0 m.base)) set

-- where a set of states goes on a kept letter, whatever the digit: the rising list of the targets
abbrev pub step_of_set : Transitions → ℕ → List ℕ → ℕ → List ℕ
step_of_set m track set letter = filter (is_target m track set letter) (range_with_len 0 m.states)

-- whether the entries rise, and are from the first number up to the second
abbrev pub is_rising_in : ℕ → ℕ → List ℕ → Bool
is_rising_in low high [] = true
is_rising_in low high (q ∷ qs) = nat_le low q && (nat_lt q high && is_rising_in (q + 1) high qs)

-- the machine of sets of states: it starts in the start sets, and a set weighs its length
abbrev pub subsets : Transitions → ℕ → List (List ℕ) → Steps
subsets m track sets = record {
  width = m.base ^ (m.tracks - 1);
  starts = sets;
  step = step_of_set m track;
  weight = λ set. length set;
  is_proper = is_rising_in 0 m.states;
}

-- whether some member's output is yes
abbrev pub set_says : Table → List ℕ → Bool
set_says t set = list_any (λ q. nat_eq (slice_index t.outs q) 1) set

-- 1 where some member's output is yes, and else 0
abbrev pub out_of_set : Table → List ℕ → ℕ
out_of_set t set = if set_says t set then 1 else 0

-- the table of exactly the reached sets, numbered by their least paths, within the limit of cells
pub record IsSubsetTable (t : Table) (track limit : ℕ) (u : Table) : Type 0 where
  pub sets : List (List ℕ)
  pub are_starts : AreStartSets t track sets
  pub found : KeyTable
  pub explored : IsExplored (subsets (int_transitions t) track sets) limit found
  pub states : ints u ≡ length found.keys
  pub roots_are : u.roots ≡ found.starts
  pub rows_are : u.rows ≡ found.rows
  pub outs_are : (i : ℕ) → i < length found.keys → slice_index u.outs i ≡ out_of_set t (list_at found.keys i)

-- distinct reached sets weigh more than the limit
pub record IsHeavyProjection (t : Table) (track limit : ℕ) : Type 0 where
  pub sets : List (List ℕ)
  pub are_starts : AreStartSets t track sets
  pub heavy : IsHeavy (subsets (int_transitions t) track sets) limit

-- base, number of kept tracks, track: the kept letters with the digits put in, letter by letter
abbrev pub woven : ℕ → ℕ → ℕ → List ℕ → List ℕ → List ℕ
woven base kept track [] ds = []
woven base kept track (l ∷ ls) [] = []
woven base kept track (l ∷ ls) (d ∷ ds) = with_digit base kept track l d ∷ woven base kept track ls ds

-- the diagram accepts a word of all tracks over a kept sign vector and word: with more sign letters in front, any digits and either
-- sign on the track
pub record IsAcceptedOver (t : Table) (track sign : ℕ) (w : List ℕ) : Type 0 where
  pub bit : ℕ
  pub more : ℕ
  pub word : List ℕ
  pub bit_below : bit < 2
  pub digits_in : All (λ d. d < t.base) word
  pub count : length word ≡ more + length w
  pub accepted : IsTrue (accepts_word t (with_digit 2 (kept t) track sign bit) (woven t.base (kept t) track (copies more (sign_letter t.base (kept t) sign ∷ []) ++ w) word))

-- the one diagram accepts a kept word exactly where the other accepts a word of all tracks over it
abbrev pub AcceptsSome : Table → ℕ → Table → Type 0
AcceptsSome t track u = (sign : ℕ) (w : List ℕ) → sign < 2 ^ kept t → All (λ l. l < t.base ^ kept t) w → IsTrue (accepts_word u sign w) ↔ IsAcceptedOver t track sign w
