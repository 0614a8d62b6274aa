-- The projection of an automaton with fraction states along a track. The integer part is the machine of sets of states; the fraction part
-- is a breakpoint machine (Miyano and Hayashi): the states where the automaton can be, and those of them that owe a run of colour yes
-- since the last breakpoint, at which nothing is owed. A breakpoint is a marked state.
use Rattle.std.specs.Prelude.{◌≡◌, ℕ, suc, ◌+◌, ◌-◌, ◌*◌, ◌^◌, ◌<◌, ◌↔◌, Bool, false, ◌&&◌, nat_eq, nat_le, List, [], ◌∷◌, ◌++◌, length, take, drop}
use Rattle.std.specs.Prelude.{slice_index, filter, All, IsTrue, ℤ}
use Rattle.std.specs.List.{range_with_len, list_any}
use Rattle.graph_laws.specs.Walks.{copies}
use Rattle.graph_laws.specs.Exploring.{Steps, KeyTable, list_at, IsExploredInTwo, IsHeavyInTwo}
use Rattle.lash_model.specs.Letters.{sign_letter}
use Rattle.lash_model.specs.Lassos.{Lasso, IsLasso}
use Rattle.lash_model.specs.Formulas.{Int, Real, Formula, Exists}
use Rattle.lash_model.specs.Meaning.{holds}
use Rattle.lash_model.specs.Tables.{Table, ints, fracs}
use Rattle.lash_model.specs.Acceptance.{accepts_lasso}
use Rattle.lasso_laws.specs.WholeNumbers.{whole_at}
use Rattle.subset_build.specs.Projection.{with_digit, kept, Transitions, int_transitions, step_of_set, is_rising_in, subsets, AreStartSets, woven}

-- the formula that binds a real variable
abbrev pub exists_real : Formula → Formula
exists_real f = Exists Real f

-- the formula that binds an integer variable, and the set of a formula's fractions that are whole at a place
abbrev pub exists_int : Formula → Formula
exists_int f = Exists Int f

abbrev pub holds_whole : Formula → ℕ → List ℤ → ℕ → Type 0
holds_whole f track ns d = holds f ns d × whole_at track ns d

-- where the fraction states of an automaton go
abbrev pub frac_transitions : Table → Transitions
frac_transitions t = record { base = t.base; tracks = t.tracks; rows = t.frac_rows; states = fracs t }

-- a key: how many states there are where the automaton can be, these states, and after them the states that owe
abbrev pub key_of : List ℕ → List ℕ → List ℕ
key_of states owing = length states ∷ (states ++ owing)

abbrev pub states_of : List ℕ → List ℕ
states_of [] = []
states_of (count ∷ qs) = take count qs

abbrev pub owing_of : List ℕ → List ℕ
owing_of [] = []
owing_of (count ∷ qs) = drop count qs

-- the states of colour yes among some
abbrev pub yes_states : Table → List ℕ → List ℕ
yes_states t set = filter (λ q. nat_eq (slice_index t.colours q) 1) set

-- if nothing is owed, all states begin to owe
abbrev pub refilled : List ℕ → List ℕ → List ℕ
refilled [] states = states
refilled (q ∷ qs) states = q ∷ qs

-- where sets of fraction states go on a kept letter, whatever the digit on the track
abbrev pub frac_step : Table → ℕ → List ℕ → ℕ → List ℕ
frac_step t track set letter = step_of_set (frac_transitions t) track set letter

-- the key after a key and a kept letter: what goes on owing is of colour yes
abbrev pub step_of_key : Table → ℕ → List ℕ → ℕ → List ℕ
step_of_key t track key letter =
    key_of (frac_step t track (states_of key) letter) (yes_states t (frac_step t track (refilled (owing_of key) (states_of key)) letter))

-- a count, and two rising lists of fraction states, the first as long as the count
abbrev pub is_key : ℕ → List ℕ → Bool
is_key high [] = false
is_key high (count ∷ qs) = nat_le count (length qs) && (is_rising_in 0 high (take count qs) && is_rising_in 0 high (drop count qs))

-- the breakpoint machine, without starts; a key weighs the states in its two lists
abbrev pub breakpoints : Table → ℕ → Steps
breakpoints t track = record {
  width = t.base ^ kept t;
  starts = [];
  step = step_of_key t track;
  weight = λ key. length key - 1;
  is_proper = is_key (fracs t);
}

-- where the automaton can enter its fraction part from a set of integer states: the rising list of their outputs
abbrev pub entries_of_set : Table → List ℕ → List ℕ
entries_of_set t set = filter (λ q. list_any (λ p. nat_eq (slice_index t.outs p) q) set) (range_with_len 0 (fracs t))

-- the key of that entry, in which nothing is owed
abbrev pub entry_key : Table → List ℕ → List ℕ
entry_key t set = key_of (entries_of_set t set) []

-- 0, the mark, if nothing is owed, and else 1
abbrev pub owing_colour : List ℕ → ℕ
owing_colour [] = 0
owing_colour (q ∷ qs) = 1

-- the marked table: the reached sets of integer states and the reached keys, numbered by their least paths, within the limit of cells
-- together; an output is the state of the entry key
pub record IsBreakpointTable (t : Table) (track limit : ℕ) (u : Table) : Type 0 where
  pub sets : List (List ℕ)
  pub are_starts : AreStartSets t track sets
  pub found : KeyTable
  pub keys : KeyTable
  pub explored : IsExploredInTwo (subsets (int_transitions t) track sets) (entry_key t) (breakpoints t track) limit found keys
  pub base_is : u.base ≡ t.base
  pub tracks_are : u.tracks ≡ kept t
  pub states : ints u ≡ length found.keys
  pub roots_are : u.roots ≡ found.starts
  pub rows_are : u.rows ≡ found.rows
  pub outs_are : u.outs ≡ keys.starts
  pub frac_states : fracs u ≡ length keys.keys
  pub frac_rows_are : u.frac_rows ≡ keys.rows
  pub colours_are : (i : ℕ) → i < length keys.keys → slice_index u.colours i ≡ owing_colour (owing_of (list_at keys.keys i))

-- distinct reached sets, and distinct reached keys as those sets lead to them, together weigh more than the limit
pub record IsHeavyRealProjection (t : Table) (track limit : ℕ) : Type 0 where
  pub sets : List (List ℕ)
  pub are_starts : AreStartSets t track sets
  pub heavy : IsHeavyInTwo (subsets (int_transitions t) track sets) (entry_key t) (breakpoints t track) limit

-- over a lasso of the kept tracks the automaton accepts a lasso of all tracks: with more sign letters in front, the cycle turned further
-- and repeated, and any sign and digits on the track
pub record IsLassoAcceptedOver (t : Table) (track : ℕ) (x : Lasso) : Type 0 where
  pub bit : ℕ
  pub signs : ℕ
  pub more : ℕ
  pub less : ℕ
  pub whole : List ℕ
  pub stem : List ℕ
  pub cycle : List ℕ
  pub bit_below : bit < 2
  pub whole_in : All (λ d. d < t.base) whole
  pub stem_in : All (λ d. d < t.base) stem
  pub cycle_in : All (λ d. d < t.base) cycle
  pub whole_count : length whole ≡ signs + length x.whole
  pub stem_count : length stem ≡ length x.stem + more * length x.cycle
  pub cycle_count : length cycle ≡ suc less * length x.cycle
  pub accepted : IsTrue (accepts_lasso t (record {
    sign = with_digit 2 (kept t) track x.sign bit;
    whole = woven t.base (kept t) track (copies signs (sign_letter t.base (kept t) x.sign ∷ []) ++ x.whole) whole;
    stem = woven t.base (kept t) track (x.stem ++ copies more x.cycle) stem;
    cycle = woven t.base (kept t) track (copies (suc less) x.cycle) cycle;
  }))

-- the second automaton accepts a lasso of the kept tracks exactly if the first accepts a lasso of all tracks over it
abbrev pub AcceptsSomeLasso : Table → ℕ → Table → Type 0
AcceptsSomeLasso t track u = (x : Lasso) → IsLasso u.base u.tracks x → IsTrue (accepts_lasso u x) ↔ IsLassoAcceptedOver t track x
