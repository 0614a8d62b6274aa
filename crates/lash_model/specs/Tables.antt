-- Tables of automata. The integer part reads the letters of the whole part of a number, the fraction part those behind the point.
-- A table without fraction states is a Number Decision Diagram, whose outputs are 1 for yes and 0 for no; any other is a Real
-- Vector Automaton, whose outputs are fraction states.
use Rattle.std.specs.Prelude.{ℕ, ◌+◌, ◌*◌, ◌^◌, ◌<◌, ◌≤◌, ◌≡◌, List, [], length, All, nat_eq, if◌then◌else◌}

-- a root for each sign vector, flat rows of targets, an output for each integer state and a colour for each fraction state
pub record Table : Type 0 where
  pub base : ℕ
  pub tracks : ℕ
  pub roots : List ℕ
  pub rows : List ℕ
  pub outs : List ℕ
  pub frac_rows : List ℕ
  pub colours : List ℕ

abbrev pub letters : Table → ℕ
letters t = t.base ^ t.tracks

-- the numbers of integer states and of fraction states
abbrev pub ints : Table → ℕ
ints t = length t.outs

abbrev pub fracs : Table → ℕ
fracs t = length t.colours

-- what outputs are below: the number of fraction states, or 2 where there are none
abbrev pub out_bound : ℕ → ℕ
out_bound fracs = if nat_eq fracs 0 then 2 else fracs

abbrev pub IsDiagram : Table → Type 0
IsDiagram t = t.colours ≡ []

-- the base is 2 to 16, there are at most 4,096 letters, at least one integer state and at most 16,777,216 cells
pub record IsShape (base tracks ints fracs : ℕ) : Type 0 where
  pub base_low : 2 ≤ base
  pub base_high : base ≤ 16
  pub few_letters : base ^ tracks ≤ 4096
  pub some_state : 1 ≤ ints
  pub few_cells : (ints + fracs) * (base ^ tracks + 1) ≤ 16777216

-- the lists have the lengths of the shape, and all their entries are in range
pub record IsTable (t : Table) : Type 0 where
  pub shape : IsShape t.base t.tracks (length t.outs) (length t.colours)
  pub roots_count : length t.roots ≡ 2 ^ t.tracks
  pub rows_count : length t.rows ≡ length t.outs * t.base ^ t.tracks
  pub frac_rows_count : length t.frac_rows ≡ length t.colours * t.base ^ t.tracks
  pub roots_in : All (λ q. q < length t.outs) t.roots
  pub rows_in : All (λ q. q < length t.outs) t.rows
  pub outs_in : All (λ q. q < out_bound (length t.colours)) t.outs
  pub frac_rows_in : All (λ q. q < length t.colours) t.frac_rows
  pub colours_in : All (λ c. c < 2) t.colours
