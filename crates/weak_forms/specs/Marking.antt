-- Which parts have marked states, and which states are torn.
use Rattle.std.specs.Prelude.{◌≡◌, ℕ, ◌<◌, ◌≤◌, Bool, false, true, if◌then◌else◌, nat_eq, List, length, slice_index}
use Rattle.std.specs.List.{slice_index_or}
use Rattle.lash_model.specs.Tables.{Table, letters, fracs}
use Rattle.part_laws.specs.Graphs.{Reaches}
use Rattle.components.specs.Partings.{Parted}
use Rattle.marked_laws.specs.Weakening.{IsClearLoop, recoloured}
use Rattle.weak_forms.specs.Ways.{IsGoal}

-- one of the first so many states is marked and has the number (own)
pub record IsMarkOf (t : Table) (numbers : List ℕ) (upto k : ℕ) : Type 0 where
  pub state : ℕ
  pub low : state < upto
  pub here : slice_index numbers state ≡ k
  pub marked : slice_index t.colours state ≡ 0

-- the numbers are noted of which one of the first so many states is marked (own)
pub record TellMarks (t : Table) (p : Parted) (upto : ℕ) (marks : List Bool) : Type 0 where
  pub long : length marks ≡ length p.looping
  pub has : (k : ℕ) → k < length p.looping → slice_index_or marks k false ≡ true → IsMarkOf t p.numbers upto k
  pub notes : (q : ℕ) → q < upto → slice_index t.colours q ≡ 0 → slice_index_or marks (slice_index p.numbers q) false ≡ true

-- the colour of a part: no if it is noted (own)
abbrev pub colour_of : Bool → ℕ
colour_of noted = if noted then 0 else 1

-- the first so many states have the colours of their parts (own)
pub record AreColoured (t : Table) (p : Parted) (marks : List Bool) (upto : ℕ) (u : Table) : Type 0 where
  pub same : u ≡ recoloured t u.colours
  pub count : length u.colours ≡ fracs t
  pub each : (q : ℕ) → q < upto → slice_index u.colours q ≡ colour_of (slice_index_or marks (slice_index p.numbers q) false)

-- the state lies on a loop that meets no mark, and a marked state is in its part (own)
pub record LiesTorn (t : Table) (q : ℕ) : Type 0 where
  pub word : List ℕ
  pub loop : IsClearLoop t q word
  pub mark : ℕ
  pub marked : slice_index t.colours mark ≡ 0
  pub there : Reaches t.frac_rows (letters t) q mark
  pub back : Reaches t.frac_rows (letters t) mark q

-- the parts of the doubled graph tell which states lie on loops that meet no mark (own)
pub record TellClear (t : Table) (p : Parted) : Type 0 where
  pub long : fracs t ≤ length p.numbers
  pub below : (q : ℕ) → q < fracs t → slice_index p.numbers q < length p.looping
  pub loops : (q : ℕ) → q < fracs t → nat_eq (slice_index t.colours q) 1 ≡ true → slice_index_or p.looping (slice_index p.numbers q) false ≡ true
      → (w : List ℕ) × IsClearLoop t q w
  pub none : (q : ℕ) → q < fracs t → slice_index_or p.looping (slice_index p.numbers q) false ≡ false → (w : List ℕ) → IsClearLoop t q w → ⊥

-- the goals are torn states, and of the first so many states those that are torn are goals (own)
pub record TellTorn (t : Table) (upto : ℕ) (goals : List Bool) : Type 0 where
  pub long : length goals ≡ fracs t
  pub torn : (q : ℕ) → q < fracs t → IsGoal goals q → LiesTorn t q
  pub all : (q : ℕ) → q < upto → LiesTorn t q → IsGoal goals q

-- the one goal among so many states (own)
pub record IsOnlyGoal (states at : ℕ) (goals : List Bool) : Type 0 where
  pub long : length goals ≡ states
  pub here : IsGoal goals at
  pub only : (q : ℕ) → IsGoal goals q → q ≡ at
