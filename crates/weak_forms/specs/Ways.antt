-- Least paths of a graph to states of a kind.
use Rattle.std.specs.Prelude.{◌≡◌, ℕ, ◌<◌, Bool, false, true, List, length, slice_index}
use Rattle.std.specs.List.{slice_index_or}
use Rattle.graph_laws.specs.Paths.{Path, AtMost}
use Rattle.canonical_laws.specs.Canonical.{IsPathOf}
use Rattle.least_paths.specs.Nets.{Net, end_of}

-- the state is a goal (own)
abbrev pub IsGoal : List Bool → ℕ → Type 0
IsGoal goals q = slice_index_or goals q false ≡ true

-- no path leads to a goal (own)
abbrev pub LeadsToNone : Net → List Bool → Type 0
LeadsToNone g goals = (x : Path) → IsPathOf g.starts g.width x → IsGoal goals (end_of g x) → ⊥

-- the path leads to a goal, and is at most each path that does (own)
pub record IsLeastWay (g : Net) (goals : List Bool) (p : Path) : Type 0 where
  pub valid : IsPathOf g.starts g.width p
  pub leads : IsGoal goals (end_of g p)
  pub least : (x : Path) → IsPathOf g.starts g.width x → IsGoal goals (end_of g x) → AtMost p x

-- the first position of a goal (own)
pub record IsFirstGoal (goals : List Bool) (order : List ℕ) (i : ℕ) : Type 0 where
  pub inside : i < length order
  pub good : IsGoal goals (slice_index order i)
  pub first : (j : ℕ) → j < i → IsGoal goals (slice_index order j) → ⊥
