-- The words of a torn table, one after the other.
use Rattle.std.specs.Prelude.{◌≡◌, ℕ, ◌+◌, ◌*◌, ◌<◌, List, length, slice_index}
use Rattle.lash_model.specs.Tables.{Table}
use Rattle.marked_laws.specs.Weakening.{IsLedTo, IsClearLoop, IsMarkedLoop, IsTornAt}
use Rattle.marked_laws.specs.TornTables.{IsNoLater, IsWordAtMost, arrival}

-- the outputs of integer states, in order (own)
pub record AreOuts (t : Table) (order outs : List ℕ) (upto : ℕ) : Type 0 where
  pub count : length outs ≡ upto
  pub each : (i : ℕ) → i < upto → slice_index outs i ≡ slice_index t.outs (slice_index order i)

-- the least way to a torn state (own)
pub record IsLeastArrival (t : Table) (q sign : ℕ) (whole stem : List ℕ) : Type 0 where
  pub torn : IsTornAt t q
  pub led : IsLedTo t sign whole stem q
  pub least : (p other : ℕ) (w u : List ℕ) → IsTornAt t p → IsLedTo t other w u p → IsNoLater (arrival sign whole stem) (arrival other w u)

-- the targets of a state by the first letters (own)
pub record AreTargets (rows : List ℕ) (width q upto : ℕ) (targets : List ℕ) : Type 0 where
  pub count : length targets ≡ upto
  pub each : (l : ℕ) → l < upto → slice_index targets l ≡ slice_index rows (q * width + l)

-- the least loop without a mark, and the least one with a mark (own)
pub record IsLeastClear (t : Table) (q : ℕ) (w : List ℕ) : Type 0 where
  pub loop : IsClearLoop t q w
  pub least : (v : List ℕ) → IsClearLoop t q v → IsWordAtMost w v

pub record IsLeastMarked (t : Table) (q : ℕ) (w : List ℕ) : Type 0 where
  pub loop : IsMarkedLoop t q w
  pub least : (v : List ℕ) → IsMarkedLoop t q v → IsWordAtMost w v
