-- Two parts of automata that are compared: over the same letters and as many starts, with outputs in a one-to-one relation.
use Rattle.std.specs.Prelude.{ℕ, ◌+◌, ◌*◌, ◌<◌, ◌≡◌, List, length, slice_index}
use Rattle.graph_laws.specs.Paths.{Path}
use Rattle.canonical_laws.specs.Canonical.{IsPathOf, walked, IsNumbered, IsSeparated}

-- starts, flat rows of targets, and an output for each state
pub record Part : Type 0 where
  pub starts : List ℕ
  pub rows : List ℕ
  pub outs : List ℕ

-- starts and targets are states
pub record IsClosed (width : ℕ) (g : Part) : Type 0 where
  pub starts_in : (j : ℕ) → j < length g.starts → slice_index g.starts j < length g.outs
  pub rows_in : (q l : ℕ) → q < length g.outs → l < width → slice_index g.rows (q * width + l) < length g.outs

-- numbered, separated, and closed
pub record IsMinimal (width : ℕ) (g : Part) : Type 0 where
  pub closed : IsClosed width g
  pub numbered : IsNumbered g.starts g.rows width (length g.outs)
  pub separated : IsSeparated g.rows width g.outs

-- the relation between outputs is one to one
pub record IsOneToOne (rel : ℕ → ℕ → Type 0) : Type 0 where
  pub right : (x y z : ℕ) → rel x y → rel x z → y ≡ z
  pub left : (x y z : ℕ) → rel x z → rel y z → x ≡ y

-- after every path the outputs are in the relation
pub record AreRelated (width : ℕ) (rel : ℕ → ℕ → Type 0) (a b : Part) : Type 0 where
  pub starts : length a.starts ≡ length b.starts
  pub outs : (p : Path) → IsPathOf a.starts width p → rel (slice_index a.outs (walked a.starts a.rows width p)) (slice_index b.outs (walked b.starts b.rows width p))
