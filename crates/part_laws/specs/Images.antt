-- Graphs made of others: an image, as of classes of states, and pairs of states of two graphs (the synchronous product).
use Rattle.std.specs.Prelude.{ℕ, ◌+◌, ◌*◌, ◌<◌, ◌≡◌, length, slice_index, Bool}
use Rattle.part_laws.specs.Graphs.{Graph, is_yes}

-- the second graph is the image of the first: each state has a place in it, places go with steps and colours, and each state of the
-- second is the place of one of the first
pub record IsImage (width : ℕ) (a b : Graph) : Type 0 where
  pub place : ℕ → ℕ
  pub in_range : (q : ℕ) → q < length a.colours → place q < length b.colours
  pub steps : (q l : ℕ) → q < length a.colours → l < width → place (slice_index a.rows (q * width + l)) ≡ slice_index b.rows (place q * width + l)
  pub colours : (q : ℕ) → q < length a.colours → slice_index b.colours (place q) ≡ slice_index a.colours q
  pub source : ℕ → ℕ
  pub source_in : (p : ℕ) → p < length b.colours → source p < length a.colours
  pub onto : (p : ℕ) → p < length b.colours → place (source p) ≡ p

-- the first graph runs over the second: each state has a place in it, and places go with steps, on what is read of each letter
pub record RunsOver (width : ℕ) (p : Graph) (narrow : ℕ) (a : Graph) (read : ℕ → ℕ) : Type 0 where
  pub place : ℕ → ℕ
  pub in_range : (q : ℕ) → q < length p.colours → place q < length a.colours
  pub read_in : (l : ℕ) → l < width → read l < narrow
  pub steps : (q l : ℕ) → q < length p.colours → l < width → place (slice_index p.rows (q * width + l)) ≡ slice_index a.rows (place q * narrow + read l)

-- an operand of a graph of pairs: its letters, the graph, and what it reads of a letter
pub record Side : Type 0 where
  pub width : ℕ
  pub graph : Graph
  pub read : ℕ → ℕ

-- the graph runs over both operands, and a colour is yes if the truth function of theirs says so
pub record IsPairGraph (width : ℕ) (p : Graph) (left right : Side) (op : Bool → Bool → Bool) : Type 0 where
  pub over_left : RunsOver width p left.width left.graph left.read
  pub over_right : RunsOver width p right.width right.graph right.read
  pub colours : (q : ℕ) → q < length p.colours → is_yes p q ≡ op (is_yes left.graph (over_left.place q)) (is_yes right.graph (over_right.place q))
