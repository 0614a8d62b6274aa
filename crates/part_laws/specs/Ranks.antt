-- Ranks of the states of a weak graph: how often the colour of loops can change from a state on, counted so that a looping state has an
-- even rank if its colour is yes, and an odd one if it is no (Löding 2001: in the canonical weak automaton each state has the colour of
-- its rank).
use Rattle.std.specs.Prelude.{ℕ, zero, suc, ◌<◌, ◌≤◌, ◌≡◌, List, length, slice_index}
use Rattle.std.specs.List.{AllByRecursion}
use Rattle.graph_laws.specs.Walks.{go}
use Rattle.part_laws.specs.Graphs.{Graph, IsLooping}

-- 1 for an even number, else 0
abbrev pub even : ℕ → ℕ
even zero = 1
even (suc zero) = 0
even (suc (suc m)) = even m

-- a word leads to a looping state whose colour is yes if m is even, and no if m is odd; what is left to ask holds of that state
pub record Link (width : ℕ) (g : Graph) (q m : ℕ) (rest : ℕ → Type 0) : Type 0 where
  pub word : List ℕ
  pub letters : AllByRecursion (λ l. l < width) word
  pub loop : IsLooping g.rows width (go g.rows width q word)
  pub parity : slice_index g.colours (go g.rows width q word) ≡ even m
  pub more : rest (go g.rows width q word)

-- a chain of looping states whose colours alternate, the last of them no unless it is the only one: a chain of 0 is one loop of colour
-- yes, a chain of 1 is one of colour no, and a longer one goes on from its first loop with a chain of one less
abbrev pub HasChain : ℕ → Graph → ℕ → ℕ → Type 0
HasChain width g zero q = Link width g q 0 (λ p. Unit)
HasChain width g (suc zero) q = Link width g q 1 (λ p. Unit)
HasChain width g (suc (suc m)) q = Link width g q (suc (suc m)) (λ p. HasChain width g (suc m) p)

-- m is the greatest number of a chain from the state
pub record IsRank (width : ℕ) (g : Graph) (q m : ℕ) : Type 0 where
  pub chain : HasChain width g m q
  pub greatest : (k : ℕ) → HasChain width g k q → k ≤ m

-- the colour is yes if the state's rank is even, and no if it is odd
pub record IsParity (width : ℕ) (g : Graph) (q c : ℕ) : Type 0 where
  pub number : ℕ
  pub rank : IsRank width g q number
  pub parity : c ≡ even number

-- every state has the colour of its rank
abbrev pub IsByRank : ℕ → Graph → Type 0
IsByRank width g = (q : ℕ) → q < length g.colours → IsParity width g q (slice_index g.colours q)

-- for each state the colour of its rank in the graph as it is
pub record IsRecolouring (width : ℕ) (g : Graph) (colours : List ℕ) : Type 0 where
  pub count : length colours ≡ length g.colours
  pub each : (q : ℕ) → q < length g.colours → IsParity width g q (slice_index colours q)

-- the graph with those colours
abbrev pub recoloured : Graph → List ℕ → Graph
recoloured g colours = record { rows = g.rows; colours = colours }
