-- Numbers of the parts of a graph, and ranks that are reckoned part by part.
use Rattle.std.specs.Prelude.{ℕ, ◌+◌, ◌*◌, ◌<◌, ◌≤◌, ◌≡◌, List, length, slice_index}
use Rattle.part_laws.specs.Graphs.{Graph, AreOnePart, IsLooping}
use Rattle.part_laws.specs.Ranks.{even}

-- a number for each state: states of one number reach each other, and no step leads to a greater number, so a part is all states of one
-- number (the order of components of Tarjan 1972)
pub record ArePartNumbers (rows : List ℕ) (width states : ℕ) (parts : List ℕ) : Type 0 where
  pub count : length parts ≡ states
  pub one : (p q : ℕ) → p < states → q < states → slice_index parts p ≡ slice_index parts q → AreOnePart rows width p q
  pub falling : (q l : ℕ) → q < states → l < width → slice_index parts (slice_index rows (q * width + l)) ≤ slice_index parts q

-- a step of some state of q's part stays in the part
pub record StepsInside (rows : List ℕ) (width states : ℕ) (parts : List ℕ) (q : ℕ) : Type 0 where
  pub from : ℕ
  pub letter : ℕ
  pub from_in : from < states
  pub letter_in : letter < width
  pub here : slice_index parts from ≡ slice_index parts q
  pub inside : slice_index parts (slice_index rows (from * width + letter)) ≡ slice_index parts q

-- the cause of a state's rank: the state lies on a loop and the rank is at most 1; or it lies on a loop and a step from its part leads
-- to a rank that is less by one; or a step leads out of its part to the same rank
pub data IsAttained (rows : List ℕ) (width states : ℕ) (parts ranks : List ℕ) (q : ℕ) : Type 0 where
  lowest : IsLooping rows width q → slice_index ranks q ≤ 1 → IsAttained rows width states parts ranks q
  raised : IsLooping rows width q → (p l : ℕ) → p < states → l < width → slice_index parts p ≡ slice_index parts q
      → slice_index ranks (slice_index rows (p * width + l)) + 1 ≡ slice_index ranks q → IsAttained rows width states parts ranks q
  handed : (p l : ℕ) → p < states → l < width → slice_index parts p ≡ slice_index parts q
      → slice_index parts (slice_index rows (p * width + l)) < slice_index parts q
      → slice_index ranks (slice_index rows (p * width + l)) ≡ slice_index ranks q → IsAttained rows width states parts ranks q

-- numbers that no step raises, that are even for looping states of colour yes and odd for those of colour no, and that have a cause
pub record AreRanks (width : ℕ) (g : Graph) (parts ranks : List ℕ) : Type 0 where
  pub count : length ranks ≡ length g.colours
  pub falling : (q l : ℕ) → q < length g.colours → l < width → slice_index ranks (slice_index g.rows (q * width + l)) ≤ slice_index ranks q
  pub parity : (q : ℕ) → q < length g.colours → IsLooping g.rows width q → slice_index g.colours q ≡ even (slice_index ranks q)
  pub attained : (q : ℕ) → q < length g.colours → IsAttained g.rows width (length g.colours) parts ranks q

-- all states of one number have one colour, if a step stays inside their part
abbrev pub AreOneColoured : ℕ → Graph → List ℕ → Type 0
AreOneColoured width g parts = (p q : ℕ) → p < length g.colours → q < length g.colours → StepsInside g.rows width (length g.colours) parts p
    → slice_index parts p ≡ slice_index parts q → slice_index g.colours p ≡ slice_index g.colours q
