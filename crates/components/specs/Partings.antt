-- The parts of a graph's states (strongly connected components), their numbers, and which of them have loops. The definitions are own;
-- what one part is and how parts are numbered is cited from part_laws.
use Rattle.std.specs.Prelude.{◌≡◌, ℕ, ◌+◌, ◌*◌, ◌<◌, ◌≤◌, ◌↔◌, Bool, true, false, List, length, slice_index, IsTrue}
use Rattle.std.specs.List.{slice_index_or}
use Rattle.part_laws.specs.Graphs.{AreOnePart, IsLooping}
use Rattle.part_laws.specs.Parts.{ArePartNumbers}

-- the number of each state's part, for each part whether it loops, and the states in the order of their parts (own)
pub record Parted : Type 0 where
  pub numbers : List ℕ
  pub looping : List Bool
  pub order : List ℕ

-- all states are listed, in the order of their numbers (own)
pub record AreInOrder (states : ℕ) (numbers order : List ℕ) : Type 0 where
  pub long : length order ≡ states
  pub below : (k : ℕ) → k < states → slice_index order k < states
  pub rising : (j k : ℕ) → j < k → k < states → slice_index numbers (slice_index order j) ≤ slice_index numbers (slice_index order k)
  pub all : (q : ℕ) → q < states → (k : ℕ) × (k < states) × (slice_index order k ≡ q)

-- the numbers below a count are the numbers of the parts, and each of them is some state's (own; the parts are strongly connected
-- components, numbered so that no step leads to a greater number, as in Tarjan 1972)
pub record AreSplit (rows : List ℕ) (width states count : ℕ) (parts : List ℕ) : Type 0 where
  pub numbers : ArePartNumbers rows width states parts
  pub below : (q : ℕ) → q < states → slice_index parts q < count
  pub each : (k : ℕ) → k < count → (q : ℕ) × (q < states) × (slice_index parts q ≡ k)

-- the states of each part have one number, those of two parts have two, no step leads to a greater number, the parts whose states lie on
-- loops are marked, and the states are listed by their parts (own)
pub record AreParts (rows : List ℕ) (width states : ℕ) (p : Parted) : Type 0 where
  pub numbers : ArePartNumbers rows width states p.numbers
  pub one : (p' q : ℕ) → p' < states → q < states → AreOnePart rows width p' q → slice_index p.numbers p' ≡ slice_index p.numbers q
  pub below : (q : ℕ) → q < states → slice_index p.numbers q < length p.looping
  pub each : (k : ℕ) → k < length p.looping → (q : ℕ) × (q < states) × (slice_index p.numbers q ≡ k)
  pub loops : (q : ℕ) → q < states → IsTrue (slice_index_or p.looping (slice_index p.numbers q) false) ↔ IsLooping rows width q
  pub order : AreInOrder states p.numbers p.order

-- one of the first so many letters leads from the state to one of the same number (own)
abbrev pub HasInner : List ℕ → ℕ → List ℕ → ℕ → ℕ → Type 0
HasInner rows width numbers q upto = (l : ℕ) × (l < upto) × (slice_index numbers (slice_index rows (q * width + l)) ≡ slice_index numbers q)

-- the answer to whether one of the first so many letters does (own)
pub record TellsInner (rows : List ℕ) (width : ℕ) (numbers : List ℕ) (q upto : ℕ) (answer : Bool) : Type 0 where
  pub has : answer ≡ true → HasInner rows width numbers q upto
  pub none : answer ≡ false → (l : ℕ) → l < upto → slice_index numbers (slice_index rows (q * width + l)) ≡ slice_index numbers q → ⊥

-- the numbers are marked of which one of the first so many states has a step to one of the same number (own)
pub record MarksLoops (rows : List ℕ) (width : ℕ) (numbers : List ℕ) (count upto : ℕ) (looping : List Bool) : Type 0 where
  pub long : length looping ≡ count
  pub marked : (k : ℕ) → k < count → slice_index_or looping k false ≡ true
      → (q : ℕ) × (q < upto) × (slice_index numbers q ≡ k) × HasInner rows width numbers q width
  pub marks : (q : ℕ) → q < upto → HasInner rows width numbers q width → slice_index_or looping (slice_index numbers q) false ≡ true
