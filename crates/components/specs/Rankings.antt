-- Ranks of the states of a weak graph, reckoned part by part, lowest part first. What weakness, chains and ranks are is cited from
-- part_laws; the definitions here are own, and say what a state gives to its part and what the loops over letters and states keep.
use Rattle.std.specs.Prelude.{◌≡◌, ℕ, ◌+◌, ◌*◌, ◌<◌, ◌≤◌, ◌⊎◌, ◌↔◌, Bool, true, false, not, ◌&&◌, if◌then◌else◌, nat_eq, List, length, slice_index, IsTrue}
use Rattle.std.specs.List.{slice_index_or}
use Rattle.part_laws.specs.Graphs.{IsWeak}
use Rattle.part_laws.specs.Ranks.{even}
use Rattle.components.specs.Partings.{Parted, AreParts}

-- the two states have one colour, if they are in one part that loops (own)
abbrev pub DoAgree : List ℕ → Parted → ℕ → ℕ → Type 0
DoAgree colours p q t = slice_index p.numbers q ≡ slice_index p.numbers t → slice_index_or p.looping (slice_index p.numbers q) false ≡ true
    → slice_index colours q ≡ slice_index colours t

-- the first so many states in the order of the parts agree with each other (own)
abbrev pub AllAgree : List ℕ → Parted → ℕ → Type 0
AllAgree colours p upto = (j k : ℕ) → j < k → k < upto → DoAgree colours p (slice_index p.order j) (slice_index p.order k)

-- the greater of the two (own)
pub record IsGreater (one other result : ℕ) : Type 0 where
  pub one_less : one ≤ result
  pub other_less : other ≤ result
  pub which : (result ≡ one) ⊎ (result ≡ other)

-- the number, or one more if the part loops and has another colour than the number (own)
abbrev pub lift : Bool → ℕ → ℕ → ℕ
lift loops colour m = if loops && not (nat_eq (even m) colour) then m + 1 else m

-- that for a state, with the marks of its part (own)
abbrev pub lift_at : List ℕ → Parted → ℕ → ℕ → ℕ
lift_at colours p q m = lift (slice_index_or p.looping (slice_index p.numbers q) false) (slice_index colours q) m

-- the number of the part to which a letter leads (own)
abbrev pub part_after : List ℕ → ℕ → Parted → ℕ → ℕ → ℕ
part_after rows width p q l = slice_index p.numbers (slice_index rows (q * width + l))

-- the number is 0, or what a part has to which a letter leads out of the state's part (own)
abbrev pub ComesFrom : List ℕ → ℕ → Parted → List ℕ → ℕ → ℕ → Type 0
ComesFrom rows width p ranks q m = (m ≡ 0) ⊎ ((l : ℕ) × (l < width) × (part_after rows width p q l < slice_index p.numbers q)
    × (m ≡ slice_index ranks (part_after rows width p q l)))

-- the greatest of what a part has and of what the first so many letters of a state of it give (own)
pub record IsRisen (rows : List ℕ) (width : ℕ) (colours : List ℕ) (p : Parted) (ranks : List ℕ) (q upto best : ℕ) : Type 0 where
  pub before : slice_index ranks (slice_index p.numbers q) ≤ best
  pub start : lift_at colours p q 0 ≤ best
  pub steps : (l : ℕ) → l < upto → part_after rows width p q l < slice_index p.numbers q
      → lift_at colours p q (slice_index ranks (part_after rows width p q l)) ≤ best
  pub source : (best ≡ slice_index ranks (slice_index p.numbers q)) ⊎ ((m : ℕ) × (best ≡ lift_at colours p q m) × ComesFrom rows width p ranks q m)
  pub small : best ≤ slice_index p.numbers q + 1

-- a state of the part gives the part what it has (own)
pub record IsSource (n : ℕ) (rows : List ℕ) (width : ℕ) (colours : List ℕ) (p : Parted) (ranks : List ℕ) (part : ℕ) : Type 0 where
  pub state : ℕ
  pub inside : state < n
  pub here : slice_index p.numbers state ≡ part
  pub below : ℕ
  pub value : slice_index ranks part ≡ lift_at colours p state below
  pub from : ComesFrom rows width p ranks state below

-- the part of the state has at least what the state gives (own)
pub record IsCovered (rows : List ℕ) (width : ℕ) (colours : List ℕ) (p : Parted) (ranks : List ℕ) (q : ℕ) : Type 0 where
  pub start : lift_at colours p q 0 ≤ slice_index ranks (slice_index p.numbers q)
  pub steps : (l : ℕ) → l < width → part_after rows width p q l < slice_index p.numbers q
      → lift_at colours p q (slice_index ranks (part_after rows width p q l)) ≤ slice_index ranks (slice_index p.numbers q)

-- each part has the greatest of what its states give (own)
pub record AreLifted (n : ℕ) (rows : List ℕ) (width : ℕ) (colours : List ℕ) (p : Parted) (ranks : List ℕ) : Type 0 where
  pub long : length ranks ≡ length p.looping
  pub attained : (k : ℕ) → k < length p.looping → (slice_index ranks k ≡ 0) ⊎ IsSource n rows width colours p ranks k
  pub covered : (q : ℕ) → q < n → IsCovered rows width colours p ranks q

-- the same, after the first so many states in the order of the parts (own)
pub record AreLifting (n : ℕ) (rows : List ℕ) (width : ℕ) (colours : List ℕ) (p : Parted) (ranks : List ℕ) (upto : ℕ) : Type 0 where
  pub long : length ranks ≡ length p.looping
  pub small : (k : ℕ) → slice_index ranks k ≤ k + 1
  pub attained : (k : ℕ) → k < length p.looping → (slice_index ranks k ≡ 0) ⊎ IsSource n rows width colours p ranks k
  pub untouched : (k : ℕ) → k < length p.looping → ((j : ℕ) → j < upto → slice_index p.numbers (slice_index p.order j) < k) → slice_index ranks k ≡ 0
  pub covered : (j : ℕ) → j < upto → IsCovered rows width colours p ranks (slice_index p.order j)

-- the answer to whether each graph with these parts is weak (own)
abbrev pub DecidesWeak : List ℕ → Parted → Bool → Type 0
DecidesWeak colours p answer = (rows : List ℕ) (width : ℕ) → AreParts rows width (length colours) p
    → IsTrue answer ↔ IsWeak width (record { rows = rows; colours = colours })

-- the colour is that of the number, for each of them (own)
pub record AreParities (ranks colours : List ℕ) : Type 0 where
  pub count : length colours ≡ length ranks
  pub each : (q : ℕ) → q < length ranks → slice_index colours q ≡ even (slice_index ranks q)

-- that for the first so many of them, and the others are what they were (own)
pub record ArePut (ranks : List ℕ) (upto : ℕ) (now : List ℕ) : Type 0 where
  pub count : length now ≡ length ranks
  pub done : (q : ℕ) → q < upto → slice_index now q ≡ even (slice_index ranks q)
  pub left : (q : ℕ) → upto ≤ q → slice_index now q ≡ slice_index ranks q
