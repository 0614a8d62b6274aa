-- Paths: the number of a start and a word, and their order: shorter words first, then lower starts, then letters. It is the order
-- in which breadth-first search meets them.
use Rattle.std.specs.Prelude.{◌≡◌, ℕ, ◌<◌, ◌⊎◌, List, [], ◌∷◌, ◌++◌, length}
use Rattle.std.specs.List.{slice_index_or, AllPairs}

pub record Path : Type 0 where
  pub start : ℕ
  pub word : List ℕ

-- of two words of one length, the letters of the one come first
abbrev pub first : List ℕ → List ℕ → Type 0
first [] v = ⊥
first (a ∷ u) [] = ⊥
first (a ∷ u) (b ∷ v) = (a < b) ⊎ ((a ≡ b) × first u v)

-- the one path is less than the other
pub data Before (x y : Path) : Type 0 where
  shorter : length x.word < length y.word → Before x y
  lower : length x.word ≡ length y.word → x.start < y.start → Before x y
  earlier : length x.word ≡ length y.word → x.start ≡ y.start → first x.word y.word → Before x y

-- the one path is the other or less
abbrev pub AtMost : Path → Path → Type 0
AtMost x y = (x ≡ y) ⊎ Before x y

-- the path with one letter more
abbrev pub more : Path → ℕ → Path
more x a = record { start = x.start; word = x.word ++ a ∷ [] }

-- the path to a start
abbrev pub start_path : ℕ → Path
start_path j = record { start = j; word = [] }

-- the path at a place of a list
abbrev pub path_at : List Path → ℕ → Path
path_at ps i = slice_index_or ps i (start_path 0)

-- each is less than the later ones
abbrev pub IsRising : List Path → Type 0
IsRising ps = AllPairs Before ps
