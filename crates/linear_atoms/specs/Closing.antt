-- What the search for an atom's thresholds keeps true.
use Rattle.std.specs.Prelude.{ℕ, ◌+◌, ◌*◌, ◌^◌, ◌<◌, ◌≤◌, ◌≡◌, List, [], ◌∷◌, ◌++◌, length, All, ℤ, pos, unsigned_abs}
use Rattle.std.specs.List.{AllPairs, slice_index_or}
use Rattle.threshold_laws.specs.Thresholds.{lowered_by, Among, IsThreshold}

-- the entry of a list of integers
abbrev pub entry : List ℤ → ℕ → ℤ
entry xs i = slice_index_or xs i (pos 0)

-- thresholds stay in this window, whatever the letters: a seed is at most a constant, the coefficients of an atom and 1 away from 0
abbrev pub IsSmall : ℤ → Type 0
IsSmall z = unsigned_abs z ≤ 2 ^ 40 + 2 ^ 24 + 1

-- the totals of letters are in this window
abbrev pub IsSmallTotal : ℕ → ℤ → Type 0
IsSmallTotal base z = unsigned_abs z + 2 ^ 24 ≤ base * 2 ^ 24

abbrev pub IsDistinct : List ℤ → Type 0
IsDistinct xs = AllPairs (λ x y. x ≡ y → ⊥) xs

-- a bound goes last if it is new
pub data Met (before : List ℤ) (bound : ℤ) (after : List ℤ) : Type 0 where
  known : Among bound before → after ≡ before → Met before bound after
  added : (Among bound before → ⊥) → after ≡ before ++ bound ∷ [] → Met before bound after

-- the found bounds are small thresholds, each once
pub record AreFound (base : ℕ) (totals seeds found : List ℤ) : Type 0 where
  pub small : All IsSmall found
  pub distinct : IsDistinct found
  pub sound : All (IsThreshold base (length totals) (entry totals) seeds) found

-- the first seeds have been met
pub record IsStarting (base : ℕ) (totals seeds found : List ℤ) (count : ℕ) : Type 0 where
  pub found_so_far : AreFound base totals seeds found
  pub given : (i : ℕ) → i < count → Among (entry seeds i) found

-- the found bounds before `at` have been lowered by all letters, and the one there by some
pub record IsClosing (base : ℕ) (totals seeds found : List ℤ) (at letter : ℕ) : Type 0 where
  pub found_so_far : AreFound base totals seeds found
  pub given : (i : ℕ) → i < length seeds → Among (entry seeds i) found
  pub upto : at ≤ length found
  pub followed : (i l : ℕ) → i < at → l < length totals → Among (lowered_by base (entry totals l) (entry found i)) found
  pub following : (l : ℕ) → l < letter → at < length found → Among (lowered_by base (entry totals l) (entry found at)) found

-- there are more thresholds than there is room for
pub record IsOverfull (base : ℕ) (totals seeds : List ℤ) (room : ℕ) : Type 0 where
  pub found : List ℤ
  pub distinct : IsDistinct found
  pub sound : All (IsThreshold base (length totals) (entry totals) seeds) found
  pub over : room < length found
