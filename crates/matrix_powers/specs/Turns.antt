-- The sums of a shift's images, and what an orbit keeps (own).
use Rattle.std.specs.Prelude.{◌≡◌, ℕ, ◌+◌, ◌*◌, ◌^◌, ◌<◌, ◌≤◌, List, length, slice_index_or, ℤ, ◌+ℤ◌, ◌*ℤ◌, unsigned_abs}
use Rattle.matrix_powers.specs.Matrices.{Square, IsSquare, entry, sum_below}
use Rattle.matrix_powers.specs.Orbits.{IsShift, Route, at_row, shifted}
use Rattle.matrix_powers.specs.Powers.{IsPower, powers_limit}
use Rattle.matrix_powers.specs.Products.{ArePowers}

-- the row of a matrix times a vector
abbrev pub image_entry : Square → List ℤ → ℕ → ℤ
image_entry m ns row = sum_below m.side (λ i. entry m row i *ℤ at_row ns i)

-- each entry is at most so great
pub record IsWithin (bound : ℕ) (ns : List ℤ) : Type 0 where
  pub within : (row : ℕ) → row < length ns → unsigned_abs (at_row ns row) ≤ bound

-- a vector and the image of another
pub record IsNextSum (m : Square) (shift sum next : List ℤ) : Type 0 where
  pub same_length : length next ≡ length sum
  pub rows_are : (row : ℕ) → row < length sum → at_row next row ≡ at_row sum row +ℤ image_entry m shift row

-- b + A b + .. + A ^ (k - 1) b
pub record IsSumOf (a : Square) (shift : List ℤ) (k : ℕ) (ns : List ℤ) : Type 0 where
  pub whole : length ns ≡ a.side
  pub rows_are : (row : ℕ) → row < a.side → at_row ns row ≡ shifted a shift k row
  pub small : IsWithin (k * 2 ^ 82) ns

-- the sums from the 0-th on
pub record AreSums (a : Square) (shift : List ℤ) (sums : List (List ℤ)) : Type 0 where
  pub each : (k : ℕ) (d : List ℤ) → k < length sums → IsSumOf a shift k (slice_index_or sums k d)

-- a power with its conditions, with the powers up to twice it and the sums up to three times it
pub record IsOrbit (o : Route) (ms : List Square) (ns : List (List ℤ)) : Type 0 where
  pub square : IsSquare o.matrix
  pub some : 1 ≤ o.power
  pub few : o.power ≤ powers_limit
  pub comes_again : IsPower o.matrix o.power
  pub shift_is : IsShift o.matrix.side o.shift
  pub powers_are : ArePowers o.matrix ms
  pub powers_count : length ms ≡ o.power + o.power + 1
  pub sums_are : AreSums o.matrix o.shift ns
  pub sums_count : length ns ≡ o.power + o.power + o.power + 1

-- an exponent of at most 2 p with the same power
pub record IsReduced (p k exponent : ℕ) : Type 0 where
  pub near : k ≤ p + p → exponent ≡ k
  pub far : p + p < k → k ≡ exponent + p
