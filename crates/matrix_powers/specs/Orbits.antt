-- Where iterations of an affine map lead. After k iterations x ↦ A x + b the vector is A ^ k x + (b + A b + .. + A ^ (k - 1) b).
use Rattle.std.specs.Prelude.{ℕ, ◌+◌, ◌≤◌, ◌^◌, ◌≡◌, List, All, length, slice_index_or, ℤ, pos, ◌-ℤ◌, ◌*ℤ◌, unsigned_abs}
use Rattle.matrix_powers.specs.Matrices.{Square, power_entry, sum_below}

-- the entry of a vector at a row
abbrev pub at_row : List ℤ → ℕ → ℤ
at_row ns row = slice_index_or ns row (pos 0)

-- the row of A ^ k b
abbrev pub carried : Square → List ℤ → ℕ → ℕ → ℤ
carried a shift k row = sum_below a.side (λ i. power_entry a k row i *ℤ at_row shift i)

-- the row of b + A b + .. + A ^ (k - 1) b
abbrev pub shifted : Square → List ℤ → ℕ → ℕ → ℤ
shifted a shift k row = sum_below k (λ i. carried a shift i row)

-- how far p more iterations lead at the row, if p + j iterations or more were made, j of them beyond a multiple of p
abbrev pub stride : Square → List ℤ → ℕ → ℕ → ℕ → ℤ
stride a shift p j row = shifted a shift (p + p + j) row -ℤ shifted a shift (p + j) row

-- a matrix, a shift, and a power of the matrix
pub record Route : Type 0 where
  pub matrix : Square
  pub shift : List ℤ
  pub power : ℕ

-- the shift has an entry for each row, of at most 2 ^ 40 in magnitude
pub record IsShift (side : ℕ) (shift : List ℤ) : Type 0 where
  pub whole : length shift ≡ side
  pub small : All (λ b. unsigned_abs b ≤ 2 ^ 40) shift
