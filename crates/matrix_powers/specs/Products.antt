-- Products of small matrices, and the powers that are made one after the other (own).
use Rattle.std.specs.Prelude.{◌≡◌, ℕ, ◌+◌, ◌^◌, ◌<◌, ◌≤◌, List, length, slice_index_or, Bool, true, false, ℤ, ◌*ℤ◌, unsigned_abs}
use Rattle.matrix_powers.specs.Matrices.{Square, entry, sum_below, power_entry}

-- no entry passes 2 ^ 40
pub record IsSmall (a : Square) : Type 0 where
  pub within : (row column : ℕ) → row < a.side → column < a.side → unsigned_abs (entry a row column) ≤ 2 ^ 40

-- the same of the k-th power
pub record IsSmallPower (a : Square) (k : ℕ) : Type 0 where
  pub within : (row column : ℕ) → row < a.side → column < a.side → unsigned_abs (power_entry a k row column) ≤ 2 ^ 40

-- the row of the left matrix times the column of the right one
abbrev pub product_entry : Square → Square → ℕ → ℕ → ℤ
product_entry a b row column = sum_below a.side (λ i. entry a row i *ℤ entry b i column)

-- the left matrix times the right one
pub record IsProduct (a b c : Square) : Type 0 where
  pub same_side : c.side ≡ a.side
  pub entries_are : (row column : ℕ) → row < a.side → column < a.side → entry c row column ≡ product_entry a b row column

-- two matrices have the same entries
pub record HaveSameEntries (a b : Square) : Type 0 where
  pub entries_are : (row column : ℕ) → row < a.side → column < a.side → entry a row column ≡ entry b row column

-- the k-th power
pub record IsPowerOf (a : Square) (k : ℕ) (m : Square) : Type 0 where
  pub same_side : m.side ≡ a.side
  pub entries_are : (row column : ℕ) → row < a.side → column < a.side → entry m row column ≡ power_entry a k row column

-- the powers from the 0-th on, all of them small
pub record ArePowers (a : Square) (ms : List Square) : Type 0 where
  pub some : 1 ≤ length ms
  pub base : IsSmall a
  pub each : (k : ℕ) (d : Square) → k < length ms → IsPowerOf a k (slice_index_or ms k d)
  pub small : (k : ℕ) (d : Square) → k < length ms → IsSmall (slice_index_or ms k d)

-- there is one power more, or it is not small
abbrev pub IsExtended : Square → List Square → List Square → Bool → Type 0
IsExtended a before after true = ArePowers a after × (length after ≡ length before + 1)
IsExtended a before after false = IsSmallPower a (length before) → ⊥

-- there are two powers more, or one of them is not small
abbrev pub IsExtendedTwice : Square → List Square → List Square → Bool → Type 0
IsExtendedTwice a before after true = ArePowers a after × (length after ≡ length before + 2)
IsExtendedTwice a before after false = IsSmallPower a (length before) → IsSmallPower a (length before + 1) → ⊥
