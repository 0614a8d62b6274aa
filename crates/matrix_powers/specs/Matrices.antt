-- Square matrices of integers and their powers (the usual definitions).
use Rattle.std.specs.Prelude.{◌≡◌, ℕ, zero, suc, ◌+◌, ◌*◌, ◌≤◌, nat_eq, Bool, true, false, List, length, slice_index_or, ℤ, pos, ◌+ℤ◌, ◌*ℤ◌}

-- the entries of the rows, row by row
pub record Square : Type 0 where
  pub side : ℕ
  pub entries : List ℤ

-- there is a row, there are at most four, and each has as many entries
pub record IsSquare (a : Square) : Type 0 where
  pub some : 1 ≤ a.side
  pub few : a.side ≤ 4
  pub whole : length a.entries ≡ a.side * a.side

-- the entry of a row at a column
abbrev pub entry : Square → ℕ → ℕ → ℤ
entry a row column = slice_index_or a.entries (row * a.side + column) (pos 0)

-- f 0 + f 1 + .. + f (n - 1)
unfoldable pub sum_below : ℕ → (ℕ → ℤ) → ℤ
sum_below zero f = pos 0
sum_below (suc n) f = sum_below n f +ℤ f n

-- 1 if it holds, else 0
abbrev pub one_where : Bool → ℤ
one_where true = pos 1
one_where false = pos 0

-- the entry of a row of the k-th power at a column
unfoldable pub power_entry : Square → ℕ → ℕ → ℕ → ℤ
power_entry a zero row column = one_where (nat_eq row column)
power_entry a (suc k) row column = sum_below a.side (λ i. entry a row i *ℤ power_entry a k i column)
