-- The rows of a table, one after the other.
use Rattle.std.specs.Prelude.{ℕ, zero, suc, ◌+◌, ◌≤◌, ◌≡◌, List, [], ◌∷◌, ◌++◌, take, drop}
use Rattle.lash_model.specs.Tables.{Table, IsTable, letters, ints, fracs}

-- a list cut into rows: the numbers of each row, how many rows, the list
abbrev pub rows_in : ℕ → ℕ → List ℕ → List (List ℕ)
rows_in width zero numbers = []
rows_in width (suc count) numbers = take width numbers ∷ rows_in width count (drop width numbers)

-- the rows of the integer states, and then those of the fraction states
abbrev pub rows_of : Table → List (List ℕ)
rows_of t = rows_in (letters t) (ints t) t.rows ++ rows_in (letters t) (fracs t) t.frac_rows

-- a table in range, of which so many rows were lent from a row of so many numbers
pub record IsLending (t : Table) (width lent : ℕ) : Type 0 where
  pub table : IsTable t
  pub width_is : width ≡ letters t
  pub upto : lent ≤ ints t + fracs t
