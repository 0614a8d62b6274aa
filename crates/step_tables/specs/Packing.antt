-- Tables in the least cells, and how many words they take.
use Rattle.std.specs.Prelude.{ℕ, ◌+◌, ◌*◌, ◌^◌, ◌≡◌, ◌≤◌, List, length}
use Rattle.packed_cells.specs.Cells.{IsLeastBits}
use Rattle.step_tables.specs.Kept.{Kept}

-- a bound is that of the least bits for a list
pub record IsLeastBound (items : List ℕ) (bound : ℕ) : Type 0 where
  pub bits : ℕ
  pub is : bound ≡ 2 ^ bits
  pub least : IsLeastBits items bits

-- each list of a table stands in cells of the least bits
pub record IsTight (k : Kept) : Type 0 where
  pub roots : IsLeastBound k.table.roots k.bounds.roots
  pub rows : IsLeastBound k.table.rows k.bounds.rows
  pub outs : IsLeastBound k.table.outs k.bounds.outs
  pub frac_rows : IsLeastBound k.table.frac_rows k.bounds.frac_rows
  pub colours : IsLeastBound k.table.colours k.bounds.colours

-- the least number of words of 64 bits that hold a list in cells of a bound
pub record LeastWords (items : List ℕ) (bound : ℕ) : Type 0 where
  pub bits : ℕ
  pub is : bound ≡ 2 ^ bits
  pub words : ℕ
  pub enough : length items * bits ≤ words * 64
  pub least : (fewer : ℕ) → length items * bits ≤ fewer * 64 → words ≤ fewer

-- the words of a table's five lists together
pub record IsWordSum (k : Kept) (sum : ℕ) : Type 0 where
  pub roots : LeastWords k.table.roots k.bounds.roots
  pub rows : LeastWords k.table.rows k.bounds.rows
  pub outs : LeastWords k.table.outs k.bounds.outs
  pub frac_rows : LeastWords k.table.frac_rows k.bounds.frac_rows
  pub colours : LeastWords k.table.colours k.bounds.colours
  pub together : sum ≡ roots.words + rows.words + outs.words + frac_rows.words + colours.words
