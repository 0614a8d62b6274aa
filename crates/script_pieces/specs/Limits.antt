-- How many bytes a statement and a script may have, and which of the two limits a piece of a script passes first. Own.
use Rattle.std.specs.Prelude.{ℕ, ◌+◌, ◌<◌, ◌≤◌}
use Rattle.script_pieces.specs.declared.errors.PieceError.{PieceError}
use Rattle.script_pieces.specs.declared.errors.PieceError.TheVariants.{Read, StatementBytes, ScriptBytes}

abbrev pub statement_bytes_limit : ℕ
statement_bytes_limit = 65536

abbrev pub script_bytes_limit : ℕ
script_bytes_limit = 16777216

-- a piece of so many bytes, behind so many bytes of the script, keeps within both limits
pub record IsWithin (given size : ℕ) : Type 0 where
  pub statement : size ≤ statement_bytes_limit
  pub script : given + size ≤ script_bytes_limit

-- the piece has a first byte past the limit of a statement, and it comes no later than the first byte past the limit of the script
pub record IsLongStatement (given size : ℕ) : Type 0 where
  pub reached : statement_bytes_limit + 1 ≤ size
  pub first : given + (statement_bytes_limit + 1) ≤ script_bytes_limit + 1

-- the piece reaches the first byte past the limit of the script, and the first past the limit of a statement would come later
pub record IsLongScript (given size : ℕ) : Type 0 where
  pub reached : script_bytes_limit + 1 ≤ given + size
  pub first : script_bytes_limit + 1 < given + (statement_bytes_limit + 1)

-- the refusal of a piece for its length
abbrev pub IsRefused : PieceError → ℕ → ℕ → Type 0
IsRefused StatementBytes given size = IsLongStatement given size
IsRefused ScriptBytes given size = IsLongScript given size
IsRefused Read given size = ⊥
