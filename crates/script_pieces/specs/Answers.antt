-- What the reader of pieces answers, and what each answer says of the bytes ahead. Own.
use Rattle.std.specs.Prelude.{ℕ, ◌≡◌, ◌<◌, ◌≤◌, false, List, length, Option, Some, IfSome}
use Rattle.std.specs.Io.KnownBytes.{prepend_known, IsAtEnd}
use Rattle.lash_io.specs.Faults.{IsFaultCounted}
use Rattle.script_pieces.specs.Cuts.{statement_length, piece_length}
use Rattle.script_pieces.specs.Limits.{IsWithin, IsRefused}
use Rattle.script_pieces.specs.Taking.{Progress, IsOpen}
use Rattle.script_pieces.specs.declared.answers.Ahead.{Ahead}
use Rattle.script_pieces.specs.declared.answers.Ahead.TheVariants.{Statement, Rest}
use Rattle.script_pieces.specs.declared.errors.PieceError.{PieceError}
use Rattle.script_pieces.specs.declared.errors.PieceError.TheVariants.{Read, StatementBytes, ScriptBytes}

-- the bytes held begin with a whole statement of so many bytes, within the limits
pub record IsStatement (p : Progress) (size : ℕ) : Type 0 where
  pub whole : statement_length false p.held ≡ Some size
  pub some : 0 < size
  pub inside : size ≤ length p.held
  pub within : IsWithin p.given size

-- the bytes held are all that is left, hold no whole statement, and keep within the limits
pub record IsRest (p : Progress) (left : Option (List ℕ)) : Type 0 where
  pub unended : IsOpen p
  pub ended : IsAtEnd left

-- what is ahead
abbrev pub IsAhead : Ahead → Progress → Option (List ℕ) → Type 0
IsAhead (Statement size) p left = IsStatement p size
IsAhead Rest p left = IsRest p left

-- a read failed, and the bytes held did not tell how their piece ends
pub record IsReadFault (p : Progress) (faults_before faults_after : ℕ) : Type 0 where
  pub counted : IsFaultCounted faults_before faults_after
  pub needed : IsOpen p

-- the piece ahead passes a limit: as far as its bytes are held, and, where the source tells its bytes, as it stands in the script
pub record IsTooLong (e : PieceError) (p : Progress) (left : Option (List ℕ)) : Type 0 where
  pub held : IsRefused e p.given (piece_length p.held)
  pub ahead : IfSome (prepend_known p.held left) (λ bytes. IsRefused e p.given (piece_length bytes))

-- the cause of each failure
abbrev pub IsFailure : PieceError → Progress → Option (List ℕ) → ℕ → ℕ → Type 0
IsFailure Read p left faults_before faults_after = IsReadFault p faults_before faults_after
IsFailure StatementBytes p left faults_before faults_after = IsTooLong StatementBytes p left
IsFailure ScriptBytes p left faults_before faults_after = IsTooLong ScriptBytes p left
