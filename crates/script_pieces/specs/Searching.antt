-- How far a search for the end of a statement has come. Own.
use Rattle.std.specs.Prelude.{ℕ, ◌≡◌, ◌+◌, ◌≤◌, Bool, false, List, ◌++◌, length, take}
use Rattle.std.specs.Option.{option_map}
use Rattle.script_pieces.specs.Cuts.{statement_length}
use Rattle.script_pieces.specs.Limits.{script_bytes_limit}

-- the bytes hold no `;` outside comments; behind them the bytes stand in a comment, or do not
pub record Passes (in_comment : Bool) (bytes : List ℕ) (in_comment_behind : Bool) : Type 0 where
  pub passed : (more : List ℕ) → statement_length in_comment (bytes ++ more) ≡ option_map (λ n. length bytes + n) (statement_length in_comment_behind more)

-- the first so many bytes held were searched
pub record IsSearched (held : List ℕ) (scanned : ℕ) (in_comment : Bool) : Type 0 where
  pub within : scanned ≤ length held
  pub passes : Passes false (take scanned held) in_comment

-- what a reader of pieces keeps: the bytes that it took pass the limit of a script by one at most
pub record IsKept (given : ℕ) (held : List ℕ) (scanned : ℕ) (in_comment : Bool) : Type 0 where
  pub searched : IsSearched held scanned in_comment
  pub taken : given + length held ≤ script_bytes_limit + 1
