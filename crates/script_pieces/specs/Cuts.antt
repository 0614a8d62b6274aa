-- How the bytes of a script are cut into statements, at each `;` (59) outside comments. A comment runs from `#` (35) to the next LF
-- (10) or to the end, and may hold any bytes. Own.
use Rattle.std.specs.Prelude.{ℕ, zero, suc, ◌≡◌, ◌+◌, ◌==◌, Bool, true, false, not, ◌&&◌, if◌then◌else◌, List, [], ◌∷◌, ◌++◌, length, take, drop, Option, Some, None, unwrap_or}
use Rattle.std.specs.Option.{option_map}
use Rattle.std.specs.List.{concat, AllByRecursion}

-- whether a comment goes on behind a byte that stands in a comment, or does not
abbrev pub commented : Bool → ℕ → Bool
commented true b = not (b == 10)
commented false b = b == 35

-- how many bytes the first statement has, up to and with the first `;` outside comments, where there is one; the bytes begin in a
-- comment, or do not
abbrev pub statement_length : Bool → List ℕ → Option ℕ
statement_length in_comment [] = None
statement_length in_comment (b ∷ bs) = if not in_comment && (b == 59) then Some 1 else option_map (λ n. n + 1) (statement_length (commented in_comment b) bs)

-- how many bytes the first piece has: the first statement, or all the bytes where they hold no whole one
abbrev pub piece_length : List ℕ → ℕ
piece_length bytes = unwrap_or (statement_length false bytes) (length bytes)

-- whole statements, and the bytes that follow the last one
pub record Cut : Type 0 where
  pub statements : List (List ℕ)
  pub rest : List ℕ

-- a first statement of n bytes, where there is one, before the cut of what follows it
abbrev pub cut_behind : (List ℕ → Cut) → Option ℕ → List ℕ → Cut
cut_behind go None bytes = record { statements = []; rest = bytes }
cut_behind go (Some n) bytes = record { statements = take n bytes ∷ (go (drop n bytes)).statements; rest = (go (drop n bytes)).rest }

-- at most so many statements
abbrev pub cut_at_most : ℕ → List ℕ → Cut
cut_at_most zero bytes = record { statements = []; rest = bytes }
cut_at_most (suc k) bytes = cut_behind (cut_at_most k) (statement_length false bytes) bytes

-- all the whole statements of the bytes, in order, and the rest, which holds none
abbrev pub cut : List ℕ → Cut
cut bytes = cut_at_most (length bytes) bytes

-- the bytes are these statements, one behind another and each whole, and then the rest, which holds no whole one
pub record IsCut (bytes : List ℕ) (c : Cut) : Type 0 where
  pub joined : bytes ≡ concat c.statements ++ c.rest
  pub whole : AllByRecursion (λ s. statement_length false s ≡ Some (length s)) c.statements
  pub unended : statement_length false c.rest ≡ None
