-- Scripts that are answered to their end, and endings that the bytes alone decide. Own.
use Rattle.std.specs.Prelude.{ℕ, ◌+◌, ◌≡◌, Bool, true, false, List, [], ◌∷◌, ◌++◌, length, map, None, Some}
use Rattle.lash_io.specs.Sinks.{Holds}
use Rattle.script_tokens.specs.Lexing.{tokens_of}
use Rattle.script_pieces.specs.Cuts.{statement_length}
use Rattle.script_pieces.specs.Limits.{IsWithin as IsWithinBytes}
use Rattle.script_names.specs.Kept.{KeptSet}
use Rattle.statement_meaning.specs.Asking.{Asked}
use Rattle.statement_answers.specs.Keeping.{grown}
use Rattle.statement_answers.specs.Pieces.{IsAnswerable}
use Rattle.statement_answers.specs.declared.settings.Settings.{Settings}
use Rattle.script_parse.specs.Answers.{OfStatement}
use Rattle.lash_command.specs.Answers.{IsWhole, IsAsking, Answer, AreAnswered, pieces_of, Outside}
use Rattle.lash_command.specs.declared.ending.Ending.{Ending}
use Rattle.lash_command.specs.declared.ending.Ending.TheVariants.{Finished, Usage, Refused, ReadFault, WriteFault, NoMemory, Unbuilt}

-- an ending that is not for want of memory and not for a fault
abbrev pub is_decided : Ending → Bool
is_decided Finished = true
is_decided Usage = true
is_decided (Refused number refusal) = true
is_decided ReadFault = false
is_decided WriteFault = false
is_decided NoMemory = false
is_decided Unbuilt = true

-- a statement of a script: its bytes, and what it asks
pub record Written : Type 0 where
  pub text : List ℕ
  pub asked : Asked

abbrev pub written_of : Answer → Written
written_of x = record { text = x.text; asked = x.asked }

-- the bytes of statements
abbrev pub written_texts : List Written → List ℕ
written_texts [] = []
written_texts (x ∷ xs) = x.text ++ written_texts xs

-- whole and within the limits of bytes; spelled by its tokens, its names right, and no limit passed; and what it asks can be answered
pub record IsGood (settings : Settings) (kept : List KeptSet) (given : ℕ) (x : Written) : Type 0 where
  pub statement : IsWhole given x.text
  pub asking : OfStatement (tokens_of given x.text) (IsAsking settings kept x.asked)
  pub answerable : IsAnswerable settings kept x.asked

-- each statement is good, where the sets are kept that those before it keep
abbrev pub AreGood : Settings → List KeptSet → ℕ → List Written → Type 0
AreGood settings kept given [] = Unit
AreGood settings kept given (x ∷ xs) = IsGood settings kept given x × AreGood settings (grown kept x.asked) (given + length x.text) xs

-- the bytes behind the last statement hold no token, and keep within the limits of bytes
pub record IsBlank (given : ℕ) (rest : List ℕ) : Type 0 where
  pub unended : statement_length false rest ≡ None
  pub within : IsWithinBytes given (length rest)
  pub blank : tokens_of given rest ≡ []

-- the bytes are these good statements and then a blank rest
pub record IsGoodScript (settings : Settings) (bytes : List ℕ) (xs : List Written) : Type 0 where
  pub each : AreGood settings [] 0 xs
  pub rest : List ℕ
  pub joined : bytes ≡ written_texts xs ++ rest
  pub ends : IsBlank (length (written_texts xs)) rest

-- each statement has its piece, the source is at its end, and the sink has gained exactly the pieces
pub record AreAllAnswered (settings : Settings) (before now : Outside) (xs : List Written) : Type 0 where
  pub answers : List Answer
  pub each : AreAnswered settings [] 0 answers
  pub same : map written_of answers ≡ xs
  pub ended : now.left ≡ Some []
  pub gained : Holds before.held now.held (pieces_of answers)
