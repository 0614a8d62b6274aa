-- What a run answers, and what each answer says of the bytes that were there. Own.
use Rattle.std.specs.Prelude.{ℕ, ◌+◌, ◌<◌, ◌≤◌, ◌≡◌, ◌⊎◌, false, List, [], ◌∷◌, ◌++◌, length, map, Option, None, Some, Result, Ok, Err}
use Rattle.std.specs.List.{concat}
use Rattle.std.specs.Io.KnownBytes.{prepend_known}
use Rattle.lash_io.specs.Faults.{IsFaultCounted}
use Rattle.lash_io.specs.Sinks.{Holds, HoldsPart}
use Rattle.script_tokens.specs.Lexing.{tokens_of}
use Rattle.script_statements.specs.Statements.{StatementShape}
use Rattle.script_pieces.specs.Cuts.{statement_length}
use Rattle.script_pieces.specs.Limits.{script_bytes_limit, IsWithin as IsWithinBytes}
use Rattle.script_pieces.specs.Taking.{Progress}
use Rattle.script_pieces.specs.Answers.{IsRest}
use Rattle.script_names.specs.Kept.{KeptSet}
use Rattle.script_meaning.specs.declared.limits.Which.TheVariants.{KeptCells}
use Rattle.statement_meaning.specs.Asking as meaning
use Rattle.statement_meaning.specs.Asking.{Asked}
use Rattle.statement_meaning.specs.Judging.{statement_fault, IsStatementWithin}
use Rattle.statement_answers.specs.Keeping.{grown}
use Rattle.statement_answers.specs.Pieces.{IsPieceOf, IsRefusedAsked, IsTooMuch, IsPowerless, IsPassedByClosure}
use Rattle.statement_answers.specs.declared.settings.Settings.{Settings}
use Rattle.statement_answers.specs.declared.errors.Unanswered.{Unanswered}
use Rattle.statement_answers.specs.declared.errors.Unanswered.TheVariants as answering
use Rattle.script_parse.specs.Answers.{OfStatement, IsCause}
use Rattle.script_parse.specs.declared.errors.ScriptError.{ScriptError}
use Rattle.script_parse.specs.declared.errors.ScriptError.TheVariants as reading
use Rattle.lash_command.specs.Lines.{status_of, line_of, IsReported}
use Rattle.lash_command.specs.declared.status.Status.{Status}
use Rattle.lash_command.specs.declared.ending.Refusal.TheVariants.{Syntax, Name, Limit, NoPower, Heavy, NotWeak}
use Rattle.lash_command.specs.declared.ending.Ending.{Ending}
use Rattle.lash_command.specs.declared.ending.Ending.TheVariants.{Finished, Usage, Refused, ReadFault, WriteFault, NoMemory, Unbuilt}

-- the settings of a run: base 2, and 4,194,304 cells for one construction
abbrev pub default_settings : Settings
default_settings = record { base = 2; cells = 4194304 }

-- the text, behind so many bytes of the script, is a whole statement within the limits of bytes
pub record IsWhole (given : ℕ) (text : List ℕ) : Type 0 where
  pub whole : statement_length false text ≡ Some (length text)
  pub within : IsWithinBytes given (length text)

-- the names of the statement are right, it passes no limit, and this is what it asks
pub record IsAsking (settings : Settings) (kept : List KeptSet) (asked : Asked) (shape : StatementShape) : Type 0 where
  pub names : statement_fault kept shape ≡ None
  pub within : IsStatementWithin settings.base kept shape
  pub asks : meaning.asked kept shape ≡ Some asked

-- such a statement, where these sets are kept, and its piece
pub record IsAnswered (settings : Settings) (kept : List KeptSet) (given : ℕ) (text : List ℕ) (asked : Asked) (piece : List ℕ) : Type 0 where
  pub statement : IsWhole given text
  pub asking : OfStatement (tokens_of given text) (IsAsking settings kept asked)
  pub is : IsPieceOf settings kept asked piece

-- a statement that was answered: its text, what it asks, and its piece
pub record Answer : Type 0 where
  pub text : List ℕ
  pub asked : Asked
  pub piece : List ℕ

-- each statement has its piece, in their order; the sets that one keeps are there for those behind it
abbrev pub AreAnswered : Settings → List KeptSet → ℕ → List Answer → Type 0
AreAnswered settings kept given [] = Unit
AreAnswered settings kept given (x ∷ xs) = IsAnswered settings kept given x.text x.asked x.piece × AreAnswered settings (grown kept x.asked) (given + length x.text) xs

-- the sets that are kept behind the statements
abbrev pub kept_behind : List KeptSet → List Answer → List KeptSet
kept_behind kept [] = kept
kept_behind kept (x ∷ xs) = kept_behind (grown kept x.asked) xs

-- the bytes of the statements, and their pieces
abbrev pub texts_of : List Answer → List ℕ
texts_of xs = concat (map (λ x. x.text) xs)

abbrev pub pieces_of : List Answer → List ℕ
pieces_of xs = concat (map (λ x. x.piece) xs)

-- what the source has left and the first sink holds, where they tell their bytes, with their counts of faults
pub record Outside : Type 0 where
  pub left : Option (List ℕ)
  pub read_faults : ℕ
  pub held : Option (List ℕ)
  pub write_faults : ℕ

-- so many statements were taken, each was answered, and the sink has gained exactly their pieces; the bytes that were taken besides are held, and
-- all that were taken are one more than the limit of a script at the most
pub record HasCome (settings : Settings) (before now : Outside) (kept : List KeptSet) (progress : Progress) (answered : ℕ) : Type 0 where
  pub answers : List Answer
  pub count : length answers ≡ answered
  pub each : AreAnswered settings [] 0 answers
  pub keeps : kept ≡ kept_behind [] answers
  pub given : progress.given ≡ length (texts_of answers)
  pub taken : before.left ≡ prepend_known (texts_of answers ++ progress.held) now.left
  pub most : progress.given + length progress.held ≤ script_bytes_limit + 1
  pub gained : Holds before.held now.held (pieces_of answers)
  pub read_faults : before.read_faults ≤ now.read_faults
  pub write_faults : before.write_faults ≤ now.write_faults

-- what is so of the sets that are kept, and of the bytes that are held
abbrev pub Claim : Type 1
Claim = List KeptSet → Progress → Type 0

-- so many statements were answered, and this is so then
pub record Stops (settings : Settings) (before now : Outside) (answered : ℕ) (P : Claim) : Type 0 where
  pub kept : List KeptSet
  pub progress : Progress
  pub come : HasCome settings before now kept progress answered
  pub is : P kept progress

-- some number of statements was answered
abbrev pub StopsSomewhere : Settings → Outside → Outside → Claim → Type 0
StopsSomewhere settings before now P = (answered : ℕ) × Stops settings before now answered P

-- the statement of the number is the one that is refused
abbrev pub StopsAt : Settings → Outside → Outside → ℕ → Claim → Type 0
StopsAt settings before now number P = (answered : ℕ) × ((number ≡ answered + 1) × Stops settings before now answered P)

-- the script is at its end, and what is behind its last statement holds no token
pub record IsBlankRest (now : Outside) (kept : List KeptSet) (p : Progress) : Type 0 where
  pub rest : IsRest p now.left
  pub blank : tokens_of p.given p.held ≡ []

-- the next statement's names are right and it passes no limit, and this is so of what it asks
pub record IsNextAsked (settings : Settings) (P : List KeptSet → Asked → Type 0) (kept : List KeptSet) (p : Progress) : Type 0 where
  pub text : List ℕ
  pub behind : List ℕ
  pub held : p.held ≡ text ++ behind
  pub statement : IsWhole p.given text
  pub asked : Asked
  pub asking : OfStatement (tokens_of p.given text) (IsAsking settings kept asked)
  pub is : P kept asked

-- a part of the next statement's piece was written
pub record IsPartWritten (settings : Settings) (between after : Option (List ℕ)) (kept : List KeptSet) (p : Progress) : Type 0 where
  pub text : List ℕ
  pub behind : List ℕ
  pub asked : Asked
  pub piece : List ℕ
  pub held : p.held ≡ text ++ behind
  pub answer : IsAnswered settings kept p.given text asked piece
  pub part : HoldsPart between after piece

-- a fault of the sink was counted, and all pieces before this one were written
pub record IsCutShort (settings : Settings) (before now : Outside) : Type 0 where
  pub counted : IsFaultCounted before.write_faults now.write_faults
  pub between : Option (List ℕ)
  pub stops : StopsSomewhere settings before (record now { held = between }) (IsPartWritten settings between now.held)

-- the reader of the script has this cause for its error
abbrev pub IsUnread : Settings → Outside → Outside → ScriptError → List KeptSet → Progress → Type 0
IsUnread settings before now e kept p = IsCause settings.base kept p now.left before.read_faults now.read_faults e

-- how a run ends that has taken the script; of want of memory nothing is said besides
abbrev pub Ends : Settings → Ending → Outside → Outside → Type 0
Ends settings Finished before now = StopsSomewhere settings before now (IsBlankRest now)
Ends settings Usage before now = ⊥
Ends settings (Refused number (Syntax place)) before now = StopsAt settings before now number (IsUnread settings before now (reading.Syntax place))
Ends settings (Refused number (Name fault place)) before now = StopsAt settings before now number (IsUnread settings before now (reading.Name fault place))
Ends settings (Refused number (Limit which)) before now = StopsAt settings before now number (IsUnread settings before now (reading.Limit which)) ⊎ ((which ≡ KeptCells) × StopsAt settings before now number (IsNextAsked settings (IsTooMuch settings))) ⊎ StopsAt settings before now number (IsNextAsked settings (IsPassedByClosure settings which))
Ends settings (Refused number NoPower) before now = StopsAt settings before now number (IsNextAsked settings IsPowerless)
Ends settings (Refused number Heavy) before now = StopsAt settings before now number (IsNextAsked settings (λ kept asked. IsRefusedAsked settings kept asked answering.Heavy))
Ends settings (Refused number (NotWeak sign whole stem accept reject)) before now = StopsAt settings before now number (IsNextAsked settings (λ kept asked. IsRefusedAsked settings kept asked (answering.NotWeak sign whole stem accept reject)))
Ends settings ReadFault before now = StopsSomewhere settings before now (IsUnread settings before now reading.Read)
Ends settings WriteFault before now = IsCutShort settings before now
Ends settings NoMemory before now = StopsSomewhere settings before now (λ _ _. Unit)
Ends settings Unbuilt before now = ⊥

-- where there are words nothing is taken
abbrev pub Explains : Settings → Ending → ℕ → Outside → Outside → Type 0
Explains settings e words before now = ((0 < words) × ((e ≡ Unbuilt) × (now ≡ before))) ⊎ ((words ≡ 0) × Ends settings e before now)

-- the status is that of an ending that comes so, and its line was reported
pub record Answers (settings : Settings) (status : Status) (words : ℕ) (before now : Outside) (err_before err_now : Option (List ℕ)) (err_faults_before err_faults_now : ℕ) : Type 0 where
  pub ending : Ending
  pub status_is : status ≡ status_of ending
  pub explained : Explains settings ending words before now
  pub reported : IsReported (line_of ending) err_before err_now err_faults_before err_faults_now

-- one statement more was answered, or the run ends
abbrev pub Turns : Settings → Outside → Outside → List KeptSet → Progress → ℕ → {U : Type 0} → Result U Ending → Type 0
Turns settings before now kept progress answered (Ok u) = HasCome settings before now kept progress (answered + 1)
Turns settings before now kept progress answered (Err e) = Ends settings e before now

-- how the run ends where the reader of the script gives no statement of the number
abbrev pub unread_ending : ℕ → ScriptError → Ending
unread_ending number reading.Read = ReadFault
unread_ending number (reading.Limit which) = Refused number (Limit which)
unread_ending number (reading.Syntax place) = Refused number (Syntax place)
unread_ending number (reading.Name fault place) = Refused number (Name fault place)
unread_ending number reading.Memory = NoMemory

-- how it ends where the statement of the number is not answered
abbrev pub unanswered_ending : ℕ → Unanswered → Ending
unanswered_ending number answering.Heavy = Refused number Heavy
unanswered_ending number (answering.NotWeak sign whole stem accept reject) = Refused number (NotWeak sign whole stem accept reject)
unanswered_ending number answering.NoPower = Refused number NoPower
unanswered_ending number (answering.Closure which) = Refused number (Limit which)
unanswered_ending number answering.KeptCells = Refused number (Limit KeptCells)
unanswered_ending number answering.Fault = WriteFault
unanswered_ending number answering.Memory = NoMemory
