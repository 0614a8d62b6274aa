-- What the reader of statements answers, and what each answer says of the bytes ahead.
use Rattle.std.specs.Prelude.{ℕ, zero, suc, ◌≡◌, ◌+◌, Bool, true, false, List, [], ◌∷◌, ◌++◌, length, take, drop, Option, ◌⊎◌, None, Some, Result, Ok, Err, IfSome}
use Rattle.std.specs.Io.KnownBytes.{prepend_known}
use Rattle.parser_laws.specs.Places.{IsRead, IsSyntaxAt, IsNestingAt}
use Rattle.script_tokens.specs.Tokens.{PlacedToken}
use Rattle.script_tokens.specs.Lexing.{tokens_of}
use Rattle.script_grammar.specs.Statements.{whole_statement, Statement}
use Rattle.script_statements.specs.Statements.{StatementShape, statement_shape}
use Rattle.script_pieces.specs.Cuts.{statement_length, piece_length}
use Rattle.script_pieces.specs.Limits.{IsWithin as IsWithinBytes}
use Rattle.script_pieces.specs.Taking.{Progress, Takes, IsNeeded}
use Rattle.script_pieces.specs.Answers.{IsRest, IsReadFault, IsTooLong}
use Rattle.script_pieces.specs.declared.errors.PieceError.{PieceError}
use Rattle.script_pieces.specs.declared.errors.PieceError.TheVariants.{Read as FaultyRead, StatementBytes as LongStatement, ScriptBytes as LongScript}
use Rattle.script_names.specs.Kept.{KeptSet}
use Rattle.statement_meaning.specs.Judging.{IsJudged, IsLimited, statement_fault}
use Rattle.statement_meaning.specs.declared.statement.Statement.{Statement as DeclaredStatement}
use Rattle.script_meaning.specs.declared.limits.Which.{Which}
use Rattle.script_meaning.specs.declared.limits.Which.TheVariants.{StatementBytes, ScriptBytes, Nesting}
use Rattle.script_parse.specs.declared.errors.ScriptError.{ScriptError}
use Rattle.script_parse.specs.declared.errors.ScriptError.TheVariants.{Read, Limit, Syntax, Name, Memory}

-- the place of a token, or of the end behind the last
abbrev pub place_at : ℕ → List PlacedToken → ℕ → ℕ
place_at end [] k = end
place_at end (t ∷ ts) zero = t.place
place_at end (t ∷ ts) (suc k) = place_at end ts k

-- the tokens spell the statement
pub record Spells (ts : List PlacedToken) (shape : StatementShape) : Type 0 where
  pub tree : Statement
  pub read : IsRead whole_statement ts tree
  pub is : statement_shape tree ≡ shape

-- of the statement that the tokens spell
pub record OfStatement (ts : List PlacedToken) (P : StatementShape → Type 0) : Type 0 where
  pub shape : StatementShape
  pub spells : Spells ts shape
  pub is : P shape

-- why a statement is refused, as the reader tells it; of want of memory nothing is said
abbrev pub IsStatementCause : ℕ → List KeptSet → StatementShape → ScriptError → Type 0
IsStatementCause base kept shape Read = ⊥
IsStatementCause base kept shape (Limit which) = IsLimited base kept shape which
IsStatementCause base kept shape (Syntax place) = ⊥
IsStatementCause base kept shape (Name fault place) = statement_fault kept shape ≡ Some (record { fault = fault; place = place })
IsStatementCause base kept shape Memory = Unit

-- what the statement asks, or its refusal
abbrev pub AnswersStatement : ℕ → List KeptSet → StatementShape → Result DeclaredStatement ScriptError → Type 0
AnswersStatement base kept shape (Ok s) = IsJudged base kept shape s
AnswersStatement base kept shape (Err e) = IsStatementCause base kept shape e

-- a token, or the end, is the first with which no statement goes on
pub record IsWrong (end : ℕ) (ts : List PlacedToken) (place : ℕ) : Type 0 where
  pub at : ℕ
  pub wrong : IsSyntaxAt whole_statement ts at
  pub is : place ≡ place_at end ts at

-- a token opens the first group that is one too many
pub record IsDeep (ts : List PlacedToken) : Type 0 where
  pub at : ℕ
  pub deep : IsNestingAt whole_statement ts at

-- a limit of what the tokens say, where these sets are kept: the nesting, or one of their statement
abbrev pub IsPassed : ℕ → List KeptSet → List PlacedToken → Which → Type 0
IsPassed base kept ts which = ((which ≡ Nesting) × IsDeep ts) ⊎ OfStatement ts (λ shape. IsLimited base kept shape which)

-- why tokens are refused; of want of memory nothing is said
abbrev pub AreRefused : ℕ → List KeptSet → ℕ → List PlacedToken → ScriptError → Type 0
AreRefused base kept end ts Read = ⊥
AreRefused base kept end ts (Limit which) = IsPassed base kept ts which
AreRefused base kept end ts (Syntax place) = IsWrong end ts place
AreRefused base kept end ts (Name fault place) = OfStatement ts (λ shape. statement_fault kept shape ≡ Some (record { fault = fault; place = place }))
AreRefused base kept end ts Memory = Unit

-- the statement that the tokens spell, or the refusal; the tokens end at a place
abbrev pub AnswersTokens : ℕ → List KeptSet → ℕ → List PlacedToken → Result DeclaredStatement ScriptError → Type 0
AnswersTokens base kept end ts (Ok s) = OfStatement ts (λ shape. IsJudged base kept shape s)
AnswersTokens base kept end ts (Err e) = AreRefused base kept end ts e

-- a rest without a whole statement is well where it has no token; then it is refused for want of memory alone
abbrev pub AnswersRest : {U : Type 0} → ℕ → List KeptSet → ℕ → List ℕ → Result U ScriptError → Type 0
AnswersRest base kept given piece (Ok u) = tokens_of given piece ≡ []
AnswersRest base kept given piece (Err e) = (tokens_of given piece ≡ [] → e ≡ Memory) × AreRefused base kept (given + length piece) (tokens_of given piece) e

-- a reader of statements: its base, how far it has come in the script, and whether it may go on
pub record State : Type 0 where
  pub base : ℕ
  pub progress : Progress
  pub live : Bool

-- the first piece of the bytes ahead, as they are held, and, where the source tells its bytes, as they stand in the script
pub record IsPiece (p : Progress) (left : Option (List ℕ)) (piece : List ℕ) : Type 0 where
  pub held : piece ≡ take (piece_length p.held) p.held
  pub ahead : IfSome (prepend_known p.held left) (λ bytes. piece ≡ take (piece_length bytes) bytes)

-- the first whole statement of the bytes ahead was given, and those behind it are still ahead; the last bytes were taken behind such as
-- did not tell how their piece ends
pub record IsNext (base : ℕ) (kept : List KeptSet) (before after : Progress) (left_before left_after : Option (List ℕ)) (s : DeclaredStatement) : Type 0 where
  pub text : List ℕ
  pub taken : Takes before (record { given = before.given; held = text ++ after.held }) left_before left_after
  pub given : after.given ≡ before.given + length text
  pub needed : IsNeeded before (record { given = before.given; held = text ++ after.held })
  pub whole : statement_length false text ≡ Some (length text)
  pub within : IsWithinBytes before.given (length text)
  pub asks : OfStatement (tokens_of before.given text) (λ shape. IsJudged base kept shape s)

-- the source is at its end, and the bytes ahead hold no whole statement and no token, and keep within the limits
pub record IsFinished (before after : Progress) (left_before left_after : Option (List ℕ)) : Type 0 where
  pub taken : Takes before after left_before left_after
  pub needed : IsNeeded before after
  pub rest : IsRest after left_after
  pub blank : tokens_of after.given after.held ≡ []

-- the first piece of the bytes ahead keeps within the limits of bytes, has a token, and is refused
pub record IsFirstRefused (base : ℕ) (kept : List KeptSet) (p : Progress) (left : Option (List ℕ)) (e : ScriptError) : Type 0 where
  pub piece : List ℕ
  pub first : IsPiece p left piece
  pub within : IsWithinBytes p.given (length piece)
  pub some : tokens_of p.given piece ≡ [] → ⊥
  pub refused : AreRefused base kept (p.given + length piece) (tokens_of p.given piece) e

-- the cause of each refusal; a limit is one of bytes or one of what the piece says
abbrev pub IsCause : ℕ → List KeptSet → Progress → Option (List ℕ) → ℕ → ℕ → ScriptError → Type 0
IsCause base kept p left faults_before faults_after Read = IsReadFault p faults_before faults_after
IsCause base kept p left faults_before faults_after (Limit which) = ((which ≡ StatementBytes) × IsTooLong LongStatement p left) ⊎ ((which ≡ ScriptBytes) × IsTooLong LongScript p left) ⊎ IsFirstRefused base kept p left (Limit which)
IsCause base kept p left faults_before faults_after (Syntax place) = IsFirstRefused base kept p left (Syntax place)
IsCause base kept p left faults_before faults_after (Name fault place) = IsFirstRefused base kept p left (Name fault place)
IsCause base kept p left faults_before faults_after Memory = Unit

-- nothing was given, and the last bytes were taken behind such as did not tell how their piece ends
pub record IsStopped (base : ℕ) (kept : List KeptSet) (before after : Progress) (left_before left_after : Option (List ℕ)) (faults_before faults_after : ℕ) (e : ScriptError) : Type 0 where
  pub taken : Takes before after left_before left_after
  pub needed : IsNeeded before after
  pub cause : IsCause base kept after left_after faults_before faults_after e

abbrev pub Says : ℕ → List KeptSet → Progress → Progress → Option (List ℕ) → Option (List ℕ) → ℕ → ℕ → Result (Option DeclaredStatement) ScriptError → Type 0
Says base kept before after left_before left_after faults_before faults_after (Ok None) = IsFinished before after left_before left_after
Says base kept before after left_before left_after faults_before faults_after (Ok (Some s)) = IsNext base kept before after left_before left_after s
Says base kept before after left_before left_after faults_before faults_after (Err e) = IsStopped base kept before after left_before left_after faults_before faults_after e

-- only a statement leaves the reader live
abbrev pub goes_on : Result (Option DeclaredStatement) ScriptError → Bool
goes_on (Ok None) = false
goes_on (Ok (Some s)) = true
goes_on (Err e) = false

-- the error of a piece that was not fetched
abbrev pub error_of : PieceError → ScriptError
error_of FaultyRead = Read
error_of LongStatement = Limit StatementBytes
error_of LongScript = Limit ScriptBytes

-- the statement that is held was given, or the reader stays
abbrev pub GivesStatement : List KeptSet → State → ℕ → State → Result (Option DeclaredStatement) ScriptError → Type 0
GivesStatement kept before size after (Ok None) = ⊥
GivesStatement kept before size after (Ok (Some s)) = (after ≡ record { base = before.base; progress = record { given = before.progress.given + size; held = drop size before.progress.held }; live = true }) × OfStatement (tokens_of before.progress.given (take size before.progress.held)) (λ shape. IsJudged before.base kept shape s)
GivesStatement kept before size after (Err e) = (after ≡ before) × AreRefused before.base kept (before.progress.given + length (take size before.progress.held)) (tokens_of before.progress.given (take size before.progress.held)) e

-- there is no token in what is held, or it is refused; without a token for want of memory alone
abbrev pub EndsRest : List KeptSet → State → Result (Option DeclaredStatement) ScriptError → Type 0
EndsRest kept s (Ok None) = tokens_of s.progress.given s.progress.held ≡ []
EndsRest kept s (Ok (Some t)) = ⊥
EndsRest kept s (Err e) = (tokens_of s.progress.given s.progress.held ≡ [] → e ≡ Memory) × AreRefused s.base kept (s.progress.given + length s.progress.held) (tokens_of s.progress.given s.progress.held) e
