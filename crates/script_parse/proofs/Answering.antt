-- From the statement that tokens spell to the answer.
use Rattle.std.proofs.Common.{◌≡◌, ℕ, ◌≤◌, List, length, map, inr, arith, ap, subst}
use Rattle.std.specs.Prelude.{Result, Ok, Err}
use Rattle.std.proofs.lemmas.List.{length-map}
use Rattle.script_tokens.specs.Naming.{AreNamed}
use Rattle.script_tokens.specs.Tokens.{PlacedToken}
use Rattle.script_tokens.specs.Shape.{placed_of}
use Rattle.script_tokens.specs.declared.token.Placed.{Placed}
use Rattle.script_statements.specs.Statements.{StatementShape, statement_of}
use Rattle.script_statements.specs.Outcomes.{Spells as StatementSpells}
use Rattle.script_statements.specs.declared.tree.Statement.{Statement as DeclaredTree}
use Rattle.script_names.specs.Kept.{KeptSet}
use Rattle.statement_meaning.specs.Judging.{IsStatementReadable}
use Rattle.statement_meaning.specs.declared.statement.Statement.{Statement as DeclaredStatement}
use Rattle.script_parse.specs.Answers.{Spells, AnswersStatement, AnswersTokens}
use Rattle.script_parse.specs.declared.errors.ScriptError.{ScriptError}
use Rattle.script_parse.specs.declared.errors.ScriptError.TheVariants.{Read, Limit, Syntax, Name, Memory}
use Rattle.script_parse.proofs.Readable.{readable}

-- the statement that was read
pub spelled : (ts : List PlacedToken) (s : DeclaredTree) → StatementSpells ts s → Spells ts (statement_of s)
spelled ts s (a, read, shape) = record { tree = a; read = read; is = shape }

-- it can be judged
pub readable_tree : (tokens : List Placed) (s : DeclaredTree) → Spells (map placed_of tokens) (statement_of s) → length tokens ≤ 65536 → AreNamed (map placed_of tokens) → IsStatementReadable (statement_of s)
readable_tree tokens s h few named = subst IsStatementReadable h.is (readable h.tree (subst AreNamed h.read.spelled named) (omega (arith, ap length h.read.spelled, length-map tokens placed_of, few)))

-- the answer of the statement is that of the tokens
pub answered : (base : ℕ) (kept : List KeptSet) (end : ℕ) (ts : List PlacedToken) (shape : StatementShape) (r : Result DeclaredStatement ScriptError) → Spells ts shape → AnswersStatement base kept shape r → AnswersTokens base kept end ts r
answered base kept end ts shape (Ok s) h is = record { shape = shape; spells = h; is = is }
answered base kept end ts shape (Err Read) h is = absurd is
answered base kept end ts shape (Err (Limit which)) h is = inr (record { shape = shape; spells = h; is = is })
answered base kept end ts shape (Err (Syntax place)) h is = absurd is
answered base kept end ts shape (Err (Name fault place)) h is = record { shape = shape; spells = h; is = is }
answered base kept end ts shape (Err Memory) h is = tt
