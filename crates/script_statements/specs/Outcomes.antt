-- What a list of tokens is to a reader of statements, in terms of the grammar.
use Rattle.std.specs.Prelude.{◌≡◌, ℕ, List}
use Rattle.parser_laws.specs.Places.{IsRead, IsSyntaxAt, IsNestingAt}
use Rattle.script_tokens.specs.Tokens.{PlacedToken}
use Rattle.script_grammar.specs.Statements.{whole_statement, Statement}
use Rattle.script_syntax.specs.declared.cursor.Stop.{Stop}
use Rattle.script_syntax.specs.declared.cursor.Stop.TheVariants.{Syntax as StopSyntax, Nesting as StopNesting, Memory as StopMemory}
use Rattle.script_statements.specs.Statements.{statement_shape, statement_of}
use Rattle.script_statements.specs.declared.tree.Statement.{Statement as DeclaredStatement}
use Rattle.script_statements.specs.declared.reading.Refusal.{Refusal}
use Rattle.script_statements.specs.declared.reading.Refusal.TheVariants.{Syntax, Nesting, Memory}

-- the tokens spell the statement, and nothing else
abbrev pub Spells : List PlacedToken → DeclaredStatement → Type 0
Spells ts s = (a : Statement) × IsRead whole_statement ts a × (statement_shape a ≡ statement_of s)

-- the tokens are refused, for the cause and at the place; of want of memory nothing is said
abbrev pub AreRefused : List PlacedToken → Refusal → Type 0
AreRefused ts (Syntax k) = IsSyntaxAt whole_statement ts k
AreRefused ts (Nesting k) = IsNestingAt whole_statement ts k
AreRefused ts Memory = Unit {0}

-- a reader's cause, with the place where it stops
abbrev pub refused_at : ℕ → Stop → Refusal
refused_at k StopSyntax = Syntax k
refused_at k StopNesting = Nesting k
refused_at k StopMemory = Memory

-- a whole statement, or the place of the first token that is wrong or opens one group too many
pub data Outcome : Type 0 where
  Whole : Statement → Outcome
  Wrong : ℕ → Outcome
  Deep : ℕ → Outcome

abbrev pub IsOutcome : List PlacedToken → Outcome → Type 0
IsOutcome ts (Whole a) = IsRead whole_statement ts a
IsOutcome ts (Wrong k) = IsSyntaxAt whole_statement ts k
IsOutcome ts (Deep k) = IsNestingAt whole_statement ts k
