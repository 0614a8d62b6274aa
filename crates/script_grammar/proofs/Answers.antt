-- What the answers of the parser of statements say.
use Rattle.std.proofs.Common.{◌≡◌, ℕ, List, []}
use Rattle.parser_laws.specs.Parsing.{Syntax, Nesting, done, halt}
use Rattle.parser_laws.specs.Places.{IsRead, IsSyntaxAt, IsNestingAt}
use Rattle.parser_laws.proofs.Langs.{Ok}
use Rattle.parser_laws.proofs.Whole.{whole_ok, read_says, syntax_says, nesting_says, complete, syntax_exact, nesting_exact}
use Rattle.script_tokens.specs.Tokens.{PlacedToken}
use Rattle.script_grammar.specs.Statements.{statement, nesting_limit, whole_statement, Statement}
use Rattle.script_grammar.proofs.StatementsGood.{statement_ok, some_statement}

pub whole_statement_ok : Ok whole_statement
whole_statement_ok = whole_ok (statement nesting_limit) (statement_ok nesting_limit)

pub read : (ts : List PlacedToken) (a : Statement) (rest : List PlacedToken) → whole_statement.parse ts ≡ done a rest → IsRead whole_statement ts a
read ts a rest e = read_says (statement nesting_limit) whole_statement_ok ts a rest e

pub read_back : (a : Statement) → whole_statement.In a → whole_statement.parse (whole_statement.toks a) ≡ done a []
read_back a h = complete whole_statement whole_statement_ok a h

pub syntax : (ts : List PlacedToken) (k : ℕ) → whole_statement.parse ts ≡ halt Syntax k → IsSyntaxAt whole_statement ts k
syntax ts k e = syntax_says whole_statement whole_statement_ok (some_statement nesting_limit) (tt, (tt, tt)) ts k e

pub syntax_back : (ts : List PlacedToken) (k : ℕ) → IsSyntaxAt whole_statement ts k → whole_statement.parse ts ≡ halt Syntax k
syntax_back ts k e = syntax_exact (statement nesting_limit) whole_statement_ok (some_statement nesting_limit) (tt, (tt, tt)) ts k e

pub nesting : (ts : List PlacedToken) (k : ℕ) → whole_statement.parse ts ≡ halt Nesting k → IsNestingAt whole_statement ts k
nesting ts k e = nesting_says whole_statement whole_statement_ok (some_statement nesting_limit) (tt, (tt, tt)) ts k e

pub nesting_back : (ts : List PlacedToken) (k : ℕ) → IsNestingAt whole_statement ts k → whole_statement.parse ts ≡ halt Nesting k
nesting_back ts k e = nesting_exact (statement nesting_limit) whole_statement_ok (some_statement nesting_limit) (tt, (tt, tt)) ts k e
