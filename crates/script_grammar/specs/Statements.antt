-- Statements, and what stands in them besides formulas.
use Rattle.std.specs.Prelude.{ℕ, List, [], ◌∷◌, Option}
use mathlib.Core.Bool.{Bool, true, false}
use Rattle.parser_laws.specs.Parsing.{pick, Lang, both, either, perhaps, items, whole}
use Rattle.script_tokens.specs.declared.kind.Kind.{Kind}
use Rattle.script_tokens.specs.declared.kind.Kind.TheVariants as kind
use Rattle.script_tokens.specs.Tokens.{Token, Sign, PlacedToken}
use Rattle.script_grammar.specs.Views.{entry, table_view, is, is_name, is_number, one_token, sign, name, number, positive}
use Rattle.script_grammar.specs.Terms.{term, declarations}
use Rattle.script_grammar.specs.Formulas.{formula}

-- [-] number [/ number], the second number not zero
abbrev pub value : Lang PlacedToken
value = both (perhaps (is kind.Minus) (sign kind.Minus)) (both number (perhaps (is kind.Slash) (both (sign kind.Slash) positive)))

abbrev pub starts_value : PlacedToken → Bool
starts_value t = pick (is kind.Minus t) true (is_number t)

-- [ value { , value } ]
abbrev pub values : Lang PlacedToken
values = perhaps starts_value (both value (items (is kind.Comma) (both (sign kind.Comma) value)))

-- ( [ declarations ] )
abbrev pub header : Lang PlacedToken
header = both (sign kind.Open) (both (perhaps is_name declarations) (sign kind.Close))

-- the relations of guards
pub data Bound : Type 0 where
  AtMost : Bound
  Below : Bound
  AtLeast : Bound
  Above : Bound
  Equal : Bound

abbrev pub spell_bound : Bound → Kind
spell_bound AtMost = kind.AtMost
spell_bound Below = kind.Below
spell_bound AtLeast = kind.AtLeast
spell_bound Above = kind.Above
spell_bound Equal = kind.Equals

abbrev pub bound_view : Token → Option Bound
bound_view = table_view (entry spell_bound AtMost ∷ entry spell_bound Below ∷ entry spell_bound AtLeast ∷ entry spell_bound Above ∷ entry spell_bound Equal ∷ [])

abbrev pub bound : Lang PlacedToken
bound = one_token bound_view (λ a. Sign (spell_bound a))

-- term bound term
abbrev pub bounded : Lang PlacedToken
bounded = both term (both bound term)

-- true | bounded { and bounded }
abbrev pub guard : Lang PlacedToken
guard = either (is kind.True) (sign kind.True) (both bounded (items (is kind.And) (both (sign kind.And) bounded)))

-- name := term
abbrev pub assign : Lang PlacedToken
assign = both name (both (sign kind.Becomes) term)

abbrev pub assigns : Lang PlacedToken
assigns = both assign (items (is kind.Comma) (both (sign kind.Comma) assign))

-- formula ;
abbrev pub closed : ℕ → Lang PlacedToken
closed n = both (formula n) (sign kind.Semicolon)

-- show header : formula ;
abbrev pub show : ℕ → Lang PlacedToken
show n = both (sign kind.Show) (both header (both (sign kind.Colon) (closed n)))

-- set name header = formula ;
abbrev pub set : ℕ → Lang PlacedToken
set n = both (sign kind.Set) (both name (both header (both (sign kind.Equals) (closed n))))

-- a word, a name ;
abbrev pub of_one : Kind → Lang PlacedToken
of_one k = both (sign k) (both name (sign kind.Semicolon))

-- a word, two names ;
abbrev pub of_two : Kind → Lang PlacedToken
of_two k = both (sign k) (both name (both name (sign kind.Semicolon)))

-- test name ( values ) ;
abbrev pub test : Lang PlacedToken
test = both (sign kind.Test) (both name (both (sign kind.Open) (both values (both (sign kind.Close) (sign kind.Semicolon)))))

-- check formula ;
abbrev pub check : ℕ → Lang PlacedToken
check n = both (sign kind.Check) (closed n)

-- guard do assigns ;
abbrev pub turn : Lang PlacedToken
turn = both guard (both (sign kind.Do) (both assigns (sign kind.Semicolon)))

-- loop name ( declarations ) when guard do assigns ;
abbrev pub loop : Lang PlacedToken
loop = both (sign kind.Loop) (both name (both (sign kind.Open) (both declarations (both (sign kind.Close) (both (sign kind.When) turn)))))

abbrev pub check_or_loop : ℕ → Lang PlacedToken
check_or_loop n = either (is kind.Check) (check n) loop

abbrev pub from_subset : ℕ → Lang PlacedToken
from_subset n = either (is kind.Subset) (of_two kind.Subset) (check_or_loop n)

abbrev pub from_equal : ℕ → Lang PlacedToken
from_equal n = either (is kind.Equal) (of_two kind.Equal) (from_subset n)

abbrev pub from_test : ℕ → Lang PlacedToken
from_test n = either (is kind.Test) test (from_equal n)

abbrev pub from_solve : ℕ → Lang PlacedToken
from_solve n = either (is kind.Solve) (of_one kind.Solve) (from_test n)

abbrev pub from_print : ℕ → Lang PlacedToken
from_print n = either (is kind.Print) (of_one kind.Print) (from_solve n)

abbrev pub from_set : ℕ → Lang PlacedToken
from_set n = either (is kind.Set) (set n) (from_print n)

-- a statement with no more than so many open groups at any place
abbrev pub statement : ℕ → Lang PlacedToken
statement n = either (is kind.Show) (show n) (from_set n)

-- the greatest nesting
abbrev pub nesting_limit : ℕ
nesting_limit = 256

-- a statement and nothing behind it
abbrev pub whole_statement : Lang PlacedToken
whole_statement = whole (statement nesting_limit)

abbrev pub Statement : Type 0
Statement = whole_statement.Tree
