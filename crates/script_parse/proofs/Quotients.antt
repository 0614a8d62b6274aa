-- The values of a test are quotients: the grammar has positive denominators alone.
use Rattle.std.proofs.Common.{ℕ, ◌<◌, List, [], ◌∷◌, ◌++◌, arith, subst}
use Rattle.std.specs.List.{All, AllByRecursion}
use Rattle.std.proofs.lemmas.List.Elements.{All-from_recursion}
use Rattle.parser_laws.specs.Parsing.{Either, first, other, Pair}
use Rattle.script_tokens.specs.Tokens.{PlacedToken}
use Rattle.script_grammar.specs.Statements.{value, values, Statement}
use Rattle.script_syntax.specs.Reading.{folded}
use Rattle.script_syntax.specs.Trees.{Named}
use Rattle.script_statements.specs.Values.{RationalShape, denominator_shape, value_shape, add_value, values_shape}
use Rattle.script_statements.specs.Statements.{StatementShape, Show, Set, Print, Solve, Test, Equal, Subset, Check, Loop, statement_shape}
use Rattle.statement_meaning.specs.Values.{IsQuotient}
use Rattle.script_parse.specs.Answers.{Spells}

denominator_positive : (x : Either (Pair ℕ (Pair ℕ ℕ)) Unit) → 0 < denominator_shape x
denominator_positive (first x) = omega arith
denominator_positive (other x) = omega arith

value_quotient : (x : value.Tree) → IsQuotient (value_shape x)
value_quotient x = record { positive = denominator_positive x.right.right }

at_end : (s : List RationalShape) (v : RationalShape) → AllByRecursion IsQuotient s → IsQuotient v → AllByRecursion IsQuotient (s ++ v ∷ [])
at_end [] v f g = (g, tt)
at_end (x ∷ s) v f g = (f.0, at_end s v f.1 g)

more_quotients : (s : List RationalShape) (l : List (Pair ℕ value.Tree)) → AllByRecursion IsQuotient s → AllByRecursion IsQuotient (folded add_value s l)
more_quotients s [] f = f
more_quotients s (x ∷ l) f = more_quotients (add_value s x) l (at_end s (value_shape x.right) f (value_quotient x.right))

pub values_quotients : (x : values.Tree) → All IsQuotient (values_shape x)
values_quotients (first x) = All-from_recursion IsQuotient (values_shape (first x)) (more_quotients (value_shape x.left ∷ []) x.right (value_quotient x.left, tt))
values_quotients (other x) = All-from_recursion IsQuotient [] tt

-- of each statement
abbrev HasQuotients : StatementShape → Type 0
HasQuotients (Show set) = Unit {0}
HasQuotients (Set name set) = Unit {0}
HasQuotients (Print name) = Unit {0}
HasQuotients (Solve name) = Unit {0}
HasQuotients (Test name vs) = All IsQuotient vs
HasQuotients (Equal a b) = Unit {0}
HasQuotients (Subset a b) = Unit {0}
HasQuotients (Check f) = Unit {0}
HasQuotients (Loop name vars turn) = Unit {0}

has_quotients : (a : Statement) → HasQuotients (statement_shape a)
has_quotients (first x) = tt
has_quotients (other (first x)) = tt
has_quotients (other (other (first x))) = tt
has_quotients (other (other (other (first x)))) = tt
has_quotients (other (other (other (other (first x))))) = values_quotients x.right.right.right.left
has_quotients (other (other (other (other (other (first x)))))) = tt
has_quotients (other (other (other (other (other (other (first x))))))) = tt
has_quotients (other (other (other (other (other (other (other (first x)))))))) = tt
has_quotients (other (other (other (other (other (other (other (other x)))))))) = tt

-- the values of a test that tokens spell
pub spelled_quotients : (ts : List PlacedToken) (name : Named) (vs : List RationalShape) → Spells ts (Test name vs) → All IsQuotient vs
spelled_quotients ts name vs h = subst HasQuotients h.is (has_quotients h.tree)
