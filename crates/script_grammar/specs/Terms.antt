-- Terms, atoms and declarations.
use Rattle.std.specs.Prelude.{ℕ, List}
use mathlib.Core.Bool.{Bool, true, false}
use Rattle.parser_laws.specs.Parsing.{pick, Lang, always, beyond, both, either, perhaps, items, until}
use Rattle.script_tokens.specs.declared.kind.Kind.TheVariants as kind
use Rattle.script_tokens.specs.Tokens.{PlacedToken}
use Rattle.script_grammar.specs.Views.{is, is_name, is_number, is_adding, is_truth, sign, name, number, adding, relation, truth, sort}

-- number [* name]
abbrev pub scaled : Lang PlacedToken
scaled = both number (perhaps (is kind.Times) (both (sign kind.Times) name))

-- number [* name] | name
abbrev pub part : Lang PlacedToken
part = either is_number scaled (until (beyond (is kind.Times) always) name)

-- { (+ | -) part }
abbrev pub tail : Lang PlacedToken
tail = items is_adding (both adding part)

-- [-] part tail
abbrev pub term : Lang PlacedToken
term = both (perhaps (is kind.Minus) (sign kind.Minus)) (both part tail)

-- tail relation term
abbrev pub compared : Lang PlacedToken
compared = both tail (both relation term)

abbrev pub starts_term : PlacedToken → Bool
starts_term t = pick (is kind.Minus t) true (pick (is_number t) true (is_name t))

-- term { , term }
abbrev pub terms : Lang PlacedToken
terms = both term (items (is kind.Comma) (both (sign kind.Comma) term))

-- [ terms ]
abbrev pub arguments : Lang PlacedToken
arguments = perhaps starts_term terms

-- ( arguments )
abbrev pub called : Lang PlacedToken
called = both (sign kind.Open) (both arguments (sign kind.Close))

-- a call, or a comparison that begins with a name
abbrev pub named : Lang PlacedToken
named = both name (either (is kind.Open) called compared)

-- a comparison that begins otherwise
abbrev pub unnamed : Lang PlacedToken
unnamed = both (either (is kind.Minus) (both (sign kind.Minus) part) scaled) compared

abbrev pub atom : Lang PlacedToken
atom = either is_truth truth (either is_name named unnamed)

-- name sort { , name sort }
abbrev pub declaration : Lang PlacedToken
declaration = both name sort

abbrev pub declarations : Lang PlacedToken
declarations = both declaration (items (is kind.Comma) (both (sign kind.Comma) declaration))

abbrev pub Atom : Type 0
Atom = atom.Tree

abbrev pub Declarations : Type 0
Declarations = declarations.Tree
