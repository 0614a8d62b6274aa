-- Tokens that hold names.
use Rattle.std.specs.Prelude.{List}
use Rattle.std.specs.List.{AllByRecursion}
use Rattle.formula_core.specs.Names.{IsName}
use Rattle.script_tokens.specs.Tokens.{Token, Name, Number, Sign, Bad, PlacedToken}

-- the bytes of a name token are a name: a word that is no keyword
abbrev pub token_is_named : Token → Type 0
token_is_named (Name name) = IsName name
token_is_named (Number n) = Unit
token_is_named (Sign k) = Unit
token_is_named Bad = Unit

-- each name token is named so
abbrev pub AreNamed : List PlacedToken → Type 0
AreNamed ts = AllByRecursion (λ t. token_is_named t.token) ts
