-- Tokens, without and with their places.
use Rattle.std.specs.Prelude.{ℕ, List}
use Rattle.parser_laws.specs.Placed.{Placed}
use Rattle.script_tokens.specs.declared.kind.Kind.{Kind}

-- a name, a number, a keyword or sign, or a byte that begins no token
pub data Token : Type 0 where
  Name : List ℕ → Token
  Number : ℕ → Token
  Sign : Kind → Token
  Bad : Token

-- a token with the number of script bytes before it
abbrev pub PlacedToken : Type 0
PlacedToken = Placed Token
