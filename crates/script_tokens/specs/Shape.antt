-- The tokens of the program as those of the definitions.
use Rattle.std.specs.Prelude.{ℕ}
use Rattle.script_tokens.specs.declared.token.Token.{Token as Declared}
use Rattle.script_tokens.specs.declared.token.Token.TheVariants.{Name as DeclaredName, Number as DeclaredNumber, Sign as DeclaredSign, Bad as DeclaredBad}
use Rattle.script_tokens.specs.declared.token.Placed.{Placed as DeclaredPlaced}
use Rattle.script_tokens.specs.declared.token.Lexeme.{Lexeme as DeclaredLexeme}
use Rattle.script_tokens.specs.Lexing.{Lexeme}
use Rattle.script_tokens.specs.Tokens.{Token, Name, Number, Sign, Bad, PlacedToken}

abbrev pub token_of : Declared → Token
token_of (DeclaredName name) = Name name.now
token_of (DeclaredNumber n) = Number n
token_of (DeclaredSign k) = Sign k
token_of DeclaredBad = Bad

abbrev pub placed_of : DeclaredPlaced → PlacedToken
placed_of t = record { token = token_of t.token; place = t.place }

abbrev pub lexeme_of : DeclaredLexeme → Lexeme
lexeme_of x = record { token = token_of x.token; size = x.size }
