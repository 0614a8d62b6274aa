-- What an answer of a reader has to do with the parser of the grammar.
use Rattle.std.specs.Prelude.{◌≡◌, ◌≢◌, ◌-◌, ℕ, Bool, List, [], ◌∷◌, length, Option, None, Some, Result, Ok, Err}
use Rattle.parser_laws.specs.Parsing.{Halt, Syntax, Nesting, Res, done, halt, res_map, many}
use Rattle.script_tokens.specs.Tokens.{Token, PlacedToken}
use Rattle.script_tokens.specs.Shape.{placed_of}
use Rattle.script_tokens.specs.declared.token.Placed.{Placed as DeclaredPlaced}
use Rattle.script_syntax.specs.declared.cursor.Stop.{Stop}
use Rattle.script_syntax.specs.declared.cursor.Stop.TheVariants.{Syntax as StopSyntax, Nesting as StopNesting, Memory}

-- the first token of a list
abbrev pub token_at : List PlacedToken → Option PlacedToken
token_at [] = None
token_at (t ∷ ts) = Some t

abbrev pub shown : Option DeclaredPlaced → Option PlacedToken
shown None = None
shown (Some t) = Some (placed_of t)

abbrev pub cause : Stop → Halt
cause StopSyntax = Syntax
cause StopNesting = Nesting
cause Memory = Syntax

-- the reader's tree is that of the parser, and the same tokens are left; or both stop at the token in hand, for the same cause. Of want
-- of memory nothing is said
abbrev pub Agrees : {A B : Type 0} → (B → A) → Res PlacedToken A → Result B Stop → List PlacedToken → List PlacedToken → Type 0
Agrees shape r (Ok b) before after = r ≡ done (shape b) after
Agrees shape r (Err e) before after = (e ≢ Memory) → r ≡ halt (cause e) (length before - length after)

-- the shapes of trees joined to a state, from the left
abbrev pub folded : {A S : Type 0} → (S → A → S) → S → List A → S
folded add s [] = s
folded add s (a ∷ l) = folded add (add s a) l

-- the items of a list that are still to be read, joined to those that were
abbrev pub rest_of : {T A S : Type 0} → (T → Bool) → (List T → Res T A) → (S → A → S) → ℕ → S → List T → Res T S
rest_of starts p add n s ts = res_map (folded add s) (many starts p n ts)

-- of a keyword or sign nothing is kept
abbrev pub forgotten : ℕ → Unit {0}
forgotten place = tt

-- what a view sees of the token in hand
abbrev pub view_at : {A : Type 0} → (Token → Option A) → List PlacedToken → Option A
view_at view [] = None
view_at view (t ∷ ts) = view t.token

-- a tree that is made, unless memory is wanting
abbrev pub IsMade : {A B : Type 0} → (B → A) → A → Result B Stop → Type 0
IsMade shape a (Ok b) = shape b ≡ a
IsMade shape a (Err e) = e ≡ Memory
