-- The tokens of bytes. The longest token is taken at each place; blanks are space, tab, CR and LF, and a comment runs from `#` to the
-- next LF or to the end.
use Rattle.std.specs.Prelude.{ℕ, zero, suc, ◌+◌, ◌-◌, ◌^◌, min, Bool, true, false, not, ◌||◌, nat_eq, if◌then◌else◌, List, [], ◌∷◌, length, take, drop, map, Option, None, Some}
use Rattle.std.specs.Cmp.Lexicographic.{pointwise}
use Rattle.std.specs.List.{prefix_len, starts_with}
use Rattle.lash_model.specs.Letters.{number}
use Rattle.formula_core.specs.Names.{begins_word, is_digit, is_in_word}
use Rattle.script_tokens.specs.declared.kind.Kind.{Kind}
use Rattle.script_tokens.specs.declared.kind.TheConstants.{KEYWORDS, SIGNS}
use Rattle.script_tokens.specs.Kinds.{spelled}
use Rattle.script_tokens.specs.Tokens.{Token, Name, Number, Sign, Bad, PlacedToken}

abbrev pub is_blank : ℕ → Bool
is_blank b = (nat_eq b 32 || nat_eq b 9) || (nat_eq b 13 || nat_eq b 10)

-- how many blanks and bytes of comments the bytes begin with, in a comment or not
abbrev pub blank_length : Bool → List ℕ → ℕ
blank_length in_comment [] = 0
blank_length true (b ∷ bs) = 1 + blank_length (not (nat_eq b 10)) bs
blank_length false (b ∷ bs) = if nat_eq b 35 then 1 + blank_length true bs else (if is_blank b then 1 + blank_length false bs else 0)

-- the first of the kinds that is spelled so
abbrev pub keyword_in : List Kind → List ℕ → Option Kind
keyword_in [] word = None
keyword_in (k ∷ ks) word = if pointwise nat_eq (spelled k) word then Some k else keyword_in ks word

-- a word is a keyword or a name
abbrev pub word_token : List ℕ → Token
word_token word = by (keyword_in KEYWORDS word)
  where
    by : Option Kind → Token
    by None = Name word
    by (Some k) = Sign k

-- one more than the greatest number of a script; greater numbers are not told apart
abbrev pub number_limit : ℕ
number_limit = 2 ^ 64 + 1

-- the number of decimal digits
abbrev pub number_token : List ℕ → Token
number_token digits = Number (min (number 10 (map (λ b. b - 48) digits)) number_limit)

-- the first of the kinds that the bytes begin with
abbrev pub sign_in : List Kind → List ℕ → Option Kind
sign_in [] bs = None
sign_in (k ∷ ks) bs = if starts_with nat_eq bs (spelled k) then Some k else sign_in ks bs

-- a token and how many bytes it has
pub record Lexeme : Type 0 where
  pub token : Token
  pub size : ℕ

abbrev pub word_lexeme : List ℕ → Lexeme
word_lexeme bs = record { token = word_token (take (prefix_len is_in_word bs) bs); size = prefix_len is_in_word bs }

abbrev pub number_lexeme : List ℕ → Lexeme
number_lexeme bs = record { token = number_token (take (prefix_len is_digit bs) bs); size = prefix_len is_digit bs }

abbrev pub sign_lexeme : Option Kind → Lexeme
sign_lexeme None = record { token = Bad; size = 1 }
sign_lexeme (Some k) = record { token = Sign k; size = length (spelled k) }

-- the token that bytes begin with, the first of which is no blank
abbrev pub lexeme : ℕ → List ℕ → Lexeme
lexeme b bs = if begins_word b then word_lexeme (b ∷ bs) else (if is_digit b then number_lexeme (b ∷ bs) else sign_lexeme (sign_in SIGNS (b ∷ bs)))

abbrev pub is_bad : Token → Bool
is_bad (Name name) = false
is_bad (Number n) = false
is_bad (Sign k) = false
is_bad Bad = true

abbrev pub token_then : (ℕ → List ℕ → List PlacedToken) → ℕ → List ℕ → Lexeme → List PlacedToken
token_then next place bs x = record { token = x.token; place = place } ∷ (if is_bad x.token then [] else next (place + x.size) (drop x.size bs))

abbrev pub after_blanks : (ℕ → List ℕ → List PlacedToken) → ℕ → List ℕ → List PlacedToken
after_blanks next place [] = []
after_blanks next place (b ∷ bs) = token_then next place (b ∷ bs) (lexeme b bs)

-- at most so many tokens
abbrev pub lexed : ℕ → ℕ → List ℕ → List PlacedToken
lexed zero place bs = []
lexed (suc n) place bs = after_blanks (lexed n) (place + blank_length false bs) (drop (blank_length false bs) bs)

-- the tokens of bytes that begin at a place of the script, up to the first byte that begins no token
abbrev pub tokens_of : ℕ → List ℕ → List PlacedToken
tokens_of place bs = lexed (suc (length bs)) place bs
