-- How many tokens there are, and where they stand.
use Rattle.std.proofs.Common.{◌≡◌, ℕ, zero, suc, ◌+◌, ◌<◌, ◌≤◌, List, [], ◌∷◌, length, drop, Bool, true, false, cond, refl, sym, subst, arith, Option, None, Some}
use Rattle.std.specs.List.{prefix_len}
use Rattle.std.proofs.lemmas.Bool.{or_left}
use Rattle.std.proofs.lemmas.List.{length-drop}
use Rattle.formula_core.specs.Names.{begins_word, is_digit, is_in_word}
use Rattle.script_tokens.specs.declared.kind.Kind.{Kind}
use Rattle.script_tokens.specs.declared.kind.Kind.TheVariants as kind
use Rattle.script_tokens.specs.declared.kind.TheConstants.{SIGNS}
use Rattle.script_tokens.specs.Kinds.{spelled}
use Rattle.script_tokens.specs.Lexing.{blank_length, Lexeme, word_lexeme, number_lexeme, sign_lexeme, sign_in, lexeme, is_bad, token_then, after_blanks, lexed, tokens_of}

some_byte : (k : Kind) → 0 < length (spelled k)
some_byte kind.Show = omega arith
some_byte k = omega arith

some_sign : (o : Option Kind) → 0 < (sign_lexeme o).size
some_sign None = omega arith
some_sign (Some k) = some_byte k

prefix_some : (p : ℕ → Bool) (b : ℕ) (bs : List ℕ) → p b ≡ true → 0 < prefix_len p (b ∷ bs)
prefix_some p b bs e = subst (λ (c : Bool). 0 < cond c (1 + prefix_len p bs) 0) (sym e) (omega arith)

-- no token is empty
pub some_size : (b : ℕ) (bs : List ℕ) → 0 < (lexeme b bs).size
some_size b bs = by (begins_word b) (is_digit b) refl refl
  where
    by : (w d : Bool) → begins_word b ≡ w → is_digit b ≡ d → 0 < (cond w (word_lexeme (b ∷ bs)) (cond d (number_lexeme (b ∷ bs)) (sign_lexeme (sign_in SIGNS (b ∷ bs))))).size
    by true d e f = prefix_some is_in_word b bs (or_left (begins_word b) (is_digit b) e)
    by false true e f = prefix_some is_digit b bs f
    by false false e f = some_sign (sign_in SIGNS (b ∷ bs))

then_few : (n q b : ℕ) (bs : List ℕ) (x : Lexeme) → 0 < x.size → ((q : ℕ) (us : List ℕ) → length (lexed n q us) ≤ length us) → length (token_then (lexed n) q (b ∷ bs) x) ≤ length (b ∷ bs)
then_few n q b bs x h f = by (is_bad x.token)
  where
    by : (c : Bool) → suc (length (cond c [] (lexed n (q + x.size) (drop x.size (b ∷ bs))))) ≤ length (b ∷ bs)
    by true = omega arith
    by false = omega (arith, f (q + x.size) (drop x.size (b ∷ bs)), length-drop x.size (b ∷ bs))

after_few : (n q : ℕ) (bs : List ℕ) → ((q : ℕ) (us : List ℕ) → length (lexed n q us) ≤ length us) → length (after_blanks (lexed n) q bs) ≤ length bs
after_few n q [] f = omega arith
after_few n q (b ∷ bs) f = then_few n q b bs (lexeme b bs) (some_size b bs) f

lexed_few : (n q : ℕ) (bs : List ℕ) → length (lexed n q bs) ≤ length bs
lexed_few zero q bs = omega arith
lexed_few (suc n) q bs = omega (arith, after_few n (q + blank_length false bs) (drop (blank_length false bs) bs) (lexed_few n), length-drop (blank_length false bs) bs)

pub few : (place : ℕ) (bytes : List ℕ) → length (tokens_of place bytes) ≤ length bytes
few place bytes = lexed_few (suc (length bytes)) place bytes
