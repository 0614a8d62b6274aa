-- The words that the lexer takes as names are names.
use Rattle.std.proofs.Common.{◌≡◌, ℕ, zero, suc, ◌+◌, List, [], ◌∷◌, length, take, drop, map, Bool, true, false, cond, refl, sym, ◌∙◌, ap, subst, arith, Option, None, Some}
use Rattle.std.specs.Prelude.{nat_eq}
use Rattle.std.specs.Cmp.Lexicographic.{pointwise}
use Rattle.std.specs.List.{AllByRecursion, prefix_len, list_all}
use Rattle.std.proofs.lemmas.Bool.{false≢true, and_from, eq-eqb, or_left}
use Rattle.formula_core.specs.Names.{begins_word, is_digit, is_in_word, IsWord, keywords}
use Rattle.script_tokens.specs.declared.kind.Kind.{Kind}
use Rattle.script_tokens.specs.declared.kind.TheConstants.{KEYWORDS, SIGNS}
use Rattle.script_tokens.specs.Kinds.{spelled}
use Rattle.script_tokens.specs.Tokens.{Token, Name, Sign}
use Rattle.script_tokens.specs.Lexing.{blank_length, keyword_in, word_token, Lexeme, word_lexeme, number_lexeme, sign_lexeme, sign_in, lexeme, is_bad, token_then, after_blanks, lexed, tokens_of}
use Rattle.script_tokens.specs.Naming.{token_is_named, AreNamed}

itself : (xs : List ℕ) → pointwise nat_eq xs xs ≡ true
itself [] = refl
itself (x ∷ xs) = and_from (nat_eq x x) (pointwise nat_eq xs xs) (eq-eqb x x refl) (itself xs)

no_spelling : (ks : List Kind) (word : List ℕ) → keyword_in ks word ≡ None → AllByRecursion (λ k. k ≡ word → ⊥) (map spelled ks)
no_spelling [] word e = tt
no_spelling (k ∷ ks) word e = by (pointwise nat_eq (spelled k) word) refl e (no_spelling ks word)
  where
    by : (b : Bool) → pointwise nat_eq (spelled k) word ≡ b → cond b (Some k) (keyword_in ks word) ≡ None → (keyword_in ks word ≡ None → AllByRecursion (λ k. k ≡ word → ⊥) (map spelled ks)) → (spelled k ≡ word → ⊥) × AllByRecursion (λ k. k ≡ word → ⊥) (map spelled ks)
    by true q e f = absurd (cc)
    by false q e f = (λ s. false≢true (sym q ∙ ap (pointwise nat_eq (spelled k)) (sym s) ∙ itself (spelled k)), f e)

no_keyword : (word : List ℕ) → keyword_in KEYWORDS word ≡ None → AllByRecursion (λ k. k ≡ word → ⊥) keywords
unfolding keywords
no_keyword word e = no_spelling KEYWORDS word e

front_passes : (p : ℕ → Bool) (bs : List ℕ) → list_all p (take (prefix_len p bs) bs) ≡ true
front_passes p [] = refl
front_passes p (b ∷ bs) = by (p b) refl (front_passes p bs)
  where
    next : (n : ℕ) → 1 + n ≡ suc n
    next n = omega arith

    by : (c : Bool) → p b ≡ c → list_all p (take (prefix_len p bs) bs) ≡ true → list_all p (take (cond c (1 + prefix_len p bs) 0) (b ∷ bs)) ≡ true
    by true e f = subst (λ (n : ℕ). list_all p (take n (b ∷ bs)) ≡ true) (sym (next (prefix_len p bs))) (and_from (p b) (list_all p (take (prefix_len p bs) bs)) e f)
    by false e f = refl

word_size : (p : ℕ → Bool) (b : ℕ) (bs : List ℕ) → p b ≡ true → prefix_len p (b ∷ bs) ≡ suc (prefix_len p bs)
word_size p b bs e = ap (λ c. cond c (1 + prefix_len p bs) 0) e ∙ omega arith

front_is_word : (b : ℕ) (bs : List ℕ) → begins_word b ≡ true → IsWord (take (prefix_len is_in_word (b ∷ bs)) (b ∷ bs))
front_is_word b bs e = subst (λ (n : ℕ). IsWord (take n (b ∷ bs))) (sym (word_size is_in_word b bs (or_left (begins_word b) (is_digit b) e))) (e, front_passes is_in_word bs)

keyword_or_name : List ℕ → Option Kind → Token
keyword_or_name word None = Name word
keyword_or_name word (Some k) = Sign k

named_by : (word : List ℕ) → IsWord word → (o : Option Kind) → keyword_in KEYWORDS word ≡ o → token_is_named (keyword_or_name word o)
unfolding keyword_or_name
named_by word w None e = record { word = w; free = no_keyword word e }
named_by word w (Some k) e = tt

word_is_named : (word : List ℕ) → IsWord word → token_is_named (word_token word)
unfolding keyword_or_name
word_is_named word w = named_by word w (keyword_in KEYWORDS word) refl

sign_is_named : (o : Option Kind) → token_is_named (sign_lexeme o).token
sign_is_named None = tt
sign_is_named (Some k) = tt

lexeme_is_named : (b : ℕ) (bs : List ℕ) → token_is_named (lexeme b bs).token
lexeme_is_named b bs = by (begins_word b) (is_digit b) refl
  where
    by : (w d : Bool) → begins_word b ≡ w → token_is_named (cond w (word_lexeme (b ∷ bs)) (cond d (number_lexeme (b ∷ bs)) (sign_lexeme (sign_in SIGNS (b ∷ bs))))).token
    by true d e = word_is_named (take (prefix_len is_in_word (b ∷ bs)) (b ∷ bs)) (front_is_word b bs e)
    by false true e = tt
    by false false e = sign_is_named (sign_in SIGNS (b ∷ bs))

then_named : (n q : ℕ) (bs : List ℕ) (x : Lexeme) → token_is_named x.token → ((q : ℕ) (us : List ℕ) → AreNamed (lexed n q us)) → AreNamed (token_then (lexed n) q bs x)
then_named n q bs x h f = (h, by (is_bad x.token))
  where
    by : (c : Bool) → AreNamed (cond c [] (lexed n (q + x.size) (drop x.size bs)))
    by true = tt
    by false = f (q + x.size) (drop x.size bs)

after_named : (n q : ℕ) (bs : List ℕ) → ((q : ℕ) (us : List ℕ) → AreNamed (lexed n q us)) → AreNamed (after_blanks (lexed n) q bs)
after_named n q [] f = tt
after_named n q (b ∷ bs) f = then_named n q (b ∷ bs) (lexeme b bs) (lexeme_is_named b bs) f

lexed_named : (n q : ℕ) (bs : List ℕ) → AreNamed (lexed n q bs)
lexed_named zero q bs = tt
lexed_named (suc n) q bs = after_named n (q + blank_length false bs) (drop (blank_length false bs) bs) (lexed_named n)

pub are_named : (place : ℕ) (bytes : List ℕ) → AreNamed (tokens_of place bytes)
are_named place bytes = lexed_named (suc (length bytes)) place bytes
