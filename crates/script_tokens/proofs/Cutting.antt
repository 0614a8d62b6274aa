-- Tokens cut off one by one.
use Rattle.std.proofs.Common.{◌≡◌, ℕ, zero, suc, ◌+◌, ◌-◌, ◌<◌, ◌≤◌, List, [], ◌∷◌, ◌++◌, length, get_or, take, drop, map, Bool, true, false, cond, arith, refl, sym, ap, ◌∙◌, append_assoc, append-nil}
use Rattle.std.proofs.lemmas.List.{map-append, length-drop}
use Rattle.script_tokens.specs.Tokens.{Token, PlacedToken}
use Rattle.script_tokens.specs.Lexing.{blank_length, Lexeme, lexeme, is_bad, token_then, after_blanks, lexed, tokens_of}
use Rattle.script_tokens.specs.Shape.{placed_of, lexeme_of, token_of}
use Rattle.script_tokens.specs.declared.token.Lexeme.{Lexeme as DeclaredLexeme}
use Rattle.script_tokens.specs.declared.token.Placed.{Placed as DeclaredPlaced}

pub reads_start : (place k : ℕ) (bs : List ℕ) (read : List DeclaredPlaced) → k ≡ blank_length false bs → read ≡ [] → tokens_of place bs ≡ map placed_of read ++ after_blanks (lexed (length bs)) (place + k) (drop k bs)
reads_start place k bs read e f = ap (λ k. after_blanks (lexed (length bs)) (place + k) (drop k bs)) (sym e) ∙ ap (λ read. map placed_of read ++ after_blanks (lexed (length bs)) (place + k) (drop k bs)) (sym f)

at_token : (n q : ℕ) (bs : List ℕ) (y : Lexeme) → 0 < length bs → y ≡ lexeme (get_or bs 0 0) (drop 1 bs) → after_blanks (lexed n) q bs ≡ token_then (lexed n) q bs y
at_token n q [] y h e = absurd (omega arith)
at_token n q (b ∷ bs) y h e = ap (token_then (lexed n) q (b ∷ bs)) (sym e)

first_at : (bs : List ℕ) (at : ℕ) → get_or (drop at bs) 0 0 ≡ get_or bs at 0
first_at [] zero = refl
first_at [] (suc at) = refl
first_at (b ∷ bs) zero = refl
first_at (b ∷ bs) (suc at) = first_at bs at

drop_none : (k : ℕ) → drop {A = ℕ} k [] ≡ []
drop_none zero = refl
drop_none (suc k) = refl

-- the slice from a place on
pub tail_slice : (bs : List ℕ) (at : ℕ) → take (length bs - at) (drop at bs) ≡ drop at bs
tail_slice bs at = ap (λ k. take k (drop at bs)) (sym (length-drop at bs)) ∙ whole (drop at bs)
  where
    whole : (bs : List ℕ) → take (length bs) bs ≡ bs
    whole [] = refl
    whole (b ∷ bs) = ap (λ us. b ∷ us) (whole bs)

drop_twice : (bs : List ℕ) (i j k : ℕ) → k ≡ i + j → drop j (drop i bs) ≡ drop k bs
drop_twice bs zero j k e = ap (λ k. drop k bs) (omega arith)
drop_twice [] (suc i) j k e = drop_none j ∙ sym (drop_none k)
drop_twice (b ∷ bs) (suc i) j k e = drop_twice bs i j (k - 1) (omega arith) ∙ ap (λ k. drop k (b ∷ bs)) (back k i j e)
  where
    back : (k i j : ℕ) → k ≡ suc i + j → suc (k - 1) ≡ k
    back k i j e = omega arith

token_in_hand : (n p at : ℕ) (bs : List ℕ) (y : Lexeme) → at < length bs → y ≡ lexeme (get_or bs at 0) (drop 1 (drop at bs)) → after_blanks (lexed n) (p + at) (drop at bs) ≡ token_then (lexed n) (p + at) (drop at bs) y
token_in_hand n p at bs y h e = at_token n (p + at) (drop at bs) y (omega (arith, h, length-drop at bs)) (e ∙ ap (λ b. lexeme b (drop 1 (drop at bs))) (sym (first_at bs at)))

joined : (read new : List DeclaredPlaced) (token : DeclaredPlaced) (more : List PlacedToken) → new ≡ read ++ token ∷ [] → map placed_of read ++ placed_of token ∷ more ≡ map placed_of new ++ more
joined read new token more e = sym (append_assoc (map placed_of read) (placed_of token ∷ []) more) ∙ ap (λ ts. ts ++ more) (sym (map-append placed_of read (token ∷ [])) ∙ ap (map placed_of) (sym e))

-- a byte that begins no token is the last token
pub reads_bad : (ts : List PlacedToken) (n p at : ℕ) (bs : List ℕ) (read new : List DeclaredPlaced) (x : DeclaredLexeme) → ts ≡ map placed_of read ++ after_blanks (lexed n) (p + at) (drop at bs) → at < length bs → lexeme_of x ≡ lexeme (get_or bs at 0) (drop 1 (drop at bs)) → new ≡ read ++ record { token = x.token; place = p + at } ∷ [] → is_bad (token_of x.token) ≡ true → map placed_of new ≡ ts
reads_bad ts n p at bs read new x e h l f b = sym (e ∙ ap (λ us. map placed_of read ++ us) (token_in_hand n p at bs (lexeme_of x) h l ∙ ap (λ c. record { token = token_of x.token; place = p + at } ∷ cond c [] (lexed n ((p + at) + x.size) (drop x.size (drop at bs)))) b) ∙ joined read new (record { token = x.token; place = p + at }) [] f ∙ append-nil (map placed_of new))

after : (m p at size k : ℕ) (bs : List ℕ) → k ≡ blank_length false (drop (at + size) bs) → lexed (suc m) ((p + at) + size) (drop size (drop at bs)) ≡ after_blanks (lexed m) (p + ((at + size) + k)) (drop ((at + size) + k) bs)
after m p at size k bs e = ap (λ us. lexed (suc m) ((p + at) + size) us) (drop_twice bs at size (at + size) refl) ∙ ap (λ k. after_blanks (lexed m) (((p + at) + size) + k) (drop k (drop (at + size) bs))) (sym e) ∙ ap (λ us. after_blanks (lexed m) (((p + at) + size) + k) us) (drop_twice bs (at + size) k ((at + size) + k) refl) ∙ ap (λ q. after_blanks (lexed m) q (drop ((at + size) + k) bs)) (regroup p at size k)
  where
    regroup : (p at size k : ℕ) → ((p + at) + size) + k ≡ p + ((at + size) + k)
    regroup p at size k = omega arith

-- one token more, and the blanks behind it
pub reads_more : (ts : List PlacedToken) (n p at k : ℕ) (bs : List ℕ) (read new : List DeclaredPlaced) (x : DeclaredLexeme) → ts ≡ map placed_of read ++ after_blanks (lexed n) (p + at) (drop at bs) → at < length bs → 0 < n → lexeme_of x ≡ lexeme (get_or bs at 0) (drop 1 (drop at bs)) → new ≡ read ++ record { token = x.token; place = p + at } ∷ [] → is_bad (token_of x.token) ≡ false → k ≡ blank_length false (drop (at + x.size) bs) → ts ≡ map placed_of new ++ after_blanks (lexed (n - 1)) (p + ((at + x.size) + k)) (drop ((at + x.size) + k) bs)
reads_more ts n p at k bs read new x e h i l f b g = e ∙ ap (λ us. map placed_of read ++ us) (token_in_hand n p at bs (lexeme_of x) h l ∙ ap (λ c. record { token = token_of x.token; place = p + at } ∷ cond c [] (lexed n ((p + at) + x.size) (drop x.size (drop at bs)))) b ∙ ap (λ n. record { token = token_of x.token; place = p + at } ∷ lexed n ((p + at) + x.size) (drop x.size (drop at bs))) (next n i) ∙ ap (λ us. record { token = token_of x.token; place = p + at } ∷ us) (after (n - 1) p at x.size k bs g)) ∙ joined read new (record { token = x.token; place = p + at }) (after_blanks (lexed (n - 1)) (p + ((at + x.size) + k)) (drop ((at + x.size) + k) bs)) f
  where
    next : (n : ℕ) → 0 < n → n ≡ suc (n - 1)
    next n h = omega arith
