-- Where tokens stand.
use Rattle.std.proofs.Common.{◌≡◌, ◌⊎◌, ℕ, zero, suc, ◌+◌, ◌<◌, ◌≤◌, List, [], ◌∷◌, length, get_or, drop, Bool, true, false, cond, refl, sym, subst, inl, inr, arith}
use Rattle.std.specs.List.{All, AllPairs, AllByRecursion}
use Rattle.std.proofs.lemmas.Bool.{cases_lt}
use Rattle.std.proofs.lemmas.List.{length-drop, drop_all}
use Rattle.std.proofs.lemmas.List.Elements.{All-from_recursion}
use Rattle.script_tokens.specs.Tokens.{PlacedToken}
use Rattle.script_tokens.specs.Lexing.{blank_length, Lexeme, lexeme, is_bad, token_then, after_blanks, lexed, tokens_of}
use Rattle.script_tokens.proofs.Few.{some_size}

-- each place is at least the first bound and past the one before it, and below the second bound
abbrev RisesIn : ℕ → ℕ → List PlacedToken → Type 0
RisesIn low high [] = Unit
RisesIn low high (t ∷ ts) = (low ≤ t.place) × (t.place < high) × RisesIn (suc t.place) high ts

widened : (a b c d : ℕ) (ts : List PlacedToken) → a ≤ c → d ≤ b → RisesIn c d ts → RisesIn a b ts
widened a b c d [] h i r = tt
widened a b c d (t ∷ ts) h i r = (omega (arith, r.0), omega (arith, r.1), widened (suc t.place) b (suc t.place) d ts (omega arith) i r.2)

nothing_left : (n k q : ℕ) → after_blanks (lexed n) q (drop {A = ℕ} k []) ≡ []
nothing_left n zero q = refl
nothing_left n (suc k) q = refl

no_tokens : (n q : ℕ) → lexed n q [] ≡ []
no_tokens zero q = refl
no_tokens (suc n) q = nothing_left n (blank_length false []) (q + blank_length false [])

then_rises : (n q b : ℕ) (bs : List ℕ) (x : Lexeme) → 0 < x.size → ((q : ℕ) (us : List ℕ) → RisesIn q (q + length us) (lexed n q us)) → RisesIn q (q + length (b ∷ bs)) (token_then (lexed n) q (b ∷ bs) x)
then_rises n q b bs x h f = (omega arith, omega arith, by (is_bad x.token))
  where
    past : (us : List ℕ) → us ≡ [] → RisesIn (suc q) (q + length (b ∷ bs)) (lexed n (q + x.size) us)
    past us e = subst (λ (us : List ℕ). RisesIn (suc q) (q + length (b ∷ bs)) (lexed n (q + x.size) us)) (sym e) (subst (RisesIn (suc q) (q + length (b ∷ bs))) (sym (no_tokens n (q + x.size))) tt)

    within : (length (b ∷ bs) < x.size) ⊎ (x.size ≤ length (b ∷ bs)) → RisesIn (suc q) (q + length (b ∷ bs)) (lexed n (q + x.size) (drop x.size (b ∷ bs)))
    within (inl i) = past (drop x.size (b ∷ bs)) (drop_all x.size (b ∷ bs) (omega (arith, i)))
    within (inr i) = widened (suc q) (q + length (b ∷ bs)) (q + x.size) ((q + x.size) + length (drop x.size (b ∷ bs))) (lexed n (q + x.size) (drop x.size (b ∷ bs))) (omega (arith, h)) (omega (arith, i, length-drop x.size (b ∷ bs))) (f (q + x.size) (drop x.size (b ∷ bs)))

    by : (c : Bool) → RisesIn (suc q) (q + length (b ∷ bs)) (cond c [] (lexed n (q + x.size) (drop x.size (b ∷ bs))))
    by true = tt
    by false = within (cases_lt (length (b ∷ bs)) x.size)

after_rises : (n q : ℕ) (bs : List ℕ) → ((q : ℕ) (us : List ℕ) → RisesIn q (q + length us) (lexed n q us)) → RisesIn q (q + length bs) (after_blanks (lexed n) q bs)
after_rises n q [] f = tt
after_rises n q (b ∷ bs) f = then_rises n q b bs (lexeme b bs) (some_size b bs) f

-- behind blanks
behind : (n q k : ℕ) (bs : List ℕ) → ((q : ℕ) (us : List ℕ) → RisesIn q (q + length us) (after_blanks (lexed n) q us)) → RisesIn q (q + length bs) (after_blanks (lexed n) (q + k) (drop k bs))
behind n q k bs f = by (cases_lt (length bs) k)
  where
    past : (us : List ℕ) → us ≡ [] → RisesIn q (q + length bs) (after_blanks (lexed n) (q + k) us)
    past us e = subst (λ (us : List ℕ). RisesIn q (q + length bs) (after_blanks (lexed n) (q + k) us)) (sym e) tt

    by : (length bs < k) ⊎ (k ≤ length bs) → RisesIn q (q + length bs) (after_blanks (lexed n) (q + k) (drop k bs))
    by (inl i) = past (drop k bs) (drop_all k bs (omega (arith, i)))
    by (inr i) = widened q (q + length bs) (q + k) ((q + k) + length (drop k bs)) (after_blanks (lexed n) (q + k) (drop k bs)) (omega arith) (omega (arith, i, length-drop k bs)) (f (q + k) (drop k bs))

lexed_rises : (n q : ℕ) (bs : List ℕ) → RisesIn q (q + length bs) (lexed n q bs)
lexed_rises zero q bs = tt
lexed_rises (suc n) q bs = behind n q (blank_length false bs) bs (λ q us. after_rises n q us (lexed_rises n))

all_inside : (low high : ℕ) (ts : List PlacedToken) → RisesIn low high ts → AllByRecursion (λ t. (low ≤ t.place) × (t.place < high)) ts
all_inside low high [] r = tt
all_inside low high (t ∷ ts) r = ((r.0, r.1), all_inside low high ts (widened low high (suc t.place) high ts (omega (arith, r.0)) (omega arith) r.2))

no_lower : (low high : ℕ) (ts : List PlacedToken) → RisesIn low high ts → (i : ℕ) (d : PlacedToken) → i < length ts → low ≤ (get_or ts i d).place
no_lower low high [] r i d h = absurd (omega arith)
no_lower low high (t ∷ ts) r zero d h = r.0
no_lower low high (t ∷ ts) r (suc i) d h = omega (arith, r.0, no_lower (suc t.place) high ts r.2 i d (omega arith))

pairs_rise : (low high : ℕ) (ts : List PlacedToken) → RisesIn low high ts → (i j : ℕ) (d : PlacedToken) → i < j → j < length ts → (get_or ts i d).place < (get_or ts j d).place
pairs_rise low high [] r i j d h l = absurd (omega arith)
pairs_rise low high (t ∷ ts) r i zero d h l = absurd (omega arith)
pairs_rise low high (t ∷ ts) r zero (suc j) d h l = omega (arith, no_lower (suc t.place) high ts r.2 j d (omega arith))
pairs_rise low high (t ∷ ts) r (suc i) (suc j) d h l = pairs_rise (suc t.place) high ts r.2 i j d (omega arith) (omega arith)

pub inside : (place : ℕ) (bytes : List ℕ) → All (λ t. (place ≤ t.place) × (t.place < place + length bytes)) (tokens_of place bytes)
inside place bytes = All-from_recursion (λ t. (place ≤ t.place) × (t.place < place + length bytes)) (tokens_of place bytes) (all_inside place (place + length bytes) (tokens_of place bytes) (lexed_rises (suc (length bytes)) place bytes))

pub rising : (place : ℕ) (bytes : List ℕ) → AllPairs (λ s t. s.place < t.place) (tokens_of place bytes)
rising place bytes = pairs_rise place (place + length bytes) (tokens_of place bytes) (lexed_rises (suc (length bytes)) place bytes)
