-- The same facts for languages, and what is asked of neighbours.
use Rattle.std.proofs.Common.{◌≡◌, ℕ, List, [], ◌∷◌, ◌++◌, arith, refl, ◌∙◌, sym, ap, subst, append_assoc, Option, None, Some}
use mathlib.Core.Bool.{Bool, true, false}
use Rattle.std.specs.Prelude.{IsTrue}
use Rattle.std.proofs.lemmas.Bool.{false≢true}
use Rattle.parser_laws.specs.Parsing.{first, other, pick, starts_with, none, many, all_toks, all_in, anything, Lang, seen, seen_in, always, beyond, token, both, either, perhaps, items, until}
use Rattle.parser_laws.proofs.Good.{Stops, Good}
use Rattle.parser_laws.proofs.Sequence.{seq_good}
use Rattle.parser_laws.proofs.Choice.{choice_good, good_stop}
use Rattle.parser_laws.proofs.Parts.{Spelling, one_good, none_good, many_good, sized_good, stop_starts}

abbrev pub Ok : {T : Type 0} → Lang T → Type 0
Ok L = (n : ℕ) → Good L.Tree L.toks L.In L.stop n L.parse

-- each tree begins with a token of the set
abbrev pub Begins : {T : Type 0} → (T → Bool) → Lang T → Type 0
Begins starts L = (a : L.Tree) (z : List _) → starts_with starts (L.toks a ++ z) ≡ true

-- no tree, with what may follow it, begins with a token of the set
abbrev pub Avoids : {T : Type 0} → (T → Bool) → Lang T → Type 0
Avoids starts L = (a : L.Tree) (z : List _) → Stops L.stop z → starts_with starts (L.toks a ++ z) ≡ false

-- what may follow stops the other one
abbrev pub Meets : {T : Type 0} → Lang T → Lang T → Type 0
Meets A B = (b : B.Tree) (z : List _) → Stops B.stop z → Stops A.stop (B.toks b ++ z)

pub token_ok : {T A : Type 0} (view : T → Option A) (mk : A → T) → Spelling view mk → Ok (token view mk)
token_ok view mk c n = one_good view mk always n c

pub both_ok : {T : Type 0} (A B : Lang T) → Ok A → Ok B → (any : B.Tree) → B.In any → Meets A B → Ok (both A B)
both_ok A B a b any inside side n = seq_good A.toks B.toks A.In B.In A.stop B.stop n n A.parse B.parse (a n) (b n) any inside (λ x. omega arith) side

pub either_ok : {T : Type 0} (starts : T → Bool) (A B : Lang T) → Ok A → Ok B → ((t : T) → IsTrue (B.stop t) → IsTrue (A.stop t)) → Begins starts A → Avoids starts B → Ok (either starts A B)
either_ok starts A B a b s f g n = choice_good A.toks B.toks A.In B.In B.stop starts n A.parse B.parse (good_stop A.toks A.In A.stop B.stop n A.parse (a n) s) (b n) (record { heads = f; others = g })

pub beyond_stops : {T : Type 0} (starts stop : T → Bool) (t : T) → IsTrue (beyond starts stop t) → IsTrue (stop t)
beyond_stops starts stop t h = by (starts t) h
  where
    by : (c : Bool) → IsTrue (pick c false (stop t)) → IsTrue (stop t)
    by true h = absurd (false≢true h)
    by false h = h

pub beyond_ends : {T : Type 0} (starts stop : T → Bool) (t : T) → IsTrue (beyond starts stop t) → starts t ≡ false
beyond_ends starts stop t h = by (starts t) h
  where
    by : (c : Bool) → IsTrue (pick c false (stop t)) → c ≡ false
    by true h = absurd (false≢true h)
    by false h = refl

pub perhaps_ok : {T : Type 0} (starts : T → Bool) (A : Lang T) → Ok A → Begins starts A → Ok (perhaps starts A)
perhaps_ok starts A a f n = choice_good A.toks (λ u. []) A.In anything (beyond starts A.stop) starts n A.parse none (good_stop A.toks A.In A.stop (beyond starts A.stop) n A.parse (a n) (beyond_stops starts A.stop)) (none_good (beyond starts A.stop) n) (record { heads = f; others = λ b z s. stop_starts (beyond starts A.stop) starts (beyond_ends starts A.stop) z s })

pub items_ok : {T : Type 0} (starts : T → Bool) (A : Lang T) → Ok A → Begins starts A → ((t : T) → starts t ≡ true → IsTrue (A.stop t)) → Ok (items starts A)
items_ok starts A a f g = sized_good (all_toks A.toks) (all_in A.In) (beyond starts A.stop) (many starts A.parse) (many_good A.toks A.In A.stop (beyond starts A.stop) starts A.parse a (record { heads = f; next = g; stops = beyond_stops starts A.stop; ends = beyond_ends starts A.stop }))

-- what a token set says of a token
pub seen_some : {T A : Type 0} (view : T → Option A) (mk : A → T) → Spelling view mk → (t : T) → seen view t ≡ true → (a : A) × (t ≡ mk a)
seen_some {A = A} view mk c t h = by (view t) refl h
  where
    by : (v : Option A) → view t ≡ v → seen_in v ≡ true → (a : A) × (t ≡ mk a)
    by None e h = absurd (false≢true h)
    by (Some a) e h = (a, c.fits t a e)

pub seen_mk : {T A : Type 0} (view : T → Option A) (mk : A → T) → Spelling view mk → (a : A) → seen view (mk a) ≡ true
seen_mk view mk c a = ap seen_in (c.back a)

-- a property of the tokens of a set, by its spellings
pub of_seen : {T A : Type 0} (view : T → Option A) (mk : A → T) → Spelling view mk → (P : T → Type 0) → ((a : A) → P (mk a)) → (t : T) → seen view t ≡ true → P t
of_seen view mk c P f t h = let x = seen_some view mk c t h in subst P (sym x.1) (f x.0)

pub always_stops : {T : Type 0} (z : List T) → Stops always z
always_stops [] = tt
always_stops (t ∷ z) = refl

pub until_ok : {T : Type 0} (s : T → Bool) (L : Lang T) → Ok L → ((t : T) → IsTrue (s t) → IsTrue (L.stop t)) → Ok (until s L)
until_ok s L f g n = good_stop L.toks L.In L.stop s n L.parse (f n) g

pub begins_token : {T A : Type 0} (view : T → Option A) (mk : A → T) → Spelling view mk → Begins (seen view) (token view mk)
begins_token view mk c a z = seen_mk view mk c a

pub begins_both : {T : Type 0} (starts : T → Bool) (A B : Lang T) → Begins starts A → Begins starts (both A B)
begins_both starts A B f x z = ap (starts_with starts) (append_assoc (A.toks x.left) (B.toks x.right) z) ∙ f x.left (B.toks x.right ++ z)

pub avoids_both : {T : Type 0} (starts : T → Bool) (A B : Lang T) → ((a : A.Tree) (z : List T) → starts_with starts (A.toks a ++ z) ≡ false) → Avoids starts (both A B)
avoids_both starts A B f x z s = ap (starts_with starts) (append_assoc (A.toks x.left) (B.toks x.right) z) ∙ f x.left (B.toks x.right ++ z)

-- by the first tokens
pub start_stops : {T : Type 0} (starts stop : T → Bool) → ((t : T) → starts t ≡ true → IsTrue (stop t)) → (xs : List T) → starts_with starts xs ≡ true → Stops stop xs
start_stops starts stop f [] e = tt
start_stops starts stop f (t ∷ xs) e = f t e

pub meets_begins : {T : Type 0} (starts : T → Bool) (A B : Lang T) → Begins starts B → ((t : T) → starts t ≡ true → IsTrue (A.stop t)) → Meets A B
meets_begins starts A B f g b z s = start_stops starts A.stop g (B.toks b ++ z) (f b z)

pub avoids_begins : {T : Type 0} (starts avoid : T → Bool) (B : Lang T) → Begins starts B → ((t : T) → starts t ≡ true → avoid t ≡ false) → Avoids avoid B
avoids_begins {T = T} starts avoid B f g b z s = by (B.toks b ++ z) (f b z)
  where
    by : (xs : List T) → starts_with starts xs ≡ true → starts_with avoid xs ≡ false
    by [] e = refl
    by (t ∷ xs) e = g t e

stops_more : {T : Type 0} (sa sb : T → Bool) → ((t : T) → IsTrue (sb t) → IsTrue (sa t)) → (z : List T) → Stops sb z → Stops sa z
stops_more sa sb f [] s = tt
stops_more sa sb f (t ∷ z) s = f t s

pub meets_perhaps : {T : Type 0} (starts : T → Bool) (A B : Lang T) → Begins starts B → ((t : T) → starts t ≡ true → IsTrue (A.stop t)) → ((t : T) → IsTrue (beyond starts B.stop t) → IsTrue (A.stop t)) → Meets A (perhaps starts B)
meets_perhaps starts A B f g h (first b) z s = start_stops starts A.stop g (B.toks b ++ z) (f b z)
meets_perhaps starts A B f g h (other b) z s = stops_more A.stop (beyond starts B.stop) h z s

pub meets_items : {T : Type 0} (starts : T → Bool) (A B : Lang T) → Begins starts B → ((t : T) → starts t ≡ true → IsTrue (A.stop t)) → ((t : T) → IsTrue (beyond starts B.stop t) → IsTrue (A.stop t)) → Meets A (items starts B)
meets_items starts A B f g h [] z s = stops_more A.stop (beyond starts B.stop) h z s
meets_items starts A B f g h (b ∷ l) z s = start_stops starts A.stop g ((B.toks b ++ all_toks B.toks l) ++ z) (ap (starts_with starts) (append_assoc (B.toks b) (all_toks B.toks l) z) ∙ f b (all_toks B.toks l ++ z))
