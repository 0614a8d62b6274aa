-- The order of paths: it is transitive, and a letter more on both sides keeps it.
use Rattle.std.proofs.Common.{◌≡◌, ℕ, ◌<◌, List, [], ◌∷◌, ◌++◌, length, arith, refl, ◌∙◌, sym, ap, subst, append_assoc, append-nil, length-append}
use Rattle.std.proofs.Common.{inl, inr}
use Rattle.graph_laws.specs.Paths.{Path, first, Before, AtMost, more, start_path}
use Rattle.graph_laws.specs.Paths.Before.{shorter, lower, earlier}

first_chained : (u v w : List ℕ) → first u v → first v w → first u w
first_chained [] v w h k = absurd h
first_chained (a ∷ u) [] w h k = absurd h
first_chained (a ∷ u) (b ∷ v) [] h k = absurd k
first_chained (a ∷ u) (b ∷ v) (c ∷ w) (inl h) (inl k) = inl (omega (arith, h, k))
first_chained (a ∷ u) (b ∷ v) (c ∷ w) (inl h) (inr k) = inl (omega (arith, h, k.0))
first_chained (a ∷ u) (b ∷ v) (c ∷ w) (inr h) (inl k) = inl (omega (arith, h.0, k))
first_chained (a ∷ u) (b ∷ v) (c ∷ w) (inr h) (inr k) = inr (h.0 ∙ k.0, first_chained u v w h.1 k.1)

pub chained : (x y z : Path) → Before x y → Before y z → Before x z
chained x y z (shorter h) (shorter k) = shorter (omega (arith, h, k))
chained x y z (shorter h) (lower e k) = shorter (omega (arith, h, e))
chained x y z (shorter h) (earlier e s k) = shorter (omega (arith, h, e))
chained x y z (lower e h) (shorter k) = shorter (omega (arith, e, k))
chained x y z (lower e h) (lower f k) = lower (e ∙ f) (omega (arith, h, k))
chained x y z (lower e h) (earlier f s k) = lower (e ∙ f) (omega (arith, h, s))
chained x y z (earlier e s h) (shorter k) = shorter (omega (arith, e, k))
chained x y z (earlier e s h) (lower f k) = lower (e ∙ f) (omega (arith, s, k))
chained x y z (earlier e s h) (earlier f t k) = earlier (e ∙ f) (s ∙ t) (first_chained x.word y.word z.word h k)

first_more : (u v : List ℕ) (a b : ℕ) → first u v → first (u ++ a ∷ []) (v ++ b ∷ [])
first_more [] v a b h = absurd h
first_more (c ∷ u) [] a b h = absurd h
first_more (c ∷ u) (d ∷ v) a b (inl h) = inl h
first_more (c ∷ u) (d ∷ v) a b (inr h) = inr (h.0, first_more u v a b h.1)

first_last : (u : List ℕ) (a b : ℕ) → a < b → first (u ++ a ∷ []) (u ++ b ∷ [])
first_last [] a b h = inl h
first_last (c ∷ u) a b h = inr (refl, first_last u a b h)

one_longer : (u v : List ℕ) (a b : ℕ) → length u ≡ length v → length (u ++ a ∷ []) ≡ length (v ++ b ∷ [])
one_longer u v a b e = omega (arith, length-append u (a ∷ []), length-append v (b ∷ []), e)

-- one letter more on both sides keeps the order, whatever the letters
pub one_letter_more : (x y : Path) (a b : ℕ) → Before x y → Before (more x a) (more y b)
one_letter_more x y a b (shorter h) = shorter (omega (arith, length-append x.word (a ∷ []), length-append y.word (b ∷ []), h))
one_letter_more x y a b (lower e h) = lower (one_longer x.word y.word a b e) h
one_letter_more x y a b (earlier e s h) = earlier (one_longer x.word y.word a b e) s (first_more x.word y.word a b h)

pub last_letter : (x : Path) (a b : ℕ) → a < b → Before (more x a) (more x b)
last_letter x a b h = earlier (one_longer x.word x.word a b refl) refl (first_last x.word a b h)

pub same_letter_more : (x y : Path) (a : ℕ) → AtMost x y → AtMost (more x a) (more y a)
same_letter_more x y a (inl e) = inl (ap (λ p. more p a) e)
same_letter_more x y a (inr h) = inr (one_letter_more x y a a h)

pub at_most_chained : (x y z : Path) → AtMost x y → AtMost y z → AtMost x z
at_most_chained x y z (inl e) k = subst (λ p. AtMost p z) (sym e) k
at_most_chained x y z (inr h) (inl e) = inr (subst (λ p. Before x p) e h)
at_most_chained x y z (inr h) (inr k) = inr (chained x y z h k)

pub at_most_before : (x y z : Path) → AtMost x y → Before y z → Before x z
at_most_before x y z (inl e) k = subst (λ p. Before p z) (sym e) k
at_most_before x y z (inr h) k = chained x y z h k

abbrev pub longer : Path → List ℕ → Path
longer x w = record { start = x.start; word = x.word ++ w }

pub no_more : (x : Path) → longer x [] ≡ x
no_more x = ap (λ w. record { start = x.start; word = w }) (append-nil x.word)

pub one_then : (x : Path) (l : ℕ) (w : List ℕ) → longer (more x l) w ≡ longer x (l ∷ w)
one_then x l w = ap (λ v. record { start = x.start; word = v }) (append_assoc x.word (l ∷ []) w)

-- what is before a start has no letters, so it is before every path with a letter
pub before_letters : (x y : Path) (n l : ℕ) → Before x (start_path n) → Before x (more y l)
before_letters x y n l (shorter h) = absurd (omega (arith, h))
before_letters x y n l (lower e h) = shorter (omega (arith, e, length-append y.word (l ∷ [])))
before_letters x y n l (earlier e s h) = shorter (omega (arith, e, length-append y.word (l ∷ [])))
