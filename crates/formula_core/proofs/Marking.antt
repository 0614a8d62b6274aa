-- Marks for the places that terms use.
use Rattle.std.proofs.Common.{◌≡◌, ℕ, zero, suc, ◌+◌, ◌<◌, List, [], ◌∷◌, ◌++◌, length, get_or, take, replicate, ◌≤◌, arith, refl, sym, ap, ◌∙◌, cond, Bool, true, false, not, ◌||◌, nat_eq, append-nil}
use Rattle.std.proofs.Math.IntN.{ℤ, pos}
use Rattle.std.specs.List.{All, filter, range_with_len}
use Rattle.std.specs.Ordering.{int_eq}
use Rattle.std.proofs.lemmas.Bool.{false_from_ne_true}
use Rattle.std.proofs.lemmas.Bool.Decides.{Decides-int_eq}
use Rattle.std.proofs.lemmas.List.Elements.{filter-append}
use Rattle.lash_model.specs.Formulas.{Linear, IsLinear}
use Rattle.formula_core.specs.Terms.{coefficient_at}
use Rattle.formula_core.specs.Counts.{term_uses}
use Rattle.formula_core.specs.Marks.{AreMarked, appears}

-- where no coefficient is 0, a place is used exactly where a term has it
pub uses_appears : (place : ℕ) (ts : List (ℕ × ℤ)) → All (λ t. t.1 ≡ pos 0 → ⊥) ts → not (int_eq (coefficient_at ts place) (pos 0)) ≡ appears place ts
unfolding coefficient_at
uses_appears place [] h = refl
uses_appears place (t ∷ ts) h = here (nat_eq t.0 place) (uses_appears place ts (λ k d lt. h (suc k) d (omega arith)))
  where
    here : (b : Bool) → not (int_eq (coefficient_at ts place) (pos 0)) ≡ appears place ts → not (int_eq (cond b t.1 (coefficient_at ts place)) (pos 0)) ≡ (b || appears place ts)
    here true e = ap not (false_from_ne_true (int_eq t.1 (pos 0)) (λ q. h 0 t (omega arith) ((Decides-int_eq t.1 (pos 0)).0 q)))
    here false e = e

-- what was marked for all terms is marked for the term
pub marked_term : (a : Linear) (before after : List Bool) (count : ℕ) → IsLinear a → count ≡ length a.terms → AreMarked (λ place. appears place (take count a.terms)) before after → AreMarked (λ place. term_uses place a) before after
marked_term a before after count h e m = record { count = m.count; each = λ place lt. m.each place lt ∙ ap (λ b. get_or before place false || b) (ap (λ ts. appears place ts) (all count a.terms e) ∙ sym (uses_appears place a.terms h.nonzero)) }
  where
    all : (n : ℕ) (ts : List (ℕ × ℤ)) → n ≡ length ts → take n ts ≡ ts
    all n ts e = ap (λ k. take k ts) e ∙ whole ts
      where
        whole : (ts : List (ℕ × ℤ)) → take (length ts) ts ≡ ts
        whole [] = refl
        whole (t ∷ ts) = ap (λ us. t ∷ us) (whole ts)

range_more : (a n : ℕ) → range_with_len a (suc n) ≡ range_with_len a n ++ (a + n) ∷ []
range_more a zero = ap (λ k. k ∷ []) (omega arith)
range_more a (suc n) = ap (λ ks. a ∷ ks) (range_more (a + 1) n ∙ ap (λ k. range_with_len (a + 1) n ++ k ∷ []) (omega arith))

-- the numbers below the next one that pass a test
pub filter_more : (p : ℕ → Bool) (n : ℕ) → filter p (range_with_len 0 (suc n)) ≡ filter p (range_with_len 0 n) ++ cond (p n) (n ∷ []) []
filter_more p n = ap (filter p) (range_more 0 n) ∙ filter-append p (range_with_len 0 n) ((0 + n) ∷ []) ∙ ap (λ k. filter p (range_with_len 0 n) ++ cond (p k) (k ∷ []) []) (omega arith)

marked_with : (ms : List Bool) (n : ℕ) (b : Bool) (was : List ℕ) → get_or ms n false ≡ b → was ≡ filter (λ place. get_or ms place false) (range_with_len 0 n) → was ++ cond b (n ∷ []) [] ≡ filter (λ place. get_or ms place false) (range_with_len 0 (n + 1))
marked_with ms n b was e h = ap (λ xs. xs ++ cond b (n ∷ []) []) h ∙ ap (λ b. filter (λ place. get_or ms place false) (range_with_len 0 n) ++ cond b (n ∷ []) []) (sym e) ∙ sym (filter_more (λ place. get_or ms place false) n) ∙ ap (λ k. filter (λ place. get_or ms place false) (range_with_len 0 k)) (next n)
  where
    next : (n : ℕ) → suc n ≡ n + 1
    next n = omega arith

-- the place of a mark is pushed
pub marked_there : (ms : List Bool) (n : ℕ) (was now : List ℕ) → was ≡ filter (λ place. get_or ms place false) (range_with_len 0 n) → get_or ms n false ≡ true → now ≡ was ++ n ∷ [] → now ≡ filter (λ place. get_or ms place false) (range_with_len 0 (n + 1))
marked_there ms n was now h e p = p ∙ marked_with ms n true was e h

-- and no other
pub marked_not : (ms : List Bool) (n : ℕ) (was now : List ℕ) → was ≡ filter (λ place. get_or ms place false) (range_with_len 0 n) → get_or ms n false ≡ false → now ≡ was → now ≡ filter (λ place. get_or ms place false) (range_with_len 0 (n + 1))
marked_not ms n was now h e p = p ∙ sym (append-nil was) ∙ marked_with ms n false was e h

-- tests that agree below a number keep the same numbers
pub filter_agreed : (p q : ℕ → Bool) (a n : ℕ) → ((k : ℕ) → a ≤ k → k < a + n → p k ≡ q k) → filter p (range_with_len a n) ≡ filter q (range_with_len a n)
filter_agreed p q a zero h = refl
filter_agreed p q a (suc n) h = ap (λ b. cond b (a ∷ filter p (range_with_len (a + 1) n)) (filter p (range_with_len (a + 1) n))) (h a (omega arith) (omega arith)) ∙ ap (λ xs. cond (q a) (a ∷ xs) xs) (filter_agreed p q (a + 1) n (λ k low high. h k (omega arith) (omega arith)))

unmarked : (n k : ℕ) → get_or (replicate n false) k false ≡ false
unmarked zero k = refl
unmarked (suc n) zero = refl
unmarked (suc n) (suc k) = unmarked n k

-- what is marked where nothing was marked before
pub marked_free : (p : ℕ → Bool) (n : ℕ) (before after : List Bool) → before ≡ replicate n false → AreMarked p before after → filter (λ place. get_or after place false) (range_with_len 0 (length after)) ≡ filter p (range_with_len 0 n)
marked_free p n before after e m = ap (λ k. filter (λ place. get_or after place false) (range_with_len 0 k)) (m.count ∙ size) ∙ filter_agreed (λ place. get_or after place false) p 0 n (λ k low high. m.each k (omega (arith, size)) ∙ ap (λ ms. get_or ms k false || p k) e ∙ ap (λ b. b || p k) (unmarked n k))
  where
    count : (n : ℕ) → length (replicate n false) ≡ n
    count zero = refl
    count (suc n) = ap suc (count n)

    size : length before ≡ n
    size = ap length e ∙ count n

-- a buffer that was written whole
pub whole_buffer : {X : Type 0} (count : ℕ) (new rest : List X) → count ≡ length new → take count (new ++ rest) ≡ new
whole_buffer {X = X} count new rest e = ap (λ k. take k (new ++ rest)) e ∙ front new
  where
    front : (xs : List X) → take (length xs) (xs ++ rest) ≡ xs
    front [] = refl
    front (x ∷ xs) = ap (λ ys. x ∷ ys) (front xs)
