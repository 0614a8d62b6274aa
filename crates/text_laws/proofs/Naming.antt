-- Names of spellings are those of lists of variables; a list of variables that grows by one.
use Rattle.std.proofs.Common.{◌≡◌, ℕ, zero, suc, ◌<◌, Bool, true, false, List, [], ◌∷◌, ◌++◌, length, get_or, arith, refl, ◌∙◌, sym, ap}
use Rattle.std.proofs.Common.{append_assoc, append-nil, ◌⊎◌, inl, inr, ◌||◌, All, AllPairs}
use Rattle.std.specs.List.{AllByRecursion}
use Rattle.std.proofs.lemmas.List.Kept.{AllPairs-cons}
use Rattle.lash_model.specs.Formulas.{Sort, Int, Real}
use Rattle.automaton_texts.specs.Text.{variables_text}
use Rattle.formula_core.specs.Names.{IsVariableName}
use Rattle.formula_core.specs.Variables.{names_of, AreVariables}
use Rattle.text_laws.specs.Parts.{IsNewName, item_text, names_onto}
use Rattle.text_laws.specs.Spellings.{AreNew, is_real, has_real}

-- the name stands in the list
Among : List ℕ → List (List ℕ) → Type 0
Among x [] = ⊥
Among x (name ∷ names) = (x ≡ name) ⊎ Among x names

apart_of : (name x : List ℕ) (names : List (List ℕ)) → AllByRecursion (λ other. name ≡ other → ⊥) names → Among x names → name ≡ x → ⊥
unfolding Among
apart_of name x [] h m e = m
apart_of name x (other ∷ names) h (inl s) e = h.0 (e ∙ s)
apart_of name x (other ∷ names) h (inr m) e = apart_of name x names h.1 m e

named_all : (earlier : List (List ℕ)) (vs : List (List ℕ × Sort)) → AreNew earlier vs → All IsVariableName (names_of vs)
named_all earlier [] i k d lt = absurd (omega (arith, lt))
named_all earlier (v ∷ vs) i zero d lt = i.0
named_all earlier (v ∷ vs) i (suc k) d lt = named_all (v.0 ∷ earlier) vs i.2 k d (omega (arith, lt))

later_apart : (x : List ℕ) (earlier : List (List ℕ)) (vs : List (List ℕ × Sort)) → AreNew earlier vs → Among x earlier
    → All (λ name. x ≡ name → ⊥) (names_of vs)
unfolding Among
later_apart x earlier [] i m k d lt e = omega (arith, lt)
later_apart x earlier (v ∷ vs) i m zero d lt e = apart_of v.0 x earlier i.1 m (sym e)
later_apart x earlier (v ∷ vs) i m (suc k) d lt e = later_apart x (v.0 ∷ earlier) vs i.2 (inr m) k d (omega (arith, lt)) e

distinct_all : (earlier : List (List ℕ)) (vs : List (List ℕ × Sort)) → AreNew earlier vs → AllPairs (λ a b. a ≡ b → ⊥) (names_of vs)
unfolding Among
distinct_all earlier [] i = λ k j d lt inside e. omega (arith, inside)
distinct_all earlier (v ∷ vs) i = AllPairs-cons (λ a b. a ≡ b → ⊥) v.0 (names_of vs) (later_apart v.0 (v.0 ∷ earlier) vs i.2 (inl refl))
    (distinct_all (v.0 ∷ earlier) vs i.2)

-- names of a spelling are those of a list of variables
pub variables_of_names : (vs : List (List ℕ × Sort)) → AreNew [] vs → AreVariables (names_of vs)
variables_of_names vs i = record { named = named_all [] vs i; distinct = distinct_all [] vs i }

new_of : (earlier : List (List ℕ)) (vs : List (List ℕ × Sort)) → All IsVariableName (names_of vs) → AllPairs (λ a b. a ≡ b → ⊥) (names_of vs)
    → ((k : ℕ) → k < length vs → AllByRecursion (λ other. get_or (names_of vs) k [] ≡ other → ⊥) earlier) → AreNew earlier vs
new_of earlier [] named distinct apart = tt
new_of earlier (v ∷ vs) named distinct apart = (
  named 0 [] (omega arith),
  apart 0 (omega arith),
  new_of (v.0 ∷ earlier) vs (λ k d lt. named (suc k) d (omega (arith, lt)))
      (λ i j d lt inside. distinct (suc i) (suc j) d (omega (arith, lt)) (omega (arith, inside)))
      (λ k lt. (λ e. distinct 0 (suc k) [] (omega arith) (inner k lt) (sym e), apart (suc k) (omega (arith, lt)))),
)
  where
    same_length : (vs : List (List ℕ × Sort)) → length (names_of vs) ≡ length vs
    same_length [] = refl
    same_length (w ∷ ws) = ap suc (same_length ws)

    inner : (k : ℕ) → k < length vs → suc k < suc (length (names_of vs))
    inner k lt = omega (arith, lt, same_length vs)

-- and the other way round
pub names_of_variables : (vs : List (List ℕ × Sort)) → AreVariables (names_of vs) → AreNew [] vs
names_of_variables vs a = new_of [] vs a.named a.distinct (λ k lt. tt)

-- ---- one variable more
pub new_push : (earlier : List (List ℕ)) (vs : List (List ℕ × Sort)) (v : List ℕ × Sort) → AreNew earlier vs → IsNewName (names_onto earlier vs) v.0
    → AreNew earlier (vs ++ v ∷ [])
new_push earlier [] v i n = (n.0, n.1, tt)
new_push earlier (w ∷ vs) v i n = (i.0, i.1, new_push (w.0 ∷ earlier) vs v i.2 n)

pub onto_push : (earlier : List (List ℕ)) (vs : List (List ℕ × Sort)) (v : List ℕ × Sort) → names_onto earlier (vs ++ v ∷ []) ≡ v.0 ∷ names_onto earlier vs
onto_push earlier [] v = refl
onto_push earlier (w ∷ vs) v = onto_push (w.0 ∷ earlier) vs v

pub text_push : (vs : List (List ℕ × Sort)) (v : List ℕ × Sort) → variables_text (vs ++ v ∷ []) ≡ variables_text vs ++ item_text v
text_push [] v = append-nil (item_text v)
text_push (w ∷ vs) v = ap (λ t. item_text w ++ t) (text_push vs v) ∙ sym (append_assoc (item_text w) (variables_text vs) (item_text v))

-- a name is none of those read so far exactly if it is none of their list
pub apart_onto : (earlier : List (List ℕ)) (vs : List (List ℕ × Sort)) (name : List ℕ) → AllByRecursion (λ other. name ≡ other → ⊥) earlier
    → All (λ other. name ≡ other → ⊥) (names_of vs) → AllByRecursion (λ other. name ≡ other → ⊥) (names_onto earlier vs)
apart_onto earlier [] name h a = h
apart_onto earlier (v ∷ vs) name h a = apart_onto (v.0 ∷ earlier) vs name (a 0 [] (omega arith), h) (λ k d lt. a (suc k) d (omega (arith, lt)))

earlier_apart : (earlier : List (List ℕ)) (vs : List (List ℕ × Sort)) (name : List ℕ) → AllByRecursion (λ other. name ≡ other → ⊥) (names_onto earlier vs)
    → AllByRecursion (λ other. name ≡ other → ⊥) earlier
earlier_apart earlier [] name h = h
earlier_apart earlier (v ∷ vs) name h = (earlier_apart (v.0 ∷ earlier) vs name h).1

pub onto_apart : (earlier : List (List ℕ)) (vs : List (List ℕ × Sort)) (name : List ℕ) → AllByRecursion (λ other. name ≡ other → ⊥) (names_onto earlier vs)
    → All (λ other. name ≡ other → ⊥) (names_of vs)
onto_apart earlier [] name h k d lt e = omega (arith, lt)
onto_apart earlier (v ∷ vs) name h zero d lt e = (earlier_apart (v.0 ∷ earlier) vs name h).0 e
onto_apart earlier (v ∷ vs) name h (suc k) d lt e = onto_apart (v.0 ∷ earlier) vs name h k d (omega (arith, lt)) e

-- no variable is real exactly if each is an integer
real_or : (s : Sort) (r : Bool) → (is_real s || r) ≡ false → (s ≡ Int) × (r ≡ false)
real_or Int r e = (refl, e)
real_or Real r e = absurd (apart e)
  where
    apart : true ≡ false → ⊥
    apart e = cc

pub all_integers : (vs : List (List ℕ × Sort)) → has_real vs ≡ false → All (λ v. v.1 ≡ Int) vs
all_integers [] e k d lt = absurd (omega (arith, lt))
all_integers (v ∷ vs) e zero d lt = (real_or v.1 (has_real vs) e).0
all_integers (v ∷ vs) e (suc k) d lt = all_integers vs (real_or v.1 (has_real vs) e).1 k d (omega (arith, lt))

none_real : (s : Sort) (r : Bool) → s ≡ Int → r ≡ false → (is_real s || r) ≡ false
none_real s r e f = ap (λ x. is_real x || r) e ∙ f

pub no_real : (vs : List (List ℕ × Sort)) → All (λ v. v.1 ≡ Int) vs → has_real vs ≡ false
no_real [] h = refl
no_real (v ∷ vs) h = none_real v.1 (has_real vs) (h 0 v (omega arith)) (no_real vs (λ k d lt. h (suc k) d (omega (arith, lt))))
