-- What is written of a table: `empty` exactly if nothing solves its set, and else the one fixed solution, which solves it.
use Rattle.std.proofs.Common.{◌≡◌, ℕ, zero, suc, ◌+◌, ◌-◌, ◌*◌, ◌/◌, ◌%◌, ◌^◌, ◌≤◌, ◌<◌, Bool, true, false, List}
use Rattle.std.proofs.Common.{[], ◌∷◌, ◌++◌, length, codes, Option, None, inl, inr, arith, refl, ◌∙◌, sym, ap, ap₂, subst}
use Rattle.std.proofs.Math.IntN.{ℤ, pos, ◌+ℤ◌, ◌*ℤ◌}
use Rattle.std.proofs.Math.Nat.{pow-zero, pow-suc, zero-div, zero-mod}
use Rattle.std.specs.Prelude.{slice_index, All, IsTrue, ◌↔◌}
use Rattle.std.specs.List.{slice_index_or}
use Rattle.std.proofs.lemmas.Int.{ints}
use Rattle.std.proofs.lemmas.List.{ext_get_or}
use Rattle.std.proofs.lemmas.Bool.{false≢true}
use Rattle.integer_laws.specs.Vectors.{scale}
use Rattle.integer_laws.proofs.Entries.{scale-vector_from, vector_from_same}
use Rattle.graph_laws.specs.Paths.{Path}
use Rattle.lash_model.specs.Formulas.{Sort, Formula}
use Rattle.lash_model.specs.Letters.{digit, digits}
use Rattle.lash_model.specs.Lassos.{Lasso, IsLasso, denominator, numerator, numerators}
use Rattle.lash_model.specs.Meaning.{Solves}
use Rattle.lash_model.specs.Words.{spelled, value, values}
use Rattle.lash_model.specs.Tables.{Table, letters, fracs, IsTable, IsDiagram}
use Rattle.lash_model.specs.Acceptance.{accepts_word, accepts_lasso}
use Rattle.lash_model.specs.Standing.{StandsForWhole, StandsForMixed, StandsFor, all_int}
use Rattle.fraction_codes.specs.declared.ratio.Ratio.{Ratio}
use Rattle.fraction_codes.proofs.ReadingOn.{denominator_positive}
use Rattle.part_laws.proofs.BothKinds.{one_kind}
use Rattle.solution_pick.specs.FractionSolutions.{AcceptsNoLasso, IsFixedSolution}
use Rattle.solution_pick.specs.Solutions.{AcceptsNothing}
use Rattle.solution_pick.proofs.Accepted.{not_both, one_path}
use Rattle.solution_pick.proofs.FixedSolutions.{fixed_accepted, not_both_kinds, one_lasso}
use Rattle.set_answers.specs.Agreement.{IsEmptySet}
use Rattle.set_answers.specs.Solving.{AreFound, has_fractions, solution_text, IsEmptyTable, IsLeastWhole, IsFixed, IsSolutionText, IsSolved}
use Rattle.set_answers.proofs.SortKinds.{AreWhole, AreMixed, kind_of, of_sorts}
use Rattle.set_answers.proofs.SamePoints.{SolvesAt, lasso_vector, point_of, solves_there}
use Rattle.set_answers.proofs.SolvingWords.{word_of, values_vector, scaled}
use Rattle.set_answers.proofs.UniqueValues.{found_is_one}

-- ---- nothing is accepted exactly if nothing solves the set
pub not_said : (P : Type 0) (answer : Bool) → IsTrue answer ↔ P → (P → ⊥) → answer ≡ false
not_said P true h none = absurd (none (h.0 refl))
not_said P false h none = refl

-- of a diagram: what the set has of a word's values, over n tracks
pub of_word : (t : Table) (n : ℕ) (f : Formula) → t.tracks ≡ n → StandsForWhole t (Solves (all_int n) f) → (sign : ℕ) (w : List ℕ) → sign < 2 ^ t.tracks
    → All (λ l. l < letters t) w
    → IsTrue (accepts_word t sign w) ↔ Solves (all_int n) f (values t.base n sign w) 1
of_word t n f e s sign w lt a = subst (λ k. IsTrue (accepts_word t sign w) ↔ Solves (all_int n) f (values t.base k sign w) 1) e (s.each sign w lt a)

nothing_solves : (t : Table) (n : ℕ) (f : Formula) → IsTable t → t.tracks ≡ n → StandsForWhole t (Solves (all_int n) f) → AcceptsNothing t
    → IsEmptySet (all_int n) f
nothing_solves t n f h e s none ns d v solved =
    let x = word_of t.base n ns d h.shape.base_low v solved.1 in
    let sign_in : x.sign < 2 ^ t.tracks = subst (λ k. x.sign < 2 ^ k) (sym e) x.sign_below in
    let word_in : All (λ l. l < letters t) x.word = subst (λ k. All (λ l. l < t.base ^ k) x.word) (sym e) x.letters in
    false≢true (sym (none x.sign x.word sign_in word_in) ∙ (of_word t n f e s x.sign x.word sign_in word_in).1 ((x.same f).0 solved))

accepts_nothing : (t : Table) (n : ℕ) (f : Formula) → t.tracks ≡ n → StandsForWhole t (Solves (all_int n) f) → IsEmptySet (all_int n) f → AcceptsNothing t
accepts_nothing t n f e s empty sign w lt a =
    not_said (Solves (all_int n) f (values t.base n sign w) 1) (accepts_word t sign w) (of_word t n f e s sign w lt a)
    (empty (values t.base n sign w) 1 (values_vector t.base n sign w))

-- of a table with fraction states: what the set has of a lasso's vector
pub of_lasso : (t : Table) (sorts : List Sort) (f : Formula) → t.tracks ≡ length sorts → StandsForMixed t (Solves sorts f) → (x : Lasso)
    → IsLasso t.base t.tracks x
    → IsTrue (accepts_lasso t x) ↔ SolvesAt sorts f t.base x
of_lasso t sorts f e s x v = subst (λ k. IsTrue (accepts_lasso t x) ↔ Solves sorts f (numerators t.base k x) (denominator t.base x)) e (s.each x v)

no_lasso_solves : (t : Table) (sorts : List Sort) (f : Formula) → IsTable t → t.tracks ≡ length sorts → StandsForMixed t (Solves sorts f)
    → AcceptsNoLasso t → IsEmptySet sorts f
no_lasso_solves t sorts f h e s none ns d v solved =
    let p = point_of t.base (length sorts) ns d h.shape.base_low v.positive v.count in
    let range : IsLasso t.base t.tracks p.lasso = subst (λ k. IsLasso t.base k p.lasso) (sym e) p.in_range in
    false≢true (sym (none p.lasso range) ∙ (of_lasso t sorts f e s p.lasso range).1 ((solves_there sorts f t.base ns d p).0 solved))

accepts_no_lasso : (t : Table) (sorts : List Sort) (f : Formula) → IsTable t → t.tracks ≡ length sorts → StandsForMixed t (Solves sorts f)
    → IsEmptySet sorts f → AcceptsNoLasso t
accepts_no_lasso t sorts f h e s empty x v =
    not_said (SolvesAt sorts f t.base x) (accepts_lasso t x) (of_lasso t sorts f e s x v)
    (empty (numerators t.base (length sorts) x) (denominator t.base x)
    (lasso_vector sorts t.base x h.shape.base_low (subst (λ k. IsLasso t.base k x) e v)))

first_apart : (xs : List ℕ) → codes "empty\n" ≡ codes "solution\n" ++ xs → ⊥
first_apart xs e = let first : 101 ≡ 115 = ap (λ ys. slice_index ys 0) e in omega (arith, first)

no_solution_text : (vars : List (List ℕ × Sort)) (t : Table) → IsSolutionText vars t (codes "empty\n") → ⊥
unfolding solution_text
no_solution_text vars t s = first_apart _ s.is

-- only the kind of the table tells which of the two is meant
as_diagram : (t : Table) → IsDiagram t → IsEmptyTable t → AcceptsNothing t
as_diagram t none h = elim h [ inl x ↦ x.1 | inr y ↦ absurd (one_kind t none y.0) ]

as_mixed : (t : Table) → 0 < fracs t → IsEmptyTable t → AcceptsNoLasso t
as_mixed t some h = elim h [ inl x ↦ absurd (one_kind t x.0 some) | inr y ↦ y.1 ]

written_if : (vars : List (List ℕ × Sort)) (t : Table) (P : Type 0) → (IsEmptyTable t → P) → (P → IsEmptyTable t) → IsSolved vars t (codes "empty\n") ↔ P
written_if vars t P there back = (
  λ written. elim written [ inl none ↦ there none.0 | inr text ↦ absurd (no_solution_text vars t text) ],
  λ empty. inl (back empty, refl),
)

diagram_empty : (vars : List (List ℕ × Sort)) (t : Table) (n : ℕ) (f : Formula) → IsTable t → t.tracks ≡ n → StandsForWhole t (Solves (all_int n) f)
    → IsSolved vars t (codes "empty\n") ↔ IsEmptySet (all_int n) f
diagram_empty vars t n f h e s = written_if vars t (IsEmptySet (all_int n) f) (λ none. nothing_solves t n f h e s (as_diagram t s.diagram none))
    (λ empty. inl (s.diagram, accepts_nothing t n f e s empty))

mixed_empty : (vars : List (List ℕ × Sort)) (t : Table) (sorts : List Sort) (f : Formula) → IsTable t → t.tracks ≡ length sorts
    → StandsForMixed t (Solves sorts f)
    → IsSolved vars t (codes "empty\n") ↔ IsEmptySet sorts f
mixed_empty vars t sorts f h e s = written_if vars t (IsEmptySet sorts f) (λ none. no_lasso_solves t sorts f h e s (as_mixed t s.fractions none))
    (λ empty. inr (s.fractions, accepts_no_lasso t sorts f h e s empty))

pub empty_is_written : (vars : List (List ℕ × Sort)) (t : Table) (sorts : List Sort) (f : Formula) → IsTable t → t.tracks ≡ length sorts
    → StandsFor t sorts f → IsSolved vars t (codes "empty\n") ↔ IsEmptySet sorts f
empty_is_written vars t sorts f h e s = elim (kind_of sorts) [
  | inl kind ↦ of_sorts (λ ss. StandsForWhole t (Solves ss f) → IsSolved vars t
      (codes "empty\n") ↔ IsEmptySet ss f) sorts kind.sorts_are (diagram_empty vars t (length sorts) f h e) (kind.stands t f s)
  | inr kind ↦ mixed_empty vars t sorts f h e (kind.stands t f s)
]

-- ---- the fixed solution solves the set
zero_at : (r n i x : ℕ) → x ≡ 0 → slice_index (digits r n x) i ≡ 0
unfolding digits
zero_at r zero i x e = refl
zero_at r (suc n) zero x e = ap (λ y. y / r ^ n) e ∙ zero-div (r ^ n)
zero_at r (suc n) (suc i) x e = zero_at r n i (x % r ^ n) (ap (λ y. y % r ^ n) e ∙ zero-mod (r ^ n))

no_digit : (r n i : ℕ) → digit r n i 0 ≡ 0
unfolding digit
no_digit r n i = zero_at r n i 0 refl

-- the lasso of a word and the fraction 0
ended : ℕ → List ℕ → Lasso
ended sign w = record { sign = sign; whole = w; stem = []; cycle = 0 ∷ [] }

by_powers : (c a b : ℕ) → a ≡ 1 → b ≡ suc (suc c) → a * (b - 1) ≡ suc c
by_powers c a b e f = ap (λ x. x * (b - 1)) e ∙ omega (arith, f)

first_power : (r : ℕ) → r ^ 1 ≡ r
first_power r = pow-suc r 0 ∙ ap (λ p. p * r) (pow-zero r) ∙ once r
  where
    once : (r : ℕ) → 1 * r ≡ r
    once r = omega arith

ended_denominator : (c sign : ℕ) (w : List ℕ) → denominator (suc (suc c)) (ended sign w) ≡ suc c
unfolding denominator ended
ended_denominator c sign w = by_powers c (suc (suc c) ^ 0) (suc (suc c) ^ 1) (pow-zero (suc (suc c))) (first_power (suc (suc c)))

rest_is_nothing : (r n i : ℕ) → (r ^ 1 - 1) * spelled r n i [] + spelled r n i (0 ∷ []) ≡ 0
unfolding spelled
rest_is_nothing r n i = ap (λ g. (r ^ 1 - 1) * 0 + (g * r ^ 0 + 0)) (no_digit r n i) ∙ nothing (r ^ 1 - 1) (r ^ 0)
  where
    nothing : (a b : ℕ) → a * 0 + (0 * b + 0) ≡ 0
    nothing a b = omega arith

plus_nothing : (x : ℤ) → x +ℤ pos 0 ≡ x
plus_nothing x = omega (arith, ints)

ended_numerator : (c n i sign : ℕ) (w : List ℕ) → numerator (suc (suc c)) n i (ended sign w) ≡ pos (suc c) *ℤ value (suc (suc c)) n i sign w
unfolding numerator ended
ended_numerator c n i sign w =
    ap (λ k. (pos (denominator (suc (suc c)) (ended sign w)) *ℤ value (suc (suc c)) n i sign w) +ℤ pos k) (rest_is_nothing (suc (suc c)) n i)
    ∙ plus_nothing (pos (denominator (suc (suc c)) (ended sign w)) *ℤ value (suc (suc c)) n i sign w)
    ∙ ap (λ k. pos k *ℤ value (suc (suc c)) n i sign w) (ended_denominator c sign w)

ended_numerators : (c n sign : ℕ) (w : List ℕ) → numerators (suc (suc c)) n (ended sign w) ≡ scale (suc c) (values (suc (suc c)) n sign w)
ended_numerators c n sign w =
    vector_from_same (λ i. numerator (suc (suc c)) n i (ended sign w)) (λ i. pos (suc c) *ℤ value (suc (suc c)) n i sign w) 0 n
    (λ i low inside. ended_numerator c n i sign w)
    ∙ sym (scale-vector_from (suc c) (λ i. value (suc (suc c)) n i sign w) 0 n)

-- a fixed solution is such a lasso
lasso_with : ℕ → List ℕ → List ℕ → List ℕ → Lasso
lasso_with sign w stem cycle = record { sign = sign; whole = w; stem = stem; cycle = cycle }

fixed_is_ended : (t : Table) (x : Lasso) → IsLeastWhole t x → x ≡ ended x.sign x.whole
unfolding ended lasso_with
fixed_is_ended t x h = ap (λ u. lasso_with x.sign x.whole u x.cycle) h.stem ∙ ap (λ v. lasso_with x.sign x.whole [] v) h.cycle

ended_solves : (r n sign : ℕ) (w : List ℕ) (f : Formula) → 2 ≤ r → Solves (all_int n) f (values r n sign w) 1
    → Solves (all_int n) f (numerators r n (ended sign w)) (denominator r (ended sign w))
ended_solves zero n sign w f h s = absurd (omega (arith, h))
ended_solves (suc zero) n sign w f h s = absurd (omega (arith, h))
ended_solves (suc (suc c)) n sign w f h s =
    subst (λ d. Solves (all_int n) f (numerators (suc (suc c)) n (ended sign w)) d) (sym (ended_denominator c sign w))
    ((scaled n f c (values (suc (suc c)) n sign w) (numerators (suc (suc c)) n (ended sign w)) (ended_numerators c n sign w)).1 s)

least_solves : (t : Table) (n : ℕ) (f : Formula) (x : Lasso) → IsTable t → t.tracks ≡ n → IsLeastWhole t x → StandsForWhole t (Solves (all_int n) f)
    → Solves (all_int n) f (numerators t.base n x) (denominator t.base x)
least_solves t n f x h e fixed s =
    subst (λ y. Solves (all_int n) f (numerators t.base n y) (denominator t.base y)) (sym (fixed_is_ended t x fixed))
    (ended_solves t.base n x.sign x.whole f h.shape.base_low
    ((of_word t n f e s x.sign x.whole fixed.least.sign_in fixed.least.letters_in).0 fixed.least.accepted))

-- only the kind of the table tells which of the two is meant
as_least : (t : Table) (x : Lasso) → IsDiagram t → IsFixed t x → IsLeastWhole t x
as_least t x none h = elim h [ inl a ↦ a.1 | inr b ↦ absurd (one_kind t none b.0) ]

as_fixed : (t : Table) (x : Lasso) → 0 < fracs t → IsFixed t x → IsFixedSolution t x
as_fixed t x some h = elim h [ inl a ↦ absurd (one_kind t a.0 some) | inr b ↦ b.1 ]

pub fixed_solves : (t : Table) (sorts : List Sort) (f : Formula) (x : Lasso) → IsTable t → t.tracks ≡ length sorts → StandsFor t sorts f → IsFixed t x
    → SolvesAt sorts f t.base x
fixed_solves t sorts f x h e s fixed = elim (kind_of sorts) [ inl kind ↦ by_words kind | inr kind ↦ by_lassos kind ]
  where
    by_words : AreWhole sorts → SolvesAt sorts f t.base x
    by_words kind =
        let stands : StandsForWhole t (Solves sorts f) = kind.stands t f s in
        of_sorts (λ ss. StandsForWhole t (Solves ss f) → Solves ss f (numerators t.base (length sorts) x) (denominator t.base x)) sorts kind.sorts_are
        (least_solves t (length sorts) f x h e (as_least t x stands.diagram fixed)) stands

    by_lassos : AreMixed sorts → SolvesAt sorts f t.base x
    by_lassos kind =
        let stands : StandsForMixed t (Solves sorts f) = kind.stands t f s in
        let is : IsFixedSolution t x = as_fixed t x stands.fractions fixed in
        (of_lasso t sorts f e stands x is.range).0 (fixed_accepted t x is)

-- ---- one answer
one_least : (t : Table) (x y : Lasso) → IsLeastWhole t x → IsLeastWhole t y → x ≡ y
one_least t x y a b =
    let path = one_path t x.sign y.sign x.whole y.whole a.least b.least in
    fixed_is_ended t x a ∙ ap₂ ended (ap (λ (p : Path). p.start) path) (ap (λ (p : Path). p.word) path) ∙ sym (fixed_is_ended t y b)

one_fixed : (t : Table) (x y : Lasso) → IsFixed t x → IsFixed t y → x ≡ y
one_fixed t x y (inl a) b = one_least t x y a.1 (as_least t y a.0 b)
one_fixed t x y (inr a) b = one_lasso t x y a.1 (as_fixed t y a.0 b)

ended_positive : (r sign : ℕ) (w : List ℕ) → 2 ≤ r → 0 < denominator r (ended sign w)
ended_positive zero sign w h = absurd (omega (arith, h))
ended_positive (suc zero) sign w h = absurd (omega (arith, h))
ended_positive (suc (suc c)) sign w h = subst (λ d. 0 < d) (sym (ended_denominator c sign w)) (omega arith)

some_denominator : (t : Table) (x : Lasso) → 2 ≤ t.base → IsFixed t x → 0 < denominator t.base x
some_denominator t x low (inl a) = subst (λ y. 0 < denominator t.base y) (sym (fixed_is_ended t x a.1)) (ended_positive t.base x.sign x.whole low)
some_denominator t x low (inr a) = denominator_positive t.base t.tracks x low a.1.range

founds_are_one : (r n : ℕ) (x : Lasso) (d : ℕ) (a b : List (Option Ratio)) → denominator r x ≡ d → 0 < d → AreFound r n x a → AreFound r n x b → a ≡ b
founds_are_one r n x zero a b e some h k = absurd (omega (arith, some))
founds_are_one r n x (suc c) a b e some h k = ext_get_or None a b (h.count ∙ sym k.count) (λ i lt. let inside : i < n = omega (arith, lt, h.count) in
    found_is_one r n i c x (slice_index_or a i None) (slice_index_or b i None) e (h.each i inside) (k.each i inside))

one_text : (vars : List (List ℕ × Sort)) (t : Table) (piece other : List ℕ) → 2 ≤ t.base → IsSolutionText vars t piece → IsSolutionText vars t other
    → piece ≡ other
one_text vars t piece other low a b =
    let lassos : a.lasso ≡ b.lasso = one_fixed t a.lasso b.lasso a.fixed b.fixed in
    let founds : a.found ≡ b.found = founds_are_one t.base (length vars) b.lasso (denominator t.base b.lasso) a.found b.found refl
    (some_denominator t b.lasso low b.fixed)
    (subst (λ x. AreFound t.base (length vars) x a.found) lassos a.values) b.values in
    a.is ∙ ap₂ (λ x found. solution_text vars t.base (has_fractions t) x found) lassos founds ∙ sym b.is

empty_or_fixed : (t : Table) (x : Lasso) → IsEmptyTable t → IsFixed t x → ⊥
empty_or_fixed t x (inl a) b = not_both t x.sign x.whole a.1 (as_least t x a.0 b).least
empty_or_fixed t x (inr a) b = not_both_kinds t x a.1 (as_fixed t x a.0 b)

pub one_answer : (vars : List (List ℕ × Sort)) (t : Table) (piece other : List ℕ) → IsTable t → IsSolved vars t piece → IsSolved vars t other → piece ≡ other
one_answer vars t piece other h (inl a) (inl b) = a.1 ∙ sym b.1
one_answer vars t piece other h (inl a) (inr b) = absurd (empty_or_fixed t b.lasso a.0 b.fixed)
one_answer vars t piece other h (inr a) (inl b) = absurd (empty_or_fixed t a.lasso b.0 a.fixed)
one_answer vars t piece other h (inr a) (inr b) = one_text vars t piece other h.shape.base_low a b
