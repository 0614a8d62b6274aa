-- A term on its own variables: its free places are its terms' places, and it adds up to what the term adds up to.
use Rattle.std.proofs.Common.{◌≡◌, ℕ, zero, suc, ◌+◌, ◌^◌, ◌<◌, ◌≤◌, List, [], ◌∷◌, ◌++◌, length, map, take, get_or, arith, refl, sym, ap, ap₂, ◌∙◌, subst, Bool, true, false, not, cond, nat_lt, unsigned_abs}
use mathlib.Core.Logic.{◌⊎◌, inl, inr}
use Rattle.std.proofs.Math.IntN.{ℤ, pos, ◌+ℤ◌, ◌*ℤ◌}
use Rattle.std.proofs.Math.Nat.{pow-le-pow_left, pow-le-pow_right, pow-suc}
use Rattle.std.specs.List.{All, AllPairs, AllByRecursion, filter, range_with_len}
use Rattle.std.specs.Ordering.{int_eq}
use Rattle.std.proofs.lemmas.Bool.{eq-eqb, ne_eqb, lt-ltb, cases_lt, false_from_ne_true}
use Rattle.std.proofs.lemmas.Bool.Decides.{Decides-int_eq}
use Rattle.std.proofs.lemmas.List.{take_more, length-map, get_or-map, length-take}
use Rattle.integer_laws.proofs.Entries.{entry-vector}
use Rattle.lash_model.specs.Formulas.{Linear, IsLinear, IsInside, Comparison, Atom, coefficient_sum}
use Rattle.lash_model.specs.Meaning.{total, compares, holds}
use Rattle.lash_model.specs.Tables.{Table}
use Rattle.lash_model.specs.Sets.{set_of}
use Rattle.formula_core.specs.Terms.{coefficient_at, added}
use Rattle.formula_core.specs.Counts.{free_places}
use Rattle.set_compile.specs.Conditions.{IsTermOver}
use Rattle.set_compile.specs.Kinds.{Stands}
use Rattle.set_compile.specs.Positions.{position_of, spread}
use Rattle.set_compile.specs.Steps.{numbered, own}
use Rattle.set_compile.proofs.Modes.{stands_same}
use Rattle.set_compile.proofs.Places.{Listed, at_position, position_below, unmapped, free_rise}

-- ---- the free places of a term
-- the places rise from a on and stay below b, and no coefficient is 0
abbrev Rises : ℕ → ℕ → List (ℕ × ℤ) → Type 0
Rises a b [] = Unit {0}
Rises a b (t ∷ ts) = (a ≤ t.0) × ((t.0 < b) × ((t.1 ≡ pos 0 → ⊥) × Rises (suc t.0) b ts))

later : (a c b : ℕ) (ts : List (ℕ × ℤ)) → c ≤ a → Rises a b ts → Rises c b ts
later a c b [] le h = tt
later a c b (t ∷ ts) le h = (omega (arith, le, h.0), (h.1.0, (h.1.1.0, h.1.1.1)))

rises_from : (a b : ℕ) (ts : List (ℕ × ℤ)) → AllPairs (λ s t. s.0 < t.0) ts → All (λ t. t.1 ≡ pos 0 → ⊥) ts → All (λ t. t.0 < b) ts → ((i : ℕ) (d : ℕ × ℤ) → i < length ts → a ≤ (get_or ts i d).0) → Rises a b ts
rises_from a b [] rising nonzero below low = tt
rises_from a b (t ∷ ts) rising nonzero below low = (low 0 t (omega arith), (below 0 t (omega arith), (nonzero 0 t (omega arith), rises_from (suc t.0) b ts (λ i j d lt within. rising (suc i) (suc j) d (omega (arith, lt)) (omega (arith, within))) (λ i d lt. nonzero (suc i) d (omega (arith, lt))) (λ i d lt. below (suc i) d (omega (arith, lt))) (λ i d lt. rising 0 (suc i) d (omega arith) (omega (arith, lt))))))

linear_rises : (a : Linear) (m : ℕ) → IsLinear a → All (λ t. t.0 < m) a.terms → Rises 0 m a.terms
linear_rises a m h below = rises_from 0 m a.terms h.rising h.nonzero below (λ i d lt. omega arith)

absent : (a b p : ℕ) (ts : List (ℕ × ℤ)) → Rises a b ts → p < a → coefficient_at ts p ≡ pos 0
unfolding coefficient_at
absent a b p [] h lt = refl
absent a b p (t ∷ ts) h lt = ap (λ x. cond x t.1 (coefficient_at ts p)) (ne_eqb t.0 p (λ e. omega (arith, h.0, lt, e))) ∙ absent (suc t.0) b p ts h.1.1.1 (omega (arith, h.0, lt))

abbrev tests : List (ℕ × ℤ) → ℕ → Bool
tests ts p = not (int_eq (coefficient_at ts p) (pos 0))

absent_fails : (a b p : ℕ) (ts : List (ℕ × ℤ)) → Rises a b ts → p < a → tests ts p ≡ false
absent_fails a b p ts h lt = ap (λ z. not (int_eq z (pos 0))) (absent a b p ts h lt)

first_passes : (t : ℕ × ℤ) (ts : List (ℕ × ℤ)) → (t.1 ≡ pos 0 → ⊥) → tests (t ∷ ts) t.0 ≡ true
unfolding coefficient_at
first_passes t ts some = ap (λ b. not (int_eq (cond b t.1 (coefficient_at ts t.0)) (pos 0))) (eq-eqb t.0 t.0 refl) ∙ ap not (false_from_ne_true (int_eq t.1 (pos 0)) (λ q. some ((Decides-int_eq t.1 (pos 0)).0 q)))

behind_first : (t : ℕ × ℤ) (ts : List (ℕ × ℤ)) (p : ℕ) → t.0 < p → tests (t ∷ ts) p ≡ tests ts p
unfolding coefficient_at
behind_first t ts p lt = ap (λ b. not (int_eq (cond b t.1 (coefficient_at ts p)) (pos 0))) (ne_eqb t.0 p (λ e. omega (arith, lt, e)))

same_filter : (p q : ℕ → Bool) (a n : ℕ) → ((k : ℕ) → a ≤ k → p k ≡ q k) → filter p (range_with_len a n) ≡ filter q (range_with_len a n)
same_filter p q a zero h = refl
same_filter p q a (suc n) h = ap (λ b. cond b (a ∷ filter p (range_with_len (a + 1) n)) (filter p (range_with_len (a + 1) n))) (h a (omega arith)) ∙ ap (λ xs. cond (q a) (a ∷ xs) xs) (same_filter p q (a + 1) n (λ k low. h k (omega (arith, low))))

abbrev heads : List (ℕ × ℤ) → List ℕ
heads ts = map (λ t. t.0) ts

passing_heads : (a n : ℕ) (ts : List (ℕ × ℤ)) → Rises a (a + n) ts → filter (tests ts) (range_with_len a n) ≡ heads ts
passing_heads a zero [] h = refl
passing_heads a zero (t ∷ ts) h = absurd (omega (arith, h.0, h.1.0))
passing_heads a (suc n) [] h = ap (λ b. cond b (a ∷ filter (tests []) (range_with_len (a + 1) n)) (filter (tests []) (range_with_len (a + 1) n))) (absent_fails (suc a) (suc a) a [] tt (omega arith)) ∙ passing_heads (a + 1) n [] tt
passing_heads a (suc n) (t ∷ ts) h = elim (cases_lt a t.0) [
  | inl lt ↦
      let from : Rises (a + 1) ((a + 1) + n) (t ∷ ts) = subst (λ b. Rises (a + 1) b (t ∷ ts)) (end n) (omega (arith, lt), h.1) in
      ap (λ b. cond b (a ∷ rest) rest) (absent_fails (a + 1) ((a + 1) + n) a (t ∷ ts) from (omega arith)) ∙ passing_heads (a + 1) n (t ∷ ts) from
  | inr ge ↦
      let here : a ≡ t.0 = omega (arith, ge, h.0) in
      let from : Rises (a + 1) ((a + 1) + n) ts = later (suc t.0) (a + 1) ((a + 1) + n) ts (omega (arith, here)) (subst (λ b. Rises (suc t.0) b ts) (end n) h.1.1.1) in
      ap (λ b. cond b (a ∷ rest) rest) (ap (tests (t ∷ ts)) here ∙ first_passes t ts h.1.1.0)
      ∙ ap (λ xs. a ∷ xs) (same_filter (tests (t ∷ ts)) (tests ts) (a + 1) n (λ k low. behind_first t ts k (omega (arith, low, here))) ∙ passing_heads (a + 1) n ts from)
      ∙ ap (λ k. k ∷ heads ts) here
]
  where
    rest : List ℕ
    rest = filter (tests (t ∷ ts)) (range_with_len (a + 1) n)

    end : (n : ℕ) → a + suc n ≡ (a + 1) + n
    end n = omega arith

-- the free places of an atom are its terms' places
pub free_heads : (kind : Comparison) (a : Linear) (m : ℕ) → IsLinear a → All (λ t. t.0 < m) a.terms → free_places (Atom kind a) m ≡ heads a.terms
free_heads kind a m h below = passing_heads 0 m a.terms (subst (λ b. Rises 0 b a.terms) (from_zero m) (linear_rises a m h below))
  where
    from_zero : (m : ℕ) → m ≡ 0 + m
    from_zero m = omega arith

pub free_count : (kind : Comparison) (a : Linear) (m : ℕ) → IsLinear a → All (λ t. t.0 < m) a.terms → length (free_places (Atom kind a) m) ≡ length a.terms
free_count kind a m h below = ap length (free_heads kind a m h below) ∙ length-map a.terms (λ t. t.0)

-- ---- totals
own_total : (ts : List (ℕ × ℤ)) (k : ℕ) (ns ms : List ℤ) → ((i : ℕ) → i < length ts → get_or ms (get_or ts i (0, pos 0)).0 (pos 0) ≡ get_or ns (k + i) (pos 0)) → total (numbered k ts) ns ≡ total ts ms
unfolding total
own_total [] k ns ms h = refl
own_total (t ∷ ts) k ns ms h = ap₂ (λ x y. (t.1 *ℤ x) +ℤ y) (sym (h 0 (omega arith) ∙ ap (λ i. get_or ns i (pos 0)) (omega arith))) (own_total ts (suc k) ns ms (λ i lt. h (suc i) (omega (arith, lt)) ∙ ap (λ j. get_or ns j (pos 0)) (omega arith)))

entry_listed : (vs : List ℕ) (i : ℕ) → i < length vs → Listed (get_or vs i 0) vs
entry_listed [] i lt = absurd (omega (arith, lt))
entry_listed (v ∷ vs) zero lt = inl refl
entry_listed (v ∷ vs) (suc i) lt = inr (entry_listed vs i (omega (arith, lt)))

position_at : (vs : List ℕ) (i : ℕ) → AllPairs (λ x y. x < y) vs → i < length vs → position_of vs (get_or vs i 0) ≡ i
position_at vs i rising lt = by (cases_lt q i) (cases_lt i q)
  where
    q : ℕ
    q = position_of vs (get_or vs i 0)

    within : q < length vs
    within = position_below vs (get_or vs i 0) (entry_listed vs i lt)

    same : get_or vs q 0 ≡ get_or vs i 0
    same = ap (λ xs. get_or xs q 0) (sym (unmapped vs)) ∙ at_position (λ v. v) vs (get_or vs i 0) 0 (entry_listed vs i lt)

    by : (q < i) ⊎ (i ≤ q) → (i < q) ⊎ (q ≤ i) → q ≡ i
    by (inl less) b = absurd (omega (arith, rising q i 0 less lt, same))
    by (inr a) (inl more) = absurd (omega (arith, rising i q 0 more within, same))
    by (inr a) (inr b) = omega (arith, a, b)

-- on its own variables the term adds up to what it adds up to on all
pub own_adds : (kind : Comparison) (a : Linear) (m : ℕ) (ns : List ℤ) → IsLinear a → All (λ t. t.0 < m) a.terms → total (own a).terms ns ≡ total a.terms (spread m (free_places (Atom kind a) m) ns)
own_adds kind a m ns h below = own_total a.terms 0 ns (spread m vs ns) (λ i lt.
    let place : ℕ = (get_or a.terms i (0, pos 0)).0 in
    let at : get_or vs i 0 ≡ place = ap (λ xs. get_or xs i 0) (free_heads kind a m h below) ∙ get_or-map (λ t. t.0) a.terms i (0, pos 0) 0 lt in
    entry-vector (λ p. get_or ns (position_of vs p) (pos 0)) m place (below i (0, pos 0) lt)
    ∙ ap (λ p. get_or ns (position_of vs p) (pos 0)) (sym at)
    ∙ ap (λ j. get_or ns j (pos 0)) (position_at vs i (free_rise (Atom kind a) m) (omega (arith, lt, free_count kind a m h below)) ∙ from_zero i))
  where
    vs : List ℕ
    vs = free_places (Atom kind a) m

    from_zero : (i : ℕ) → i ≡ 0 + i
    from_zero i = omega arith

pub own_stands : (kind : Comparison) (t : Table) (a : Linear) (m : ℕ) → IsLinear a → IsTermOver m a → Stands t (holds (Atom kind (own a))) → Stands t (set_of (Atom kind a) (spread m (free_places (Atom kind a) m)))
unfolding holds
own_stands kind t a m h over s = stands_same t (holds (Atom kind (own a))) (set_of (Atom kind a) (spread m (free_places (Atom kind a) m))) (λ ns d count.
    let e = own_adds kind a m ns h over.places in
    (subst (λ x. compares kind x (a.constant *ℤ pos d)) e, subst (λ x. compares kind x (a.constant *ℤ pos d)) (sym e))) s

-- ---- building the term
pub coefficient_behind : (ts : List (ℕ × ℤ)) (p : ℕ) → AllByRecursion (λ t. t.0 < p) ts → coefficient_at ts p ≡ pos 0
unfolding coefficient_at
coefficient_behind [] p h = refl
coefficient_behind (t ∷ ts) p h = ap (λ x. cond x t.1 (coefficient_at ts p)) (ne_eqb t.0 p (λ e. omega (arith, h.0, e))) ∙ coefficient_behind ts p h.1

pub added_behind : (ts : List (ℕ × ℤ)) (p : ℕ) (c : ℤ) → AllByRecursion (λ t. t.0 < p) ts → (c ≡ pos 0 → ⊥) → added ts p c ≡ ts ++ (p, c) ∷ []
unfolding added
added_behind [] p c h some = ap (λ b. cond b [] ((p, c) ∷ [])) (false_from_ne_true (int_eq c (pos 0)) (λ q. some ((Decides-int_eq c (pos 0)).0 q)))
added_behind (t ∷ ts) p c h some = ap (λ b. cond b (t ∷ added ts p c) (cond (nat_lt p t.0) (cond (int_eq c (pos 0)) (t ∷ ts) ((p, c) ∷ t ∷ ts)) (cond (int_eq (t.1 +ℤ c) (pos 0)) ts ((p, t.1 +ℤ c) ∷ ts)))) (lt-ltb t.0 p h.0) ∙ ap (λ xs. t ∷ xs) (added_behind ts p c h.1 some)

numbered_push : (k : ℕ) (ts : List (ℕ × ℤ)) (t : ℕ × ℤ) → numbered k (ts ++ t ∷ []) ≡ numbered k ts ++ (k + length ts, t.1) ∷ []
numbered_push k [] t = ap (λ i. let e : List (ℕ × ℤ) = (i, t.1) ∷ [] in e) (omega arith)
numbered_push k (s ∷ ts) t = ap (λ xs. (k, s.1) ∷ xs) (numbered_push (suc k) ts t ∙ ap (λ i. numbered (suc k) ts ++ (i, t.1) ∷ []) (omega arith))

numbered_below : (k b : ℕ) (ts : List (ℕ × ℤ)) → k + length ts ≤ b → AllByRecursion (λ t. t.0 < b) (numbered k ts)
numbered_below k b [] h = tt
numbered_below k b (t ∷ ts) h = (omega (arith, h), numbered_below (suc k) b ts (omega (arith, h)))

pub own_below : (a : Linear) → AllByRecursion (λ t. t.0 < length a.terms) (own a).terms
own_below a = numbered_below 0 (length a.terms) a.terms (omega arith)

pub front_below : (ts : List (ℕ × ℤ)) (i : ℕ) → i ≤ length ts → AllByRecursion (λ t. t.0 < i) (numbered 0 (take i ts))
front_below ts i le = numbered_below 0 i (take i ts) (omega (arith, length-take i ts, le))

pub front_more : (ts : List (ℕ × ℤ)) (i : ℕ) (d : ℕ × ℤ) → i < length ts → numbered 0 (take i ts) ++ (i, (get_or ts i d).1) ∷ [] ≡ numbered 0 (take (i + 1) ts)
front_more ts i d lt = sym (ap (numbered 0) (take_more ts i d lt) ∙ numbered_push 0 (take i ts) (get_or ts i d) ∙ ap (λ k. numbered 0 (take i ts) ++ (k, (get_or ts i d).1) ∷ []) (omega (arith, length-take i ts, lt)))

coefficients_kept : (k : ℕ) (ts : List (ℕ × ℤ)) → coefficient_sum (numbered k ts) ≡ coefficient_sum ts
unfolding coefficient_sum
coefficients_kept k [] = refl
coefficients_kept k (t ∷ ts) = ap (λ n. unsigned_abs t.1 + n) (coefficients_kept (suc k) ts)

pub own_inside : (a : Linear) → IsInside a → IsInside (own a)
own_inside a h = record { coefficients = omega (arith, coefficients_kept 0 a.terms, h.coefficients); constant = h.constant }

pub one_inside : (ts : List (ℕ × ℤ)) (i : ℕ) (d : ℕ × ℤ) → i < length ts → unsigned_abs (get_or ts i d).1 ≤ coefficient_sum ts
unfolding coefficient_sum
one_inside [] i d lt = absurd (omega (arith, lt))
one_inside (t ∷ ts) zero d lt = omega arith
one_inside (t ∷ ts) (suc i) d lt = omega (arith, one_inside ts i d (omega (arith, lt)))

-- ---- counts of tracks
below_power : (n : ℕ) → n < 2 ^ n
below_power zero = omega arith
below_power (suc n) = omega (arith, below_power n, pow-suc 2 n)

pub few_tracks : (base n : ℕ) → 2 ≤ base → base ^ n ≤ 4096 → n < 4096
few_tracks base n low few = omega (arith, below_power n, pow-le-pow_left low n, few)

pub at_most_twelve : (base n : ℕ) → 2 ≤ base → base ^ n ≤ 4096 → n < 13
at_most_twelve base n low few = elim (cases_lt n 13) [ inl lt ↦ lt | inr ge ↦ absurd (omega (arith, pow-le-pow_right {n = 2} (omega arith) {i = 13} {j = n} ge, pow-le-pow_left low n, few)) ]
