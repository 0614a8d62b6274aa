-- Adding a coefficient at a place: what the edit at the place gives, that the places still rise, and the sum afterwards.
use Rattle.std.proofs.Common.{◌≡◌, ℕ, zero, suc, ◌<◌, ◌≤◌, List, [], ◌∷◌, length, get_or, arith, refl, sym, ap, ◌∙◌, cond, true, false, Bool, nat_lt}
use Rattle.std.proofs.Math.IntN.{ℤ, pos, ◌+ℤ◌, ◌*ℤ◌}
use Rattle.std.proofs.Math.ListN.{set}
use Rattle.std.specs.List.{AllPairs, All, insert, remove}
use Rattle.std.specs.Ordering.{int_eq}
use Rattle.std.proofs.lemmas.Bool.{lt-ltb, le-ltb, ltb-true, ltb-false, cond_both, eq-eqb, ne_eqb, false≢true}
use Rattle.std.proofs.lemmas.Bool.Decides.{Decides-int_eq}
use Rattle.std.proofs.lemmas.Int.{ints}
use Rattle.integer_laws.proofs.Ring.{sum_times, times_comm, times_zero}
use Rattle.lash_model.specs.Formulas.{Linear, IsLinear}
use Rattle.lash_model.specs.Meaning.{total}
use Rattle.formula_core.specs.Terms.{coefficient_at, in_front, added, IsPlaceOf, with_sum}

Terms : Type 0
Terms = List (ℕ × ℤ)

-- one place on, in a list that begins with a term of a lower place
place_tail : (t : ℕ × ℤ) (ts : List (ℕ × ℤ)) (place at : ℕ) → IsPlaceOf (t ∷ ts) place (suc at) → IsPlaceOf ts place at
place_tail t ts place at h = record { within = omega (arith, h.within); before = λ k d low high. h.before (suc k) d (omega arith) (omega arith); behind = λ k d low high. h.behind (suc k) d (omega arith) (omega arith) }

head_below : (t : ℕ × ℤ) (ts : List (ℕ × ℤ)) (place at : ℕ) → IsPlaceOf (t ∷ ts) place (suc at) → t.0 < place
head_below t ts place at h = h.before 0 t (omega arith) (omega arith)

head_not_below : (t : ℕ × ℤ) (ts : List (ℕ × ℤ)) (place : ℕ) → IsPlaceOf (t ∷ ts) place 0 → place ≤ t.0
head_not_below t ts place h = h.behind 0 t (omega arith) (omega arith)

-- where no term has the place
pub added_new : (ts : List (ℕ × ℤ)) (place at : ℕ) (c : ℤ) → IsPlaceOf ts place at → ((at < length ts) × ((get_or ts at (0, pos 0)).0 ≡ place) → ⊥) → added ts place c ≡ cond (int_eq c (pos 0)) ts (insert ts at (place, c))
unfolding added
added_new [] place zero c h free = refl
added_new [] place (suc at) c h free = absurd (omega (arith, h.within))
added_new (t ∷ ts) place zero c h free =
    let above : place < t.0 = omega (arith, head_not_below t ts place h, no_equal) in
    rw (le-ltb t.0 place (omega arith)) (rw (lt-ltb place t.0 above) refl)
  where
    no_equal : t.0 ≡ place → ⊥
    no_equal e = free (omega arith, e)
added_new (t ∷ ts) place (suc at) c h free =
    rw (lt-ltb t.0 place (head_below t ts place at h)) (ap (λ us. t ∷ us) (added_new ts place at c (place_tail t ts place at h) (λ y. free (omega (arith, y.0), y.1))) ∙ through (int_eq c (pos 0)))
  where
    through : (b : Bool) → t ∷ cond b ts (insert ts at (place, c)) ≡ cond b (t ∷ ts) (insert (t ∷ ts) (suc at) (place, c))
    through true = refl
    through false = refl

-- where a term has the place
pub added_there : (ts : List (ℕ × ℤ)) (place at : ℕ) (c : ℤ) → IsPlaceOf ts place at → at < length ts → (get_or ts at (0, pos 0)).0 ≡ place → added ts place c ≡ with_sum ts at c
unfolding added
added_there [] place at c h lt e = absurd (omega arith)
added_there (t ∷ ts) place zero c h lt e = rw (le-ltb t.0 place (omega arith)) (rw (le-ltb place t.0 (omega arith)) (through (int_eq (t.1 +ℤ c) (pos 0))))
  where
    through : (b : Bool) → cond b ts ((place, t.1 +ℤ c) ∷ ts) ≡ cond b ts ((t.0, t.1 +ℤ c) ∷ ts)
    through b = ap (λ p. cond b ts ((p, t.1 +ℤ c) ∷ ts)) (sym e)
added_there (t ∷ ts) place (suc at) c h lt e =
    rw (lt-ltb t.0 place (head_below t ts place at h)) (ap (λ us. t ∷ us) (added_there ts place at c (place_tail t ts place at h) (omega arith) e) ∙ through (int_eq ((get_or ts at (0, pos 0)).1 +ℤ c) (pos 0)))
  where
    through : (b : Bool) → t ∷ cond b (remove ts at) (set ts at ((get_or ts at (0, pos 0)).0, (get_or ts at (0, pos 0)).1 +ℤ c)) ≡ cond b (remove (t ∷ ts) (suc at)) (set (t ∷ ts) (suc at) ((get_or ts at (0, pos 0)).0, (get_or ts at (0, pos 0)).1 +ℤ c))
    through true = refl
    through false = refl

-- the coefficient at a place that a term has
pub coefficient_there : (ts : List (ℕ × ℤ)) (place at : ℕ) → IsPlaceOf ts place at → at < length ts → (get_or ts at (0, pos 0)).0 ≡ place → coefficient_at ts place ≡ (get_or ts at (0, pos 0)).1
unfolding coefficient_at
coefficient_there [] place at h lt e = absurd (omega arith)
coefficient_there (t ∷ ts) place zero h lt e = rw (eq-eqb t.0 place e) refl
coefficient_there (t ∷ ts) place (suc at) h lt e = rw (ne_eqb t.0 place (λ q. omega (arith, head_below t ts place at h))) (coefficient_there ts place at (place_tail t ts place at h) (omega arith) e)

-- the places rise from a lower bound on, and no coefficient is 0
abbrev Rises : ℕ → List (ℕ × ℤ) → Type 0
Rises low [] = Unit {0}
Rises low (t ∷ ts) = (low ≤ t.0) × ((t.1 ≡ pos 0 → ⊥) × Rises (suc t.0) ts)

rises_of : (low : ℕ) (ts : List (ℕ × ℤ)) → AllPairs (λ s t. s.0 < t.0) ts → All (λ t. t.1 ≡ pos 0 → ⊥) ts → (0 < length ts → low ≤ (get_or ts 0 (0, pos 0)).0) → Rises low ts
rises_of low [] rising nonzero first = tt
rises_of low (t ∷ ts) rising nonzero first = (first (omega arith), (nonzero 0 t (omega arith), rises_of (suc t.0) ts (λ i j d h k. rising (suc i) (suc j) d (omega arith) (omega arith)) (λ k d h. nonzero (suc k) d (omega arith)) (λ h. omega (arith, rising 0 1 (0, pos 0) (omega arith) (omega arith)))))

above_low : (low : ℕ) (ts : List (ℕ × ℤ)) → Rises low ts → (k : ℕ) (d : ℕ × ℤ) → k < length ts → low ≤ (get_or ts k d).0
above_low low [] r k d h = absurd (omega arith)
above_low low (t ∷ ts) r zero d h = r.0
above_low low (t ∷ ts) r (suc k) d h = omega (arith, r.0, above_low (suc t.0) ts r.1.1 k d (omega arith))

rising_of : (low : ℕ) (ts : List (ℕ × ℤ)) → Rises low ts → AllPairs (λ s t. s.0 < t.0) ts
rising_of low [] r i j d h k = absurd (omega arith)
rising_of low (t ∷ ts) r zero zero d h k = absurd (omega arith)
rising_of low (t ∷ ts) r zero (suc j) d h k = omega (arith, above_low (suc t.0) ts r.1.1 j d (omega arith))
rising_of low (t ∷ ts) r (suc i) zero d h k = absurd (omega arith)
rising_of low (t ∷ ts) r (suc i) (suc j) d h k = rising_of (suc t.0) ts r.1.1 i j d (omega arith) (omega arith)

nonzero_of : (low : ℕ) (ts : List (ℕ × ℤ)) → Rises low ts → All (λ t. t.1 ≡ pos 0 → ⊥) ts
nonzero_of low [] r k d h = absurd (omega arith)
nonzero_of low (t ∷ ts) r zero d h = r.1.0
nonzero_of low (t ∷ ts) r (suc k) d h = nonzero_of (suc t.0) ts r.1.1 k d (omega arith)

rises_lower : (low high : ℕ) (ts : List (ℕ × ℤ)) → low ≤ high → Rises high ts → Rises low ts
rises_lower low high [] h r = tt
rises_lower low high (t ∷ ts) h r = (omega (arith, r.0), r.1)

rises_front : (low place : ℕ) (c : ℤ) (ts : List (ℕ × ℤ)) → low ≤ place → Rises (suc place) ts → Rises low (in_front place c ts)
rises_front low place c ts h r = cond_both (int_eq c (pos 0)) ts ((place, c) ∷ ts) (Rises low) (λ _. rises_lower low (suc place) ts (omega arith) r) (λ e. (h, (nonzero e, r)))
  where
    nonzero : int_eq c (pos 0) ≡ false → c ≡ pos 0 → ⊥
    nonzero e q = false≢true (sym e ∙ (Decides-int_eq c (pos 0)).1 q)

rises_added : (low : ℕ) (ts : List (ℕ × ℤ)) (place : ℕ) (c : ℤ) → low ≤ place → Rises low ts → Rises low (added ts place c)
unfolding added
rises_added low [] place c h r = rises_front low place c [] h tt
rises_added low (t ∷ ts) place c h r = cond_both (nat_lt t.0 place) (t ∷ added ts place c) (cond (nat_lt place t.0) (in_front place c (t ∷ ts)) (in_front place (t.1 +ℤ c) ts)) (Rises low)
    (λ e. (r.0, (r.1.0, rises_added (suc t.0) ts place c (omega (arith, ltb-true t.0 place e)) r.1.1)))
    (λ e. cond_both (nat_lt place t.0) (in_front place c (t ∷ ts)) (in_front place (t.1 +ℤ c) ts) (Rises low)
    (λ f. rises_front low place c (t ∷ ts) h (omega (arith, ltb-true place t.0 f), r.1))
    (λ f. rises_front low place (t.1 +ℤ c) ts h (rises_lower (suc place) (suc t.0) ts (omega (arith, ltb-false place t.0 f, ltb-false t.0 place e)) r.1.1)))

-- the places still rise, and no coefficient is 0
pub linear_added : (a : Linear) (place : ℕ) (c : ℤ) → IsLinear a → IsLinear (record { terms = added a.terms place c; constant = a.constant })
linear_added a place c h = let r : Rises 0 (added a.terms place c) = rises_added 0 a.terms place c (omega arith) (rises_of 0 a.terms h.rising h.nonzero (λ _. omega arith)) in record { rising = rising_of 0 (added a.terms place c) r; nonzero = nonzero_of 0 (added a.terms place c) r }

total_front : (place : ℕ) (c : ℤ) (ts : List (ℕ × ℤ)) (ns : List ℤ) → total (in_front place c ts) ns ≡ (c *ℤ get_or ns place (pos 0)) +ℤ total ts ns
unfolding total
total_front place c ts ns = cond_both (int_eq c (pos 0)) ts ((place, c) ∷ ts) (λ us. total us ns ≡ (c *ℤ get_or ns place (pos 0)) +ℤ total ts ns)
    (λ e. zero_times (get_or ns place (pos 0)) (total ts ns) c ((Decides-int_eq c (pos 0)).0 e)) (λ _. refl)
  where
    zero_times : (x y c : ℤ) → c ≡ pos 0 → y ≡ (c *ℤ x) +ℤ y
    zero_times x y c e = rw e (omega (arith, ints, times_comm (pos 0) x, times_zero x))

-- the sum grows by the coefficient times the entry
pub total_added : (ts : List (ℕ × ℤ)) (place : ℕ) (c : ℤ) (ns : List ℤ) → total (added ts place c) ns ≡ total ts ns +ℤ (c *ℤ get_or ns place (pos 0))
unfolding added total
total_added [] place c ns = total_front place c [] ns ∙ omega (arith, ints)
total_added (t ∷ ts) place c ns = cond_both (nat_lt t.0 place) (t ∷ added ts place c) (cond (nat_lt place t.0) (in_front place c (t ∷ ts)) (in_front place (t.1 +ℤ c) ts)) (λ us. total us ns ≡ total (t ∷ ts) ns +ℤ (c *ℤ get_or ns place (pos 0)))
    (λ _. omega (arith, ints, total_added ts place c ns))
    (λ e. cond_both (nat_lt place t.0) (in_front place c (t ∷ ts)) (in_front place (t.1 +ℤ c) ts) (λ us. total us ns ≡ total (t ∷ ts) ns +ℤ (c *ℤ get_or ns place (pos 0)))
    (λ _. omega (arith, ints, total_front place c (t ∷ ts) ns))
    (λ f. same (omega (arith, ltb-false place t.0 f, ltb-false t.0 place e))))
  where
    same : t.0 ≡ place → total (in_front place (t.1 +ℤ c) ts) ns ≡ total (t ∷ ts) ns +ℤ (c *ℤ get_or ns place (pos 0))
    same q = omega (arith, ints, total_front place (t.1 +ℤ c) ts ns, sum_times t.1 c (get_or ns place (pos 0)), ap (λ k. t.1 *ℤ get_or ns k (pos 0)) q)
