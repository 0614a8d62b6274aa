-- The coefficients of terms: where they stand and how great they are.
use Rattle.std.proofs.Common.{◌≡◌, ℕ, zero, suc, ◌+◌, ◌≤◌, ◌<◌, ◌^◌, List, [], ◌∷◌, add-one, arith, refl, cond, nat_lt, subst, sym}
use Rattle.std.proofs.Math.IntN.{ℤ, pos, ◌+ℤ◌}
use Rattle.std.specs.Prelude.{unsigned_abs}
use Rattle.std.specs.List.{AllByRecursion}
use Rattle.std.specs.Ordering.{int_eq}
use Rattle.std.proofs.lemmas.Bool.{cond_both, ltb-false, ne_eqb}
use Rattle.std.proofs.lemmas.List.Elements.{All-from_recursion}
use Rattle.lash_model.specs.Formulas.{Linear}
use Rattle.formula_core.specs.Terms.{added, in_front, coefficient_at}
use Rattle.term_substitution.specs.Conditions.{IsSubstitute}
use Rattle.term_substitution.proofs.Reaching.{AreBelow, added_below}
use Rattle.loop_laws.specs.Closures.{coefficients}
use Rattle.loop_closure.proofs.Placing.{coefficients_below}

-- no coefficient stands behind the places
pub fresh_behind : (n place : ℕ) (ts : List (ℕ × ℤ)) → AreBelow n ts → n ≤ place → coefficient_at ts place ≡ pos 0
unfolding coefficient_at
fresh_behind n place [] h le = refl
fresh_behind n place (t ∷ ts) h le = rw (ne_eqb t.0 place (λ e. omega (arith, e, h.0, le))) (fresh_behind n place ts h.1 le)

pub fresh_next : (f : ℕ → ℤ) (n place : ℕ) → n ≤ place → coefficient_at (coefficients f n) place ≡ pos 0
fresh_next f n place le = fresh_behind n place (coefficients f n) (coefficients_below f n n (omega arith)) le

pub coefficients_more : (f : ℕ → ℤ) (n : ℕ) → coefficients f (n + 1) ≡ added (coefficients f n) n (f n)
unfolding coefficients
coefficients_more f n = rw add-one refl

pub no_coefficients : (f : ℕ → ℤ) → coefficients f 0 ≡ []
unfolding coefficients
no_coefficients f = refl

-- the magnitudes of coefficients that can be put together with a formula's
abbrev pub AreSmall : List (ℕ × ℤ) → Type 0
AreSmall ts = AllByRecursion (λ t. unsigned_abs t.1 ≤ 2 ^ 88) ts

added_small : (n place : ℕ) (c : ℤ) (ts : List (ℕ × ℤ)) → AreBelow n ts → n ≤ place → unsigned_abs c ≤ 2 ^ 88 → AreSmall ts → AreSmall (added ts place c)
unfolding added
added_small n place c [] below le small h = cond_both (int_eq c (pos 0)) [] ((place, c) ∷ []) AreSmall (λ _. tt) (λ _. (small, tt))
added_small n place c (t ∷ ts) below le small h = cond_both (nat_lt t.0 place) (t ∷ added ts place c) (cond (nat_lt place t.0) (in_front place c (t ∷ ts)) (in_front place (t.1 +ℤ c) ts)) AreSmall
    (λ _. (h.0, added_small n place c ts below.1 le small h.1))
    (λ e. absurd (omega (arith, ltb-false t.0 place e, below.0, le)))

coefficients_small : (f : ℕ → ℤ) (n : ℕ) → ((i : ℕ) → i < n → unsigned_abs (f i) ≤ 2 ^ 40) → AreSmall (coefficients f n)
unfolding coefficients
coefficients_small f zero h = tt
coefficients_small f (suc n) h = added_small n n (f n) (coefficients f n) (coefficients_below f n n (omega arith)) (omega arith) (omega (arith, h n (omega arith))) (coefficients_small f n (λ i lt. h i (omega (arith, lt))))

substitute : (places : ℕ) (t : Linear) → AreBelow places t.terms → AreSmall t.terms → unsigned_abs t.constant ≤ 2 ^ 88 → IsSubstitute places t
substitute places t below small constant = record {
  places_below = All-from_recursion (λ s. s.0 < places) t.terms below;
  coefficients = All-from_recursion (λ s. unsigned_abs s.1 ≤ 2 ^ 88) t.terms small;
  constant = constant;
}

-- a row of coefficients can be put for a variable
pub early_substitute : (f : ℕ → ℤ) (n places : ℕ) (c : ℤ) → ((i : ℕ) → i < n → unsigned_abs (f i) ≤ 2 ^ 40) → n ≤ places → unsigned_abs c ≤ 2 ^ 88 → IsSubstitute places (record { terms = coefficients f n; constant = c })
early_substitute f n places c h le constant = substitute places (record { terms = coefficients f n; constant = c }) (coefficients_below f n places le) (coefficients_small f n h) constant

-- and one more coefficient with it
pub late_substitute : (f : ℕ → ℤ) (n place : ℕ) (s c : ℤ) → ((i : ℕ) → i < n → unsigned_abs (f i) ≤ 2 ^ 40) → n ≤ place → unsigned_abs s ≤ 2 ^ 88 → unsigned_abs c ≤ 2 ^ 88 → IsSubstitute (place + 1) (record { terms = added (coefficients f n) place s; constant = c })
late_substitute f n place s c h le stride constant = substitute (place + 1) (record { terms = added (coefficients f n) place s; constant = c })
    (added_below (place + 1) (coefficients f n) place s (omega arith) (coefficients_below f n (place + 1) (omega (arith, le))))
    (added_small n place s (coefficients f n) (coefficients_below f n n (omega arith)) le stride (coefficients_small f n h))
    constant

-- a multiple and a remainder
pub multiple_substitute : (place places power remainder : ℕ) (t : Linear) → place < places → power ≤ 12 → remainder < 2 ^ 32 → t ≡ record { terms = added [] place (pos power); constant = pos remainder } → IsSubstitute places t
multiple_substitute place places power remainder t lt few small e =
    subst (IsSubstitute places) (sym e) (substitute places (record { terms = added [] place (pos power); constant = pos remainder })
    (added_below places [] place (pos power) lt tt)
    (added_small 0 place (pos power) [] tt (omega arith) (omega (arith, few)) tt)
    (omega (arith, small)))
