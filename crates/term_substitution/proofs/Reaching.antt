-- The places of formulas: those that bound variables reach, and those of the result.
use Rattle.std.proofs.Common.{◌≡◌, ℕ, ◌+◌, ◌-◌, ◌≤◌, ◌<◌, List, [], ◌∷◌, length, max, get_or, arith, refl, cond, Bool, true, false, ◌||◌, nat_lt}
use Rattle.std.proofs.Math.IntN.{ℤ, pos, ◌+ℤ◌, ◌*ℤ◌}
use Rattle.std.specs.List.{AllByRecursion, All}
use Rattle.std.specs.Ordering.{int_eq}
use Rattle.std.proofs.lemmas.Bool.{cond_both, ltb-true, ltb-false, true≢false}
use Rattle.std.proofs.lemmas.List.Elements.{All-from_recursion, recursion_from_All}
use Rattle.lash_model.specs.Formulas.{Linear, Formula, Atom, Not, And, Or, Exists}
use Rattle.formula_core.specs.Counts.{depth_of}
use Rattle.formula_core.specs.Terms.{in_front, added}
use Rattle.term_substitution.specs.Conditions.{IsTermOver, IsOver, HasTermsOver, IsSubstitute}
use Rattle.term_substitution.specs.Limits.{some_atom, coefficients_pass, constant_passes}
use Rattle.term_substitution.specs.Substitution.{zero_term, variable_term, image, with_scaled, with_images, substituted_term, substituted}

term_wider : (m k : ℕ) (a : Linear) → m ≤ k → IsTermOver m a → IsTermOver k a
term_wider m k a le h = record { places = λ i d lt. omega (arith, le, h.places i d lt); inside = h.inside }

max_left : (m n k : ℕ) → max m n ≤ k → m ≤ k
max_left m n k h = omega (arith, h)

max_right : (m n k : ℕ) → max m n ≤ k → n ≤ k
max_right m n k h = omega (arith, h)

-- bound variables reach no farther than the depth
reached : (f : Formula) (m k : ℕ) → m + depth_of f ≤ k + 1 → IsOver m f → HasTermsOver k f
reached (Atom kind a) m k h over = term_wider m k a (omega (arith, h)) over
reached (Not f) m k h over = reached f m k (omega (arith, h)) over
reached (And f g) m k h over = (reached f m k (omega (arith, h)) over.0, reached g m k (omega (arith, h)) over.1)
reached (Or f g) m k h over = (reached f m k (omega (arith, h)) over.0, reached g m k (omega (arith, h)) over.1)
reached (Exists s f) m k h over = reached f (m + 1) k (omega (arith, h)) over

pub reached_of : (f : Formula) (n : ℕ) → depth_of f ≤ 256 → IsOver n f → HasTermsOver (n + 256) f
reached_of f n h over = reached f n (n + 256) (omega (arith, h)) over

-- each place is below k
abbrev pub AreBelow : ℕ → List (ℕ × ℤ) → Type 0
AreBelow k ts = AllByRecursion (λ t. t.0 < k) ts

wider : (m k : ℕ) (ts : List (ℕ × ℤ)) → m ≤ k → AreBelow m ts → AreBelow k ts
wider m k [] le h = tt
wider m k (t ∷ ts) le h = (omega (arith, le, h.0), wider m k ts le h.1)

front_below : (k place : ℕ) (c : ℤ) (ts : List (ℕ × ℤ)) → place < k → AreBelow k ts → AreBelow k (in_front place c ts)
front_below k place c ts lt h = cond_both (int_eq c (pos 0)) ts ((place, c) ∷ ts) (AreBelow k) (λ _. h) (λ _. (lt, h))

pub added_below : (k : ℕ) (ts : List (ℕ × ℤ)) (place : ℕ) (c : ℤ) → place < k → AreBelow k ts → AreBelow k (added ts place c)
unfolding added
added_below k [] place c lt h = front_below k place c [] lt tt
added_below k (t ∷ ts) place c lt h = cond_both (nat_lt t.0 place) (t ∷ added ts place c) (cond (nat_lt place t.0) (in_front place c (t ∷ ts)) (in_front place (t.1 +ℤ c) ts)) (AreBelow k)
    (λ _. (h.0, added_below k ts place c lt h.1))
    (λ _. cond_both (nat_lt place t.0) (in_front place c (t ∷ ts)) (in_front place (t.1 +ℤ c) ts) (AreBelow k) (λ _. front_below k place c (t ∷ ts) lt h) (λ _. front_below k place (t.1 +ℤ c) ts lt h.1))

scaled_below : (k : ℕ) (into : List (ℕ × ℤ)) (a : ℤ) (ts : List (ℕ × ℤ)) → AreBelow k into → AreBelow k ts → AreBelow k (with_scaled into a ts)
scaled_below k into a [] h g = h
scaled_below k into a (t ∷ ts) h g = scaled_below k (added into t.0 (a *ℤ t.1)) a ts (added_below k into t.0 (a *ℤ t.1) g.0 h) g.1

-- the formula's m variables become k variables: those that are bound move behind the result's
record IsMoved (terms : List Linear) (places m k : ℕ) : Type 0 where
  substitutes : All (λ t. All (λ s. s.0 < places) t.terms) terms
  enough : places ≤ k
  shift : m + places ≡ k + length terms

one_more : {terms : List Linear} {places m k : ℕ} → IsMoved terms places m k → IsMoved terms places (m + 1) (k + 1)
one_more h = record { substitutes = h.substitutes; enough = omega (arith, h.enough); shift = omega (arith, h.shift) }

image_below : (terms : List Linear) (places m k place : ℕ) → IsMoved terms places m k → place < m → AreBelow k (image terms places place).terms
image_below terms places m k place h lt = cond_both (nat_lt place (length terms)) (get_or terms place zero_term) (variable_term (places + (place - length terms))) (λ t. AreBelow k t.terms)
    (λ e. wider places k (get_or terms place zero_term).terms h.enough (recursion_from_All (λ s. s.0 < places) (get_or terms place zero_term).terms (h.substitutes place zero_term (ltb-true place (length terms) e))))
    (λ e. (omega (arith, h.shift, lt, ltb-false place (length terms) e), tt))

images_below : (terms : List Linear) (places m k : ℕ) (into ts : List (ℕ × ℤ)) → IsMoved terms places m k → AreBelow k into → AreBelow m ts → AreBelow k (with_images terms places into ts)
images_below terms places m k into [] h below g = below
images_below terms places m k into (t ∷ ts) h below g =
    let t' = image terms places t.0 in
    images_below terms places m k (with_scaled into t.1 t'.terms) ts h (scaled_below k into t.1 t'.terms below (image_below terms places m k t.0 h g.0)) g.1

atom_over : (terms : List Linear) (places m k : ℕ) (a : Linear) → IsMoved terms places m k → IsTermOver m a → coefficients_pass (substituted_term terms places a) ≡ false → constant_passes (substituted_term terms places a) ≡ false → IsTermOver k (substituted_term terms places a)
atom_over terms places m k a h over few small = record {
  places = All-from_recursion (λ t. t.0 < k) (substituted_term terms places a).terms (images_below terms places m k [] a.terms h tt (recursion_from_All (λ t. t.0 < m) a.terms over.places));
  inside = record { coefficients = ltb-false _ _ few; constant = ltb-false _ _ small };
}

left_false : (x y : Bool) → (x || y) ≡ false → x ≡ false
left_false true y e = e
left_false false y e = refl

right_false : (x y : Bool) → (x || y) ≡ false → y ≡ false
right_false true y e = absurd (true≢false e)
right_false false y e = e

over : (f : Formula) (terms : List Linear) (places m k : ℕ) → IsMoved terms places m k → IsOver m f → some_atom coefficients_pass (substituted f terms places) ≡ false → some_atom constant_passes (substituted f terms places) ≡ false → IsOver k (substituted f terms places)
over (Atom kind a) terms places m k h o few small = atom_over terms places m k a h o few small
over (Not f) terms places m k h o few small = over f terms places m k h o few small
over (And f g) terms places m k h o few small = (over f terms places m k h o.0 (left_false _ _ few) (left_false _ _ small), over g terms places m k h o.1 (right_false _ _ few) (right_false _ _ small))
over (Or f g) terms places m k h o few small = (over f terms places m k h o.0 (left_false _ _ few) (left_false _ _ small), over g terms places m k h o.1 (right_false _ _ few) (right_false _ _ small))
over (Exists s f) terms places m k h o few small = over f terms places (m + 1) (k + 1) (one_more h) o few small

-- the result of terms over so many places is over them, where no limit is passed
pub result_placed : (f : Formula) (terms : List Linear) (places : ℕ) → All (λ t. All (λ s. s.0 < places) t.terms) terms → IsOver (length terms) f → some_atom coefficients_pass (substituted f terms places) ≡ false → some_atom constant_passes (substituted f terms places) ≡ false → IsOver places (substituted f terms places)
result_placed f terms places all o few small = over f terms places (length terms) places (record { substitutes = all; enough = omega arith; shift = omega arith }) o few small

pub result_over : (f : Formula) (terms : List Linear) (places : ℕ) → All (IsSubstitute places) terms → IsOver (length terms) f → some_atom coefficients_pass (substituted f terms places) ≡ false → some_atom constant_passes (substituted f terms places) ≡ false → IsOver places (substituted f terms places)
result_over f terms places all o few small = result_placed f terms places (λ k d lt. (all k d lt).places_below) o few small
