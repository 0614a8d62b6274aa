-- Adding the coefficients of terms one after another: what is reached so far, and how much room is left.
use Rattle.std.proofs.Common.{◌≡◌, ℕ, ◌+◌, ◌*◌, ◌^◌, ◌≤◌, ◌<◌, List, [], ◌∷◌, length, drop, get_or, arith, refl, sym, ap, ◌∙◌, subst, unsigned_abs, nat_eq}
use Rattle.std.proofs.Math.IntN.{ℤ, ◌+ℤ◌, ◌*ℤ◌}
use Rattle.std.specs.List.{AllPairs, All}
use Rattle.std.proofs.lemmas.List.{drop_more}
use Rattle.lash_model.specs.Formulas.{Linear, coefficient_sum}
use Rattle.formula_core.specs.Terms.{coefficient_at, added}
use Rattle.term_substitution.specs.Substitution.{image, with_scaled, with_images}
use Rattle.term_substitution.specs.Weights.{weight_at}
use Rattle.term_substitution.proofs.Weighing.{sum_abs, coefficient_within, added_weight, where_less, product_weight, product_within, one_weight, nothing}

Terms : Type 0
Terms = List (ℕ × ℤ)

-- the products of a factor with the coefficients of a term are being added, and those of the rest are still to come
pub record IsAdding (factor : ℤ) (before items into rest : List (ℕ × ℤ)) : Type 0 where
  pub same : with_scaled before factor items ≡ with_scaled into factor rest
  pub light : (place : ℕ) → weight_at into place + unsigned_abs factor * weight_at rest place ≤ weight_at before place + unsigned_abs factor * 2 ^ 88

less_times : (c a b : ℕ) → a ≤ b → c * a ≤ c * b
less_times c a b h = grind arith

pub adding_begins : (factor : ℤ) (before items : List (ℕ × ℤ)) → AllPairs (λ s t. s.0 < t.0) items → All (λ t. unsigned_abs t.1 ≤ 2 ^ 88) items → IsAdding factor before items before items
adding_begins factor before items rising small = record {
  same = refl;
  light = λ place. omega (arith, less_times (unsigned_abs factor) (weight_at items place) (2 ^ 88) (one_weight items place (2 ^ 88) rising small));
}

next : (factor : ℤ) (before items into : List (ℕ × ℤ)) (t : ℕ × ℤ) (rest : List (ℕ × ℤ)) → IsAdding factor before items into (t ∷ rest) → IsAdding factor before items (added into t.0 (factor *ℤ t.1)) rest
next factor before items into t rest h = record {
  same = h.same;
  light = λ place. omega (arith, h.light place, product_weight into factor t rest place);
}

pub adding_next : (factor : ℤ) (before items into : List (ℕ × ℤ)) (k : ℕ) (d : ℕ × ℤ) → k < length items → IsAdding factor before items into (drop k items) → IsAdding factor before items (added into (get_or items k d).0 (factor *ℤ (get_or items k d).1)) (drop (k + 1) items)
adding_next factor before items into k d lt h = next factor before items into (get_or items k d) (drop (k + 1) items) (subst (IsAdding factor before items into) (drop_more items k d lt) h)

fits_next : (factor : ℤ) (before items into : List (ℕ × ℤ)) (t : ℕ × ℤ) (rest : List (ℕ × ℤ)) → IsAdding factor before items into (t ∷ rest) → ((place : ℕ) → weight_at before place + unsigned_abs factor * 2 ^ 88 ≤ 2 ^ 113) → unsigned_abs (coefficient_at into t.0 +ℤ (factor *ℤ t.1)) ≤ 2 ^ 113
fits_next factor before items into t rest h room = omega (arith, product_within into factor t rest, h.light t.0, room t.0)

-- the next product can be added
pub adding_fits : (factor : ℤ) (before items into : List (ℕ × ℤ)) (k : ℕ) (d : ℕ × ℤ) → k < length items → IsAdding factor before items into (drop k items) → ((place : ℕ) → weight_at before place + unsigned_abs factor * 2 ^ 88 ≤ 2 ^ 113) → unsigned_abs (coefficient_at into (get_or items k d).0 +ℤ (factor *ℤ (get_or items k d).1)) ≤ 2 ^ 113
adding_fits factor before items into k d lt h room = fits_next factor before items into (get_or items k d) (drop (k + 1) items) (subst (IsAdding factor before items into) (drop_more items k d lt) h) room

-- the images of variables are being added, and those of the rest are still to come
pub record IsPutting (terms : List Linear) (places : ℕ) (items into rest : List (ℕ × ℤ)) : Type 0 where
  pub same : with_images terms places [] items ≡ with_images terms places into rest
  pub light : (place : ℕ) → weight_at into place + coefficient_sum rest * 2 ^ 88 ≤ 2 ^ 112
  pub few : coefficient_sum rest ≤ 2 ^ 24

pub putting_begins : (terms : List Linear) (places : ℕ) (items : List (ℕ × ℤ)) → coefficient_sum items ≤ 2 ^ 24 → IsPutting terms places items [] items
putting_begins terms places items few = record {
  same = refl;
  light = λ place. omega (arith, few, nothing place);
  few = few;
}

-- one variable is next
pub record IsNext (into : List (ℕ × ℤ)) (coefficient : ℤ) : Type 0 where
  pub small : unsigned_abs coefficient ≤ 2 ^ 24
  pub room : (place : ℕ) → weight_at into place + unsigned_abs coefficient * 2 ^ 88 ≤ 2 ^ 113

first : (terms : List Linear) (places : ℕ) (items into : List (ℕ × ℤ)) (t : ℕ × ℤ) (rest : List (ℕ × ℤ)) → IsPutting terms places items into (t ∷ rest) → IsNext into t.1
unfolding coefficient_sum
first terms places items into t rest h = record {
  small = omega (arith, h.few);
  room = λ place. omega (arith, h.light place);
}

pub putting_first : (terms : List Linear) (places : ℕ) (items into : List (ℕ × ℤ)) (k : ℕ) (d : ℕ × ℤ) → k < length items → IsPutting terms places items into (drop k items) → IsNext into (get_or items k d).1
putting_first terms places items into k d lt h = first terms places items into (get_or items k d) (drop (k + 1) items) (subst (IsPutting terms places items into) (drop_more items k d lt) h)

put_next : (terms : List Linear) (places : ℕ) (items into : List (ℕ × ℤ)) (t : ℕ × ℤ) (rest : List (ℕ × ℤ)) (then : List (ℕ × ℤ)) → IsPutting terms places items into (t ∷ rest) → then ≡ with_scaled into t.1 (image terms places t.0).terms → ((place : ℕ) → weight_at then place ≤ weight_at into place + unsigned_abs t.1 * 2 ^ 88) → IsPutting terms places items then rest
unfolding coefficient_sum
put_next terms places items into t rest then h is light = record {
  same = h.same ∙ ap (λ us. with_images terms places us rest) (sym is);
  light = λ place. omega (arith, h.light place, light place);
  few = omega (arith, h.few);
}

pub putting_next : (terms : List Linear) (places : ℕ) (items into : List (ℕ × ℤ)) (k : ℕ) (d : ℕ × ℤ) (then : List (ℕ × ℤ)) → k < length items → IsPutting terms places items into (drop k items) → then ≡ with_scaled into (get_or items k d).1 (image terms places (get_or items k d).0).terms → ((place : ℕ) → weight_at then place ≤ weight_at into place + unsigned_abs (get_or items k d).1 * 2 ^ 88) → IsPutting terms places items then (drop (k + 1) items)
putting_next terms places items into k d then lt h is light = put_next terms places items into (get_or items k d) (drop (k + 1) items) then (subst (IsPutting terms places items into) (drop_more items k d lt) h) is light

-- one coefficient alone is added
pub moved_small : (into : List (ℕ × ℤ)) (a : ℤ) → ((at : ℕ) → weight_at into at + unsigned_abs a * 2 ^ 88 ≤ 2 ^ 113) → unsigned_abs a ≤ 2 ^ 114
moved_small into a room = omega (arith, room 0)

pub moved_fits : (into : List (ℕ × ℤ)) (place : ℕ) (a : ℤ) → ((at : ℕ) → weight_at into at + unsigned_abs a * 2 ^ 88 ≤ 2 ^ 113) → unsigned_abs (coefficient_at into place +ℤ a) ≤ 2 ^ 113
moved_fits into place a room = omega (arith, sum_abs (coefficient_at into place) a, coefficient_within into place, room place)

pub moved_weight : (into then : List (ℕ × ℤ)) (place : ℕ) (a : ℤ) → then ≡ added into place a → (at : ℕ) → weight_at then at ≤ weight_at into at + unsigned_abs a * 2 ^ 88
moved_weight into then place a e at = rw e (omega (arith, added_weight into place a at, where_less (nat_eq place at) (unsigned_abs a)))
