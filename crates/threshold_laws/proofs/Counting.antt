-- Counting the thresholds below a value: equal counts part no threshold, letters keep equal counts equal, and each count has a
-- representative.
use Rattle.std.proofs.Common.{◌≡◌, ℕ, zero, suc, ◌+◌, ◌-◌, ◌≤◌, ◌<◌, true, false, List, [], ◌∷◌, length, arith, refl, sym, ap, subst}
use Rattle.std.proofs.Math.IntN.{ℤ, pos, ◌+ℤ◌, ◌-ℤ◌, ◌*ℤ◌}
use Rattle.std.specs.Prelude.{◌≤ℤ◌, ◌<ℤ◌, int_lt}
use Rattle.std.specs.List.{slice_index_or, AllPairs}
use Rattle.std.proofs.lemmas.Int.{ints, by_lt_z}
use mathlib.Core.Logic.{inl, inr}
use Rattle.integer_laws.proofs.Ring.{floor_below, below_floor, times_comm}
use Rattle.std.proofs.lemmas.Bool.{cases_lt}
use Rattle.std.proofs.lemmas.List.{get_or_default, get_or_past}
use Rattle.threshold_laws.specs.Thresholds.{lowered_by, Among, one_if, below, representative}

lt_true : (a b : ℤ) → a <ℤ b → int_lt a b ≡ true
lt_true a b h = grind (arith, ints)

lt_false : (a b : ℤ) → b ≤ℤ a → int_lt a b ≡ false
lt_false a b h = grind (arith, ints)

lt_from_true : (a b : ℤ) → int_lt a b ≡ true → a <ℤ b
lt_from_true a b h = grind (arith, ints)

-- how many of the list are below grows with the value
pub below_grows : (ts : List ℤ) (x y : ℤ) → x ≤ℤ y → below ts x ≤ below ts y
below_grows [] x y h = omega arith
below_grows (t ∷ ts) x y h = by_lt_z t x
    (λ in_both. omega (arith, ap one_if (lt_true t x in_both), ap one_if (lt_true t y (omega (arith, ints))), below_grows ts x y h))
    (λ above. omega (arith, ap one_if (lt_false t x above), below_grows ts x y h))

-- where the counts are equal, a member below the larger value is below the smaller one
not_between : (ts : List ℤ) (x y t : ℤ) → x ≤ℤ y → below ts x ≡ below ts y → Among t ts → t <ℤ y → t <ℤ x
not_between [] x y t h e a b = absurd a
not_between (u ∷ ts) x y t h e (inl here) b = by_lt_z u x
    (λ under. subst (λ v. v <ℤ x) (sym here) under)
    (λ above. absurd (omega (arith, e, ap one_if (lt_false u x above), ap one_if (lt_true u y (subst (λ v. v <ℤ y) here b)), below_grows ts x y h)))
not_between (u ∷ ts) x y t h e (inr there) b = not_between ts x y t h (by_lt_z u x
    (λ under. omega (arith, e, ap one_if (lt_true u x under), ap one_if (lt_true u y (omega (arith, ints)))))
    (λ above. by_lt_z u y
    (λ parted. absurd (omega (arith, e, ap one_if (lt_false u x above), ap one_if (lt_true u y parted), below_grows ts x y h)))
    (λ over. omega (arith, e, ap one_if (lt_false u x above), ap one_if (lt_false u y over))))) there b

-- equal counts part no member
pub not_parted : (ts : List ℤ) (x y t : ℤ) → below ts x ≡ below ts y → Among t ts → t <ℤ y → t <ℤ x
not_parted ts x y t e a b = by_lt_z x y
    (λ under. not_between ts x y t (omega (arith, ints)) e a b)
    (λ over. omega (arith, ints))

-- what decides alike for each member counts alike
pub same_count : (ts : List ℤ) (x y : ℤ) → ((t : ℤ) → Among t ts → t <ℤ x → t <ℤ y) → ((t : ℤ) → Among t ts → t <ℤ y → t <ℤ x) → below ts x ≡ below ts y
same_count [] x y f g = refl
same_count (t ∷ ts) x y f g =
    let rest : below ts x ≡ below ts y = same_count ts x y (λ u a. f u (inr a)) (λ u a. g u (inr a)) in
    by_lt_z t x
    (λ under. omega (arith, ap one_if (lt_true t x under), ap one_if (lt_true t y (f t (inl refl) under)), rest))
    (λ above. by_lt_z t y
    (λ parted. absurd (omega (arith, ints, g t (inl refl) parted)))
    (λ over. omega (arith, ap one_if (lt_false t x above), ap one_if (lt_false t y over), rest)))

-- a member is below r * x + c exactly where the lowered member is below x
pub lowered_below : (r : ℕ) (t x c : ℤ) → 0 < r → t <ℤ ((pos r *ℤ x) +ℤ c) → (lowered_by r c t) <ℤ x
lowered_below r t x c h b = below_floor (t -ℤ c) x r h (omega (arith, ints, times_comm x (pos r)))

pub below_lowered : (r : ℕ) (t x c : ℤ) → 0 < r → (lowered_by r c t) <ℤ x → t <ℤ ((pos r *ℤ x) +ℤ c)
below_lowered r t x c h b = omega (arith, ints, times_comm x (pos r), floor_below (t -ℤ c) x r h b)

-- where the list is closed under lowering by c, equal counts stay equal
pub step_counts : (r : ℕ) (c : ℤ) (ts : List ℤ) (x y : ℤ) → 0 < r → ((t : ℤ) → Among t ts → Among (lowered_by r c t) ts) → below ts x ≡ below ts y → below ts ((pos r *ℤ x) +ℤ c) ≡ below ts ((pos r *ℤ y) +ℤ c)
step_counts r c ts x y h closed e = same_count ts ((pos r *ℤ x) +ℤ c) ((pos r *ℤ y) +ℤ c)
    (λ t a b. below_lowered r t y c h (not_parted ts y x (lowered_by r c t) (sym e) (closed t a) (lowered_below r t x c h b)))
    (λ t a b. below_lowered r t x c h (not_parted ts x y (lowered_by r c t) e (closed t a) (lowered_below r t y c h b)))

pub below_few : (ts : List ℤ) (x : ℤ) → below ts x ≤ length ts
below_few [] x = omega arith
below_few (t ∷ ts) x = by_lt_z t x
    (λ under. omega (arith, ap one_if (lt_true t x under), below_few ts x))
    (λ above. omega (arith, ap one_if (lt_false t x above), below_few ts x))

-- the count is c where the first c members are below the value and the others are not
pub count_split : (ts : List ℤ) (x : ℤ) (c : ℕ) → c ≤ length ts → ((j : ℕ) → j < c → (slice_index_or ts j (pos 0)) <ℤ x) → ((j : ℕ) → c ≤ j → j < length ts → x ≤ℤ (slice_index_or ts j (pos 0))) → below ts x ≡ c
count_split [] x zero h under above = refl
count_split [] x (suc c) h under above = absurd (omega arith)
count_split (t ∷ ts) x zero h under above = omega (arith, ap one_if (lt_false t x (above 0 (omega arith) (omega arith))), count_split ts x zero (omega arith) (λ j b. absurd (omega (arith, b))) (λ j a b. above (suc j) (omega arith) (omega (arith, b))))
count_split (t ∷ ts) x (suc c) h under above = omega (arith, ap one_if (lt_true t x (under 0 (omega arith))), count_split ts x c (omega (arith, h)) (λ j b. under (suc j) (omega (arith, b))) (λ j a b. above (suc j) (omega (arith, a)) (omega (arith, b))))

-- each count up to the length has its representative
pub below-representative : (ts : List ℤ) (c : ℕ) → AllPairs (λ x y. x <ℤ y) ts → 0 < length ts → c < length ts + 1 → below ts (representative ts c) ≡ c
below-representative ts c rising some h = elim (cases_lt c (length ts)) [
  | inl inside ↦ count_split ts (representative ts c) c (omega arith)
      (λ j b. subst (λ v. (slice_index_or ts j (pos 0)) <ℤ v) (within ts c (pos 0) (slice_index_or ts (length ts - 1) (pos 0) +ℤ pos 1) inside) (rising j c (pos 0) b inside))
      (λ j a b. subst (λ v. v ≤ℤ (slice_index_or ts j (pos 0))) (within ts c (pos 0) (slice_index_or ts (length ts - 1) (pos 0) +ℤ pos 1) inside) (at_most ts rising c j a b))
  | inr past ↦ count_split ts (representative ts c) c (omega arith)
      (λ j b. subst (λ v. (slice_index_or ts j (pos 0)) <ℤ v) (sym (get_or_past ts c (slice_index_or ts (length ts - 1) (pos 0) +ℤ pos 1) past)) (one_more (at_most ts rising j (length ts - 1) (omega (arith, b)) (omega arith))))
      (λ j a b. absurd (omega (arith, a, b)))
]
  where
    within : (ts : List ℤ) (c : ℕ) (d e : ℤ) → c < length ts → slice_index_or ts c d ≡ slice_index_or ts c e
    within ts c d e h = get_or_default ts c d e h

    one_more : {x y : ℤ} → x ≤ℤ y → x <ℤ (y +ℤ pos 1)
    one_more h = omega (arith, ints)

    at_most : (ts : List ℤ) → AllPairs (λ x y. x <ℤ y) ts → (c j : ℕ) → c ≤ j → j < length ts → (slice_index_or ts c (pos 0)) ≤ℤ (slice_index_or ts j (pos 0))
    at_most ts rising c j a b = elim (cases_lt c j) [ inl less ↦ less_at_most (rising c j (pos 0) less b) | inr not_less ↦ subst (λ k. (slice_index_or ts c (pos 0)) ≤ℤ (slice_index_or ts k (pos 0))) (same a not_less) (self (slice_index_or ts c (pos 0))) ]
      where
        less_at_most : {x y : ℤ} → x <ℤ y → x ≤ℤ y
        less_at_most h = omega (arith, ints)

        self : (x : ℤ) → x ≤ℤ x
        self x = omega (arith, ints)

        same : c ≤ j → j ≤ c → c ≡ j
        same h k = omega (arith, h, k)
