-- Fractions that are whole: their floors, and what of them stands in vectors.
use Rattle.std.proofs.Common.{◌≡◌, ℕ, zero, suc, ◌+◌, ◌*◌, ◌%◌, ◌<◌, List, length, inl, inr, arith, refl, ◌∙◌, sym, ap, subst}
use Rattle.std.proofs.Math.IntN.{ℤ, pos, negsuc, ◌+ℤ◌, ◌*ℤ◌}
use Rattle.std.specs.Prelude.{◌↔◌, ◌≤ℤ◌, nat_eq, unsigned_abs, All, IsTrue, Some, slice_get}
use Rattle.std.specs.Int.{int_rem_euclid}
use Rattle.std.specs.List.{slice_index_or}
use Prim.Native.Nat.{◌∣◌}
use Rattle.std.proofs.lemmas.Bool.{cases_lt, eqb-true, eq-eqb}
use Rattle.std.proofs.lemmas.Int.{ints, unsigned_abs-mul}
use Rattle.std.proofs.lemmas.List.{ext_get_or, get_or_default}
use Rattle.std.proofs.Math.Nat.{one-dvd}
use Rattle.std.proofs.lemmas.Nat.Gcd.{le_of_dvd, dvd_antisymm, dvd_of_mod-eq-zero, mod-eq-zero_of_dvd}
use Rattle.std.proofs.lemmas.Option.{slice_get-get_or}
use Rattle.integer_laws.specs.Vectors.{scale}
use Rattle.integer_laws.proofs.Entries.{length-vector_from, entry-vector, entry-scale}
use Rattle.integer_laws.proofs.Ring.{times_comm, times_assoc, eq_unscaled}
use Rattle.lash_model.specs.Formulas.{Sort, Formula}
use Rattle.lash_model.specs.Lassos.{Lasso}
use Rattle.lash_model.specs.Meaning.{IsWhole, Solves}
use Rattle.lash_model.specs.Words.{value, values}
use Rattle.lash_model.specs.Standing.{all_int}
use Rattle.fraction_codes.specs.Fractions.{IsSmall, floor, IsWholeTimes, IsTooFine}
use Rattle.fraction_codes.specs.FixedCodes.{Encodes}
use Rattle.fraction_codes.specs.declared.ratio.Ratio.{Ratio}
use Rattle.fraction_codes.proofs.Divisors.{multiple}
use Rattle.fraction_codes.proofs.Flooring.{floor_parts, above_below, to_above}
use Rattle.set_answers.specs.Vectors.{IsVectorOf, HasCoarseDenominator}
use Rattle.set_answers.proofs.SortKinds.{of_sorts}
use Rattle.set_answers.proofs.SolvingWords.{whole_vector, length-scale, scaled}

-- ---- one fraction
no_rest : (b m : ℕ) → b ∣ (m * 1) → m < b → m ≡ 0
no_rest b zero h lt = refl
no_rest b (suc m) h lt = absurd (omega (arith, lt, le_of_dvd some h))
  where
    some : 0 < suc m * 1
    some = omega arith

plus_nothing : (x : ℤ) → x +ℤ pos 0 ≡ x
plus_nothing x = omega (arith, ints)

-- a whole fraction is its floor
floor_is : (v : Ratio) → (pos 1) ≤ℤ v.den → IsWholeTimes 1 v → v.num ≡ floor v *ℤ v.den
floor_is v h w = floor_parts v.num v.den h ∙ ap (λ m. (floor v *ℤ v.den) +ℤ pos m)
    (no_rest (unsigned_abs v.den) (unsigned_abs (int_rem_euclid v.num v.den)) (to_above v.num v.den 1 h w) (above_below v.num v.den h))
    ∙ plus_nothing (floor v *ℤ v.den)

-- a multiple of the denominator is whole
whole_from_multiple : (v : Ratio) (m : ℤ) → v.num ≡ m *ℤ v.den → IsWholeTimes 1 v
whole_from_multiple v m e = multiple (unsigned_abs v.den) (unsigned_abs m) (unsigned_abs v.num * 1)
    (ap (λ x. x * 1) (ap unsigned_abs e ∙ unsigned_abs-mul m v.den) ∙ turned (unsigned_abs m) (unsigned_abs v.den))
  where
    turned : (a b : ℕ) → a * b * 1 ≡ b * a
    turned a b = omega arith

pub cancelled : (x y w : ℤ) → (pos 1) ≤ℤ w → x *ℤ w ≡ y *ℤ w → x ≡ y
cancelled x y (pos (suc c)) h e = eq_unscaled c x y (times_comm (pos (suc c)) x ∙ e ∙ times_comm y (pos (suc c)))
cancelled x y (pos zero) h e = absurd (omega (arith, ints, h))
cancelled x y (negsuc c) h e = absurd (omega (arith, ints, h))

pub exchanged : (a b c : ℤ) → (a *ℤ b) *ℤ c ≡ (a *ℤ c) *ℤ b
exchanged a b c = times_assoc a b c ∙ ap (λ x. a *ℤ x) (times_comm b c) ∙ sym (times_assoc a c b)

-- ---- a vector of whole fractions over a denominator is that of its values
over : (x v : ℤ) (num den : ℤ) (c : ℕ) → (pos 1) ≤ℤ den → num ≡ v *ℤ den → x *ℤ den ≡ num *ℤ pos (suc c) → x ≡ pos (suc c) *ℤ v
over x v num den c h e f = cancelled x (pos (suc c) *ℤ v) den h
    (f ∙ ap (λ z. z *ℤ pos (suc c)) e ∙ exchanged v den (pos (suc c)) ∙ ap (λ z. z *ℤ den) (times_comm v (pos (suc c))))

over_values : (r : ℕ) (vs : List Ratio) (x : Lasso) (ns : List ℤ) (c : ℕ) → All IsSmall vs → All (IsWholeTimes 1) vs → Encodes r vs x
    → IsVectorOf vs ns (suc c) → ns ≡ scale (suc c) (values r (length vs) x.sign x.whole)
over_values r vs x ns c small whole code h = ext_get_or (pos 0) ns (scale (suc c) (values r (length vs) x.sign x.whole)) (h.count ∙ sym count)
    (λ i lt. entry i (omega (arith, lt, h.count)))
  where
    count : length (scale (suc c) (values r (length vs) x.sign x.whole)) ≡ length vs
    count = length-scale (suc c) (values r (length vs) x.sign x.whole) ∙ length-vector_from (λ i. value r (length vs) i x.sign x.whole) 0 (length vs)

    entry : (i : ℕ) → i < length vs → slice_index_or ns i (pos 0) ≡ slice_index_or (scale (suc c) (values r (length vs) x.sign x.whole)) i (pos 0)
    entry i lt =
        let one : Ratio = record { num = pos 0; den = pos 1 } in
        let v : Ratio = slice_index_or vs i one in
        let here : slice_get vs i ≡ Some v = slice_get-get_or vs i one lt in
        over (slice_index_or ns i (pos 0)) (value r (length vs) i x.sign x.whole) v.num v.den c (small i one lt).positive
        (floor_is v (small i one lt).positive (whole i one lt) ∙ ap (λ z. z *ℤ v.den) (sym (code.code.whole i v here))) (h.same i v here)
        ∙ sym (entry-scale (suc c) (values r (length vs) x.sign x.whole) i
        ∙ ap (λ z. pos (suc c) *ℤ z) (entry-vector (λ j. value r (length vs) j x.sign x.whole) (length vs) i lt))

pub same_solutions : (r n : ℕ) (f : Formula) (vs : List Ratio) (x : Lasso) (ns : List ℤ) (d : ℕ) → length vs ≡ n → All IsSmall vs → All (IsWholeTimes 1) vs
    → Encodes r vs x → IsVectorOf vs ns d → Solves (all_int n) f ns d ↔ Solves (all_int n) f (values r n x.sign x.whole) 1
same_solutions r n f vs x ns zero e small whole code h = absurd (omega (arith, h.positive))
same_solutions r n f vs x ns (suc c) e small whole code h = scaled n f c (values r n x.sign x.whole) ns
    (subst (λ k. ns ≡ scale (suc c) (values r k x.sign x.whole)) e (over_values r vs x ns c small whole code h))

-- ---- a vector that solves a set of integers is of whole fractions
whole_entries : (vs : List Ratio) (n : ℕ) (ns : List ℤ) (c : ℕ) → length vs ≡ n → All IsSmall vs → IsVectorOf vs ns (suc c)
    → IsWhole (all_int n) ns (suc c) → All (IsWholeTimes 1) vs
whole_entries vs n ns c e small h w i d lt =
    let whole = whole_vector n c ns (h.count ∙ e) w in
    let v : Ratio = slice_index_or vs i d in
    let m : ℤ = slice_index_or whole.numbers i (pos 0) in
    let at : slice_index_or ns i (pos 0) ≡ pos (suc c) *ℤ m = ap (λ xs. slice_index_or xs i (pos 0)) whole.is ∙ entry-scale (suc c) whole.numbers i in
    whole_from_multiple v m (eq_unscaled c v.num (m *ℤ v.den)
    (times_comm (pos (suc c)) v.num ∙ sym (h.same i v (slice_get-get_or vs i d lt)) ∙ ap (λ z. z *ℤ v.den) at ∙ times_assoc (pos (suc c)) m v.den))

counted_is_whole : (n : ℕ) (f : Formula) (vs : List Ratio) (ns : List ℤ) (d : ℕ) → length vs ≡ n → All IsSmall vs → IsVectorOf vs ns d
    → Solves (all_int n) f ns d → All (IsWholeTimes 1) vs
counted_is_whole n f vs ns zero e small h s = absurd (omega (arith, h.positive))
counted_is_whole n f vs ns (suc c) e small h s = whole_entries vs n ns c e small h s.1

pub solved_is_whole : (sorts : List Sort) (f : Formula) (vs : List Ratio) (ns : List ℤ) (d : ℕ) → sorts ≡ all_int (length sorts) → length vs ≡ length sorts
    → All IsSmall vs → IsVectorOf vs ns d → Solves sorts f ns d → All (IsWholeTimes 1) vs
solved_is_whole sorts f vs ns d integers e small h = of_sorts (λ ss. Solves ss f ns d → All (IsWholeTimes 1) vs) sorts integers
    (counted_is_whole (length sorts) f vs ns d e small h)

-- ---- the least common denominator of whole fractions is 1
pub whole_is_coarse : (vs : List Ratio) → All (IsWholeTimes 1) vs → HasCoarseDenominator vs
whole_is_coarse vs whole = record {
  divisor = 1;
  common = record { positive = omega arith; clears = whole; least = λ k all. one-dvd k };
  coarse = omega arith;
}

-- a vector has one least common denominator
pub coarse_not_fine : (vs : List Ratio) → HasCoarseDenominator vs → IsTooFine vs → ⊥
coarse_not_fine vs h t = omega (
  arith,
  h.coarse,
  t.passes,
  dvd_antisymm (h.common.least t.denominator t.common.clears)
      (t.common.least h.divisor h.common.clears),
)

-- ---- the test
pub whole_test : (v : Ratio) (a b : ℕ) → a ≡ unsigned_abs v.num → b ≡ unsigned_abs v.den → IsTrue (nat_eq (a % b) 0) ↔ IsWholeTimes 1 v
whole_test v a b num den = (
  λ y. multiple_of (subst (λ x. x ∣ unsigned_abs v.num) den (subst (λ x. b ∣ x) num (dvd_of_mod-eq-zero b (eqb-true (a % b) 0 y)))),
  λ w. eq-eqb (a % b) 0 (mod-eq-zero_of_dvd b (subst (λ x. x ∣ a) (sym den) (subst (λ x. unsigned_abs v.den ∣ x) (once (unsigned_abs v.num) ∙ sym num) w))),
)
  where
    once : (x : ℕ) → x * 1 ≡ x
    once x = omega arith

    multiple_of : unsigned_abs v.den ∣ unsigned_abs v.num → IsWholeTimes 1 v
    multiple_of d = subst (λ x. unsigned_abs v.den ∣ x) (sym (once (unsigned_abs v.num))) d

-- what is so of the first fractions, and of one more
pub each_more : (P : Ratio → Type 0) (vs : List Ratio) (i : ℕ) (e : Ratio) → i < length vs → ((k : ℕ) (d : Ratio) → k < i → P (slice_index_or vs k d))
    → P (slice_index_or vs i e) → (k : ℕ) (d : Ratio) → k < i + 1 → P (slice_index_or vs k d)
each_more P vs i e inside before here k d lt = elim (cases_lt k i) [ inl below ↦ before k d below | inr from ↦ last (omega (arith, lt, from)) ]
  where
    last : i ≡ k → P (slice_index_or vs k d)
    last same = subst (λ j. P (slice_index_or vs j d)) same (subst P (get_or_default vs i e d inside) here)
