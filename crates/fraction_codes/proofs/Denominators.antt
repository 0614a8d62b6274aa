-- Common denominators: the denominator in lowest terms, one fraction more, and that there is one for each vector.
use Rattle.std.proofs.Common.{◌≡◌, ℕ, ◌+◌, ◌*◌, ◌/◌, ◌^◌, ◌≤◌, ◌<◌, List, [], ◌∷◌, ◌++◌, length, take, drop, get_or, arith, ◌∙◌, sym, ap, subst, append_assoc}
use Rattle.std.proofs.Math.IntN.{ℤ, pos, negsuc}
use Rattle.std.specs.Prelude.{All, ◌≤ℤ◌, unsigned_abs}
use Prim.Native.Nat.{◌∣◌}
use Rattle.std.proofs.Math.Nat.{one-dvd, dvd-mul_right, dvd-mul_right_of_dvd, dvd_of_mul-dvd-mul_left}
use Rattle.std.proofs.lemmas.Int.{ints}
use Rattle.std.proofs.lemmas.Nat.Gcd.{dvd_refl, dvd_trans, le_of_dvd}
use Rattle.std.proofs.lemmas.List.{append-nil, take_more, take-append-drop}
use Rattle.std.proofs.lemmas.List.Elements.{All-nil, All-cons, All-head, All-tail, All-push, All-weaker, All-drop}
use Rattle.fraction_codes.specs.declared.ratio.Ratio.{Ratio}
use Rattle.fraction_codes.specs.Fractions.{IsSmall, IsWholeTimes, IsCommonDenominator, IsTooFine}
use Rattle.fraction_codes.specs.Steps.{IsGreatestDivisor, IsLeastMultiple, IsReduced}
use Rattle.fraction_codes.proofs.Divisors.{multiple, quotient_times, factor_positive, greatest_of, greatest_positive, least_multiple_is}

pub abs_positive : (z : ℤ) → (pos 1) ≤ℤ z → 0 < unsigned_abs z
abs_positive (pos n) h = omega (arith, ints, h)
abs_positive (negsuc n) h = omega arith

-- the denominator over the greatest common divisor is the denominator in lowest terms
pub reduced_is : (v : Ratio) (g : ℕ) → IsSmall v → IsGreatestDivisor (unsigned_abs v.num) (unsigned_abs v.den) g → IsReduced v (unsigned_abs v.den / g)
reduced_is v g small is = record {
  positive = factor_positive g (unsigned_abs v.den / g) (unsigned_abs v.den) den_positive whole_den;
  small = no_greater g (unsigned_abs v.den / g) (unsigned_abs v.den) g_positive whole_den small.den;
  clears = λ k p. multiple (unsigned_abs v.den) (unsigned_abs v.num / g * (k / (unsigned_abs v.den / g))) (unsigned_abs v.num * k) (regroup (unsigned_abs v.num) (unsigned_abs v.den) g (unsigned_abs v.num / g) (unsigned_abs v.den / g) k (k / (unsigned_abs v.den / g)) whole_num whole_den (quotient_times (unsigned_abs v.den / g) k p));
  least = λ k p. dvd_of_mul-dvd-mul_left (unsigned_abs v.den / g) g_positive (subst (λ x. x ∣ (g * k)) whole_den (is.greatest (unsigned_abs v.den) k p (dvd-mul_right (unsigned_abs v.den) k)));
}
  where
    den_positive : 0 < unsigned_abs v.den
    den_positive = abs_positive v.den small.positive

    whole_num : unsigned_abs v.num ≡ g * (unsigned_abs v.num / g)
    whole_num = quotient_times g (unsigned_abs v.num) is.first

    whole_den : unsigned_abs v.den ≡ g * (unsigned_abs v.den / g)
    whole_den = quotient_times g (unsigned_abs v.den) is.second

    g_positive : 0 < g
    g_positive = greatest_positive (unsigned_abs v.num) (unsigned_abs v.den) g den_positive is

    no_greater : (g y d : ℕ) → 0 < g → d ≡ g * y → d ≤ 2 ^ 100 → y ≤ 2 ^ 100
    no_greater g y d h e l = omega (arith, l, e, more g y h)
      where
        more : (g y : ℕ) → 0 < g → y ≤ g * y
        more g y h = grind arith

    regroup : (x d g p y k m : ℕ) → x ≡ g * p → d ≡ g * y → k ≡ y * m → x * k ≡ d * (p * m)
    regroup x d g p y k m ex ed ek = ap (λ z. z * k) ex ∙ ap (λ z. g * p * z) ek ∙ turned g p y m ∙ ap (λ z. z * (p * m)) (sym ed)
      where
        turned : (g p y m : ℕ) → g * p * (y * m) ≡ g * y * (p * m)
        turned g p y m = omega arith

pub common_none : IsCommonDenominator [] 1
common_none = record { positive = omega arith; clears = All-nil (IsWholeTimes 1); least = λ k all. one-dvd k }

-- what is true of all and of one more
pub record Parted (P : Ratio → Type 0) (vs : List Ratio) (v : Ratio) : Type 0 where
  pub front : All P vs
  pub last : P v

pub parted : (P : Ratio → Type 0) (vs : List Ratio) (v : Ratio) → All P (vs ++ v ∷ []) → Parted P vs v
parted P [] v h = record { front = All-nil P; last = All-head P v [] h }
parted P (w ∷ vs) v h = let rest = parted P vs v (All-tail P w (vs ++ v ∷ []) h) in record { front = All-cons P w vs (All-head P w (vs ++ v ∷ []) h) rest.front; last = rest.last }

-- one fraction more
pub common_push : (vs : List Ratio) (v : Ratio) (d y m : ℕ) → IsCommonDenominator vs d → IsReduced v y → IsLeastMultiple d y m → IsCommonDenominator (vs ++ v ∷ []) m
common_push vs v d y m common reduced least = record {
  positive = least.positive;
  clears = All-push (IsWholeTimes m) vs v (All-weaker (IsWholeTimes d) (IsWholeTimes m) longer vs common.clears) (reduced.clears m least.second);
  least = λ k all. least.least k (common.least k (parted (IsWholeTimes k) vs v all).front) (reduced.least k (parted (IsWholeTimes k) vs v all).last);
}
  where
    spread : (n d e m : ℕ) → m ≡ d * e → n * d * e ≡ n * m
    spread n d e m h = grouped n d e ∙ ap (λ x. n * x) (sym h)
      where
        grouped : (n d e : ℕ) → n * d * e ≡ n * (d * e)
        grouped n d e = omega arith

    longer : (w : Ratio) → IsWholeTimes d w → IsWholeTimes m w
    longer w h = subst (λ x. unsigned_abs w.den ∣ x) (spread (unsigned_abs w.num) d (m / d) m (quotient_times d m least.first)) (dvd-mul_right_of_dvd (unsigned_abs w.den) h (m / d))

-- a common denominator of all, which is a multiple of that of the first
pub record Common (d : ℕ) (vs : List Ratio) : Type 0 where
  pub denominator : ℕ
  pub is : IsCommonDenominator vs denominator
  pub multiple : d ∣ denominator

pub common_more : (done rest : List Ratio) (d : ℕ) → IsCommonDenominator done d → All IsSmall rest → Common d (done ++ rest)
common_more done [] d is small = record { denominator = d; is = subst (λ vs. IsCommonDenominator vs d) (sym (append-nil done)) is; multiple = dvd_refl d }
common_more done (v ∷ rest) d is small =
    let here : IsSmall v = All-head IsSmall v rest small in
    let g = greatest_of (unsigned_abs v.num) (unsigned_abs v.den) in
    let reduced : IsReduced v (unsigned_abs v.den / g.divisor) = reduced_is v g.divisor here g.is in
    let h = greatest_of d (unsigned_abs v.den / g.divisor) in
    let least : IsLeastMultiple d (unsigned_abs v.den / g.divisor) (d / h.divisor * (unsigned_abs v.den / g.divisor)) = least_multiple_is d (unsigned_abs v.den / g.divisor) h.divisor is.positive reduced.positive h.is in
    let more = common_more (done ++ v ∷ []) rest (d / h.divisor * (unsigned_abs v.den / g.divisor)) (common_push done v d (unsigned_abs v.den / g.divisor) (d / h.divisor * (unsigned_abs v.den / g.divisor)) is reduced least) (All-tail IsSmall v rest small) in
    record {
      denominator = more.denominator;
      is = subst (λ vs. IsCommonDenominator vs more.denominator) (append_assoc done (v ∷ []) rest) more.is;
      multiple = dvd_trans d least.first more.multiple;
    }

-- each vector has one
pub common_of : (vs : List Ratio) → All IsSmall vs → Common 1 vs
common_of vs small = common_more [] vs 1 common_none small

-- where it already passes the limit for the first, it does for all
pub too_fine : (done rest : List Ratio) (d : ℕ) → IsCommonDenominator done d → All IsSmall rest → 65536 < d → IsTooFine (done ++ rest)
too_fine done rest d is small passes = let all = common_more done rest d is small in record {
  denominator = all.denominator;
  common = all.is;
  passes = omega (arith, passes, le_of_dvd all.is.positive all.multiple);
}

-- the same, of the parts by themselves
pub reduced_from : (v : Ratio) (x y g : ℕ) → IsSmall v → x ≡ unsigned_abs v.num → y ≡ unsigned_abs v.den → IsGreatestDivisor x y g → IsReduced v (y / g)
reduced_from v x y g small ex ey is =
    let P : ℕ → Type 0 = λ d. IsReduced v (d / g) in
    let Q : ℕ → Type 0 = λ n. IsGreatestDivisor n (unsigned_abs v.den) g in
    let R : ℕ → Type 0 = λ d. IsGreatestDivisor x d g in
    subst P (sym ey) (reduced_is v g small (subst Q ex (subst R ey is)))

-- one fraction more of those of a list
pub common_taken : (vs : List Ratio) (i : ℕ) (w : Ratio) (d y m : ℕ) → i < length vs → IsCommonDenominator (take i vs) d → IsReduced (get_or vs i w) y → IsLeastMultiple d y m → IsCommonDenominator (take (i + 1) vs) m
common_taken vs i w d y m h common reduced least = subst (λ xs. IsCommonDenominator xs m) (sym (take_more vs i w h)) (common_push (take i vs) (get_or vs i w) d y m common reduced least)

-- where it passes the limit for the first of a list
pub too_fine_taken : (vs : List Ratio) (i d : ℕ) → IsCommonDenominator (take i vs) d → All IsSmall vs → 65536 < d → IsTooFine vs
too_fine_taken vs i d common small passes = subst IsTooFine (take-append-drop i vs) (too_fine (take i vs) (drop i vs) d common (All-drop IsSmall i vs small) passes)
