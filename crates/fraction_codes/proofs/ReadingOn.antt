-- Reading the digits of a track on: one letter more, the room for it, and the differences of what is read up to the stem's end and
-- up to the end of one cycle.
use Rattle.std.proofs.Common.{◌≡◌, ℕ, zero, suc, ◌+◌, ◌-◌, ◌*◌, ◌/◌, ◌^◌, ◌≤◌, ◌<◌, ◌==◌, List, [], ◌∷◌, ◌++◌, length, take, get_or, arith, add-one, ◌∙◌, sym, ap, subst}
use Rattle.std.proofs.Math.IntN.{pos, ◌+ℤ◌, ◌-ℤ◌, ◌*ℤ◌}
use Rattle.std.proofs.Math.Nat.{pow-suc, pow-zero, pow-le-pow_right, mul-div_cancel_left, div-le_self}
use Rattle.std.proofs.lemmas.Nat.{pow-add}
use Rattle.std.proofs.lemmas.List.{take_more, length_push, length-take-le}
use Rattle.std.proofs.lemmas.List.Elements.{recursion_from_All}
use Rattle.integer_laws.proofs.Ring.{diff_same, diff_add, diff_sub, diff_mul, pos_diff}
use Rattle.lash_model.specs.Letters.{digit, sign_bit}
use Rattle.lash_model.specs.Words.{spelled, value}
use Rattle.lash_model.specs.Lassos.{Lasso, IsLasso, denominator, numerator}
use Rattle.lash_model.proofs.Digits.{power_positive}
use Rattle.lash_model.proofs.Numbers.{spelled_below}
use Rattle.lash_model.proofs.WordValues.{spelled-push}
use Rattle.fraction_codes.specs.declared.reading.Spelled.{Spelled}
use Rattle.fraction_codes.specs.Steps.{IsReadOn, IsTurned, turned}

pub next_power : (r n : ℕ) → r ^ (n + 1) ≡ r * r ^ n
next_power r n = rw add-one (omega (arith, pow-suc r n))

pub read_none : (r n i : ℕ) (f : Spelled) → f.number < f.power → IsReadOn r n i [] f f
unfolding spelled
read_none r n i f h = record { power = rw (pow-zero r) (omega arith); number = rw (pow-zero r) (omega arith); below = h }

pub read_push : (r n i l : ℕ) (w : List ℕ) (f t : Spelled) → digit r n i l < r → IsReadOn r n i w f t → IsReadOn r n i (w ++ l ∷ []) f (record { power = t.power * r; number = t.number * r + digit r n i l })
read_push r n i l w f t small h = record {
  power = ap (λ p. p * r) h.power ∙ powers f.power (r ^ length w) r ∙ ap (λ p. f.power * p) (sym longer);
  number = ap (λ m. m * r + digit r n i l) h.number ∙ numbers f.number (r ^ length w) r (spelled r n i w) (digit r n i l) ∙ ap (λ p. f.number * p + (r * spelled r n i w + digit r n i l)) (sym longer) ∙ ap (λ s. f.number * r ^ length (w ++ l ∷ []) + s) (sym (spelled-push r n i w l));
  below = under t.number (digit r n i l) r t.power h.below small;
}
  where
    longer : r ^ length (w ++ l ∷ []) ≡ r * r ^ length w
    longer = ap (λ k. r ^ k) (length_push w l) ∙ next_power r (length w)

    powers : (f p r : ℕ) → f * p * r ≡ f * (r * p)
    powers f p r = omega arith

    numbers : (f p r s d : ℕ) → (f * p + s) * r + d ≡ f * (r * p) + (r * s + d)
    numbers f p r s d = omega arith

    under : (m d r p : ℕ) → m < p → d < r → m * r + d < p * r
    under m d r p h k = grind arith

-- the letter at a place
pub read_more : (r n i k : ℕ) (w : List ℕ) (f t : Spelled) → k < length w → digit r n i (get_or w k 0) < r → IsReadOn r n i (take k w) f t → IsReadOn r n i (take (k + 1) w) f (record { power = t.power * r; number = t.number * r + digit r n i (get_or w k 0) })
read_more r n i k w f t h small is = subst (λ v. IsReadOn r n i v f (record { power = t.power * r; number = t.number * r + digit r n i (get_or w k 0) })) (sym (take_more w k 0 h)) (read_push r n i (get_or w k 0) (take k w) f t small is)

-- there is room for one letter more
pub read_room : (r n i k : ℕ) (w : List ℕ) (f t : Spelled) → 0 < r → k < length w → f.power * r ^ length w ≤ 2 ^ 100 → IsReadOn r n i (take k w) f t → t.power * r ≤ 2 ^ 100
read_room r n i k w f t positive h room is = omega (arith, room, one_more, within)
  where
    one_more : t.power * r ≡ f.power * r ^ (k + 1)
    one_more = ap (λ p. p * r) (is.power ∙ ap (λ m. f.power * r ^ m) (length-take-le k w (omega (arith, h)))) ∙ powers f.power (r ^ k) r ∙ ap (λ p. f.power * p) (sym (next_power r k))
      where
        powers : (f p r : ℕ) → f * p * r ≡ f * (r * p)
        powers f p r = omega arith

    scaled : (c a b : ℕ) → a ≤ b → c * a ≤ c * b
    scaled c a b h = grind arith

    within : f.power * r ^ (k + 1) ≤ f.power * r ^ length w
    within = scaled f.power (r ^ (k + 1)) (r ^ length w) (pow-le-pow_right {n = r} positive (omega (arith, h)))

-- the number with the next digit is below the next power
pub read_small : (r d : ℕ) (t : Spelled) → t.number < t.power → d < r → t.number * r + d < t.power * r
read_small r d t h k = by t.number t.power h
  where
    by : (m p : ℕ) → m < p → m * r + d < p * r
    by m p h = grind arith

-- ---- a lasso that is read up to the point, the stem's end and the end of one cycle
pub record IsLassoRead (r n i : ℕ) (x : Lasso) (point stem end : Spelled) : Type 0 where
  pub upto_point : IsReadOn r n i x.whole (record { power = 1; number = 0 }) point
  pub upto_stem : IsReadOn r n i x.stem point stem
  pub upto_end : IsReadOn r n i x.cycle stem end

-- the powers of the three words
pub point_power : (r n i : ℕ) (x : Lasso) (a b e : Spelled) → IsLassoRead r n i x a b e → a.power ≡ r ^ length x.whole
point_power r n i x a b e h = h.upto_point.power ∙ one_times (r ^ length x.whole)
  where
    one_times : (p : ℕ) → 1 * p ≡ p
    one_times p = omega arith

pub point_number : (r n i : ℕ) (x : Lasso) (a b e : Spelled) → IsLassoRead r n i x a b e → a.number ≡ spelled r n i x.whole
point_number r n i x a b e h = h.upto_point.number ∙ none (r ^ length x.whole) (spelled r n i x.whole)
  where
    none : (p s : ℕ) → 0 * p + s ≡ s
    none p s = omega arith

-- the limit on all letters is one on the first of them
pub first_room : (r w u v : ℕ) → 0 < r → r ^ (w + u + v) ≤ 2 ^ 100 → 1 * r ^ w ≤ 2 ^ 100
first_room r w u v h room = omega (arith, room, pow-le-pow_right {n = r} h (fewer w u v))
  where
    fewer : (w u v : ℕ) → w ≤ w + u + v
    fewer w u v = omega arith

pub second_room : (r w u v p : ℕ) → 0 < r → r ^ (w + u + v) ≤ 2 ^ 100 → p ≡ 1 * r ^ w → p * r ^ u ≤ 2 ^ 100
second_room r w u v p h room e = omega (arith, room, pow-le-pow_right {n = r} h (fewer w u v), joined)
  where
    fewer : (w u v : ℕ) → w + u ≤ w + u + v
    fewer w u v = omega arith

    joined : p * r ^ u ≡ r ^ (w + u)
    joined = ap (λ q. q * r ^ u) (e ∙ one_times (r ^ w)) ∙ sym (pow-add r w u)
      where
        one_times : (p : ℕ) → 1 * p ≡ p
        one_times p = omega arith

pub third_room : (r w u v p q : ℕ) → r ^ (w + u + v) ≤ 2 ^ 100 → p ≡ 1 * r ^ w → q ≡ p * r ^ u → q * r ^ v ≤ 2 ^ 100
third_room r w u v p q room e f = omega (arith, room, joined)
  where
    joined : q * r ^ v ≡ r ^ (w + u + v)
    joined = ap (λ x. x * r ^ v) (f ∙ ap (λ x. x * r ^ u) (e ∙ one_times (r ^ w)) ∙ sym (pow-add r w u)) ∙ sym (pow-add r (w + u) v)
      where
        one_times : (p : ℕ) → 1 * p ≡ p
        one_times p = omega arith

one_above : (r v : ℕ) → 0 < r → r ^ v ≡ suc (r ^ v - 1)
one_above r v h = by (r ^ v) (power_positive r v h)
  where
    by : (p : ℕ) → 0 < p → p ≡ suc (p - 1)
    by p h = omega arith

-- the numbers gain no more than the powers
pub turned_is : (r n i : ℕ) (x : Lasso) (a b e : Spelled) → 0 < r → i < n → IsLasso r n x → IsLassoRead r n i x a b e → b.power * r ^ length x.cycle ≤ 2 ^ 100 → IsTurned b e
turned_is r n i x a b e h k lasso is room = record {
  powers = subst (λ p. b.power ≤ p) (sym end_power) (more b.power (r ^ length x.cycle - 1));
  numbers = subst (λ m. b.number ≤ m) (sym end_number) (more_and b.number (r ^ length x.cycle - 1) (spelled r n i x.cycle));
  gained = subst (λ m. m + b.power ≤ e.power + b.number) (sym end_number) (subst (λ p. b.number * suc (r ^ length x.cycle - 1) + spelled r n i x.cycle + b.power ≤ p + b.number) (sym end_power) (less b.number b.power (r ^ length x.cycle - 1) (spelled r n i x.cycle) is.upto_stem.below small));
  below = is.upto_end.below;
  small = omega (arith, room, is.upto_end.power);
}
  where
    full : r ^ length x.cycle ≡ suc (r ^ length x.cycle - 1)
    full = one_above r (length x.cycle) h

    end_power : e.power ≡ b.power * suc (r ^ length x.cycle - 1)
    end_power = is.upto_end.power ∙ ap (λ p. b.power * p) full

    end_number : e.number ≡ b.number * suc (r ^ length x.cycle - 1) + spelled r n i x.cycle
    end_number = is.upto_end.number ∙ ap (λ p. b.number * p + spelled r n i x.cycle) full

    small : spelled r n i x.cycle ≤ r ^ length x.cycle - 1
    small = omega (arith, full, spelled_below r n i x.cycle h k (recursion_from_All (λ l. l < r ^ n) x.cycle lasso.cycle))

    more : (p k : ℕ) → p ≤ p * suc k
    more p k = grind arith

    more_and : (m k s : ℕ) → m ≤ m * suc k + s
    more_and m k s = omega (arith, more m k)

    less : (m p k s : ℕ) → m < p → s ≤ k → m * suc k + s + p ≤ p * suc k + m
    less m p k s h l = omega (arith, h, l, wider m p k h)
      where
        wider : (m p k : ℕ) → m < p → m * k + k ≤ p * k
        wider m p k h = grind arith

-- the difference of the powers, over the power up to the point, is the denominator
pub denominator_read : (r n i : ℕ) (x : Lasso) (a b e : Spelled) → 0 < r → IsLassoRead r n i x a b e → (e.power - b.power) / a.power ≡ denominator r x
unfolding denominator
denominator_read r n i x a b e h is = ap (λ p. p / a.power) (ap (λ p. p - b.power) end_power ∙ gap b.power (r ^ length x.cycle - 1) ∙ ap (λ p. p * (r ^ length x.cycle - 1)) is.upto_stem.power ∙ grouped a.power (r ^ length x.stem) (r ^ length x.cycle - 1)) ∙ mul-div_cancel_left (r ^ length x.stem * (r ^ length x.cycle - 1)) (subst (λ p. 0 < p) (sym (point_power r n i x a b e is)) (power_positive r (length x.whole) h))
  where
    end_power : e.power ≡ b.power * suc (r ^ length x.cycle - 1)
    end_power = is.upto_end.power ∙ ap (λ p. b.power * p) (one_above r (length x.cycle) h)

    gap : (p k : ℕ) → p * suc k - p ≡ p * k
    gap p k = omega arith

    grouped : (a u k : ℕ) → a * u * k ≡ a * (u * k)
    grouped a u k = omega arith

-- a lasso's denominator is positive
pub denominator_positive : (r n : ℕ) (x : Lasso) → 2 ≤ r → IsLasso r n x → 0 < denominator r x
unfolding denominator
denominator_positive r n x h lasso = both (r ^ length x.stem) (r ^ length x.cycle - 1) (power_positive r (length x.stem) (omega (arith, h))) (less (length x.cycle) lasso.turns)
  where
    both : (a b : ℕ) → 0 < a → 0 < b → 0 < a * b
    both a b h k = grind arith

    double : (r p : ℕ) → 2 ≤ r → 0 < p → 2 ≤ r * p
    double r p h k = grind arith

    less : (v : ℕ) → 0 < v → 0 < r ^ v - 1
    less zero l = absurd (omega arith)
    less (suc v) l = omega (arith, pow-suc r v, double r (r ^ v) h (power_positive r v (omega (arith, h))))

gained_by : (bn en k sv : ℕ) → en ≡ bn * suc k + sv → en - bn ≡ bn * k + sv
gained_by bn en k sv e = omega (arith, e, parted bn k)
  where
    parted : (bn k : ℕ) → bn * suc k ≡ bn * k + bn
    parted bn k = omega arith

plain_numerator : (p u k sw su sv bn en : ℕ) → bn ≡ sw * u + su → en ≡ bn * suc k + sv → pos (en - bn) ≡ (pos (u * k) *ℤ (pos sw -ℤ pos (0 * p))) +ℤ pos (k * su + sv)
plain_numerator p u k sw su sv bn en eb ee = ap pos (gained_by bn en k sv ee ∙ ap (λ m. m * k + sv) eb) ∙ by p u k sw su sv
  where
    by : (p u k sw su sv : ℕ) → pos ((sw * u + su) * k + sv) ≡ (pos (u * k) *ℤ (pos sw -ℤ pos (0 * p))) +ℤ pos (k * su + sv)
    by p u k sw su sv = simp (pos_diff, diff_add, diff_sub, diff_mul) (diff_same _ _ _ _ (omega arith))

signed_numerator : (p u k sw su sv bn en bp ep : ℕ) → bn ≡ sw * u + su → en ≡ bn * suc k + sv → bp ≡ p * u → ep ≡ bp * suc k → pos (en - bn) -ℤ pos (ep - bp) ≡ (pos (u * k) *ℤ (pos sw -ℤ pos (1 * p))) +ℤ pos (k * su + sv)
signed_numerator p u k sw su sv bn en bp ep eb ee ebp eep = ap (λ m. pos m -ℤ pos (ep - bp)) (gained_by bn en k sv ee ∙ ap (λ m. m * k + sv) eb) ∙ ap (λ m. pos ((sw * u + su) * k + sv) -ℤ pos m) (lost bp ep k eep ∙ ap (λ m. m * k) ebp) ∙ by p u k sw su sv
  where
    lost : (bp ep k : ℕ) → ep ≡ bp * suc k → ep - bp ≡ bp * k
    lost bp ep k e = omega (arith, e, parted bp k)
      where
        parted : (bn k : ℕ) → bn * suc k ≡ bn * k + bn
        parted bn k = omega arith

    by : (p u k sw su sv : ℕ) → pos ((sw * u + su) * k + sv) -ℤ pos (p * u * k) ≡ (pos (u * k) *ℤ (pos sw -ℤ pos (1 * p))) +ℤ pos (k * su + sv)
    by p u k sw su sv = simp (pos_diff, diff_add, diff_sub, diff_mul) (diff_same _ _ _ _ (omega arith))

-- the differences, under the sign, are the numerator
pub numerator_read : (r n i : ℕ) (x : Lasso) (a b e : Spelled) → 0 < r → sign_bit n i x.sign < 2 → IsLassoRead r n i x a b e → turned (sign_bit n i x.sign == 1) b e ≡ numerator r n i x
unfolding numerator value denominator
numerator_read r n i x a b e h bit is = cases (sign_bit n i x.sign) bit
  where
    full : r ^ length x.cycle ≡ suc (r ^ length x.cycle - 1)
    full = one_above r (length x.cycle) h

    stem_number : b.number ≡ spelled r n i x.whole * r ^ length x.stem + spelled r n i x.stem
    stem_number = is.upto_stem.number ∙ ap (λ m. m * r ^ length x.stem + spelled r n i x.stem) (point_number r n i x a b e is)

    stem_power : b.power ≡ r ^ length x.whole * r ^ length x.stem
    stem_power = is.upto_stem.power ∙ ap (λ m. m * r ^ length x.stem) (point_power r n i x a b e is)

    end_number : e.number ≡ b.number * suc (r ^ length x.cycle - 1) + spelled r n i x.cycle
    end_number = is.upto_end.number ∙ ap (λ p. b.number * p + spelled r n i x.cycle) full

    end_power : e.power ≡ b.power * suc (r ^ length x.cycle - 1)
    end_power = is.upto_end.power ∙ ap (λ p. b.power * p) full

    cases : (s : ℕ) → s < 2 → turned (s == 1) b e ≡ (pos (r ^ length x.stem * (r ^ length x.cycle - 1)) *ℤ (pos (spelled r n i x.whole) -ℤ pos (s * r ^ length x.whole))) +ℤ pos ((r ^ length x.cycle - 1) * spelled r n i x.stem + spelled r n i x.cycle)
    cases zero l = plain_numerator (r ^ length x.whole) (r ^ length x.stem) (r ^ length x.cycle - 1) (spelled r n i x.whole) (spelled r n i x.stem) (spelled r n i x.cycle) b.number e.number stem_number end_number
    cases (suc zero) l = signed_numerator (r ^ length x.whole) (r ^ length x.stem) (r ^ length x.cycle - 1) (spelled r n i x.whole) (spelled r n i x.stem) (spelled r n i x.cycle) b.number e.number b.power e.power stem_number end_number stem_power end_power
    cases (suc (suc s)) l = absurd (omega (arith, l))

-- a power past the limit is passed by the longer ones
pub longer_passes : (r p n k m : ℕ) → 0 < r → p ≡ r ^ k → k < n → m < p * r → m < r ^ n
longer_passes r p n k m h e l passes = omega (arith, passes, one_more, pow-le-pow_right {n = r} h l)
  where
    one_more : p * r ≡ r ^ suc k
    one_more = ap (λ q. q * r) e ∙ sym (pow-suc r k)

-- the words may be given by themselves
pub lasso_read : (r n i : ℕ) (x : Lasso) (w u v : List ℕ) (a b e : Spelled) → w ≡ x.whole → u ≡ x.stem → v ≡ x.cycle → IsReadOn r n i w (record { power = 1; number = 0 }) a → IsReadOn r n i u a b → IsReadOn r n i v b e → IsLassoRead r n i x a b e
lasso_read r n i x w u v a b e ew eu ev ra rb re = record {
  upto_point = subst (λ y. IsReadOn r n i y (record { power = 1; number = 0 }) a) ew ra;
  upto_stem = subst (λ y. IsReadOn r n i y a b) eu rb;
  upto_end = subst (λ y. IsReadOn r n i y b e) ev re;
}

-- the limit on all letters is one on the power up to the end of one cycle
pub end_room : (r n i : ℕ) (x : Lasso) (a b e : Spelled) → IsLassoRead r n i x a b e → r ^ (length x.whole + length x.stem + length x.cycle) ≤ 2 ^ 100 → b.power * r ^ length x.cycle ≤ 2 ^ 100
end_room r n i x a b e is room = third_room r (length x.whole) (length x.stem) (length x.cycle) a.power b.power room is.upto_point.power is.upto_stem.power

-- the denominator is small
pub denominator_small : (r n i : ℕ) (x : Lasso) (a b e : Spelled) → 0 < r → IsLassoRead r n i x a b e → r ^ (length x.whole + length x.stem + length x.cycle) ≤ 2 ^ 100 → (e.power - b.power) / a.power ≤ 2 ^ 100
denominator_small r n i x a b e h is room = omega (arith, div-le_self (e.power - b.power) a.power, end_room r n i x a b e is room, is.upto_end.power)
