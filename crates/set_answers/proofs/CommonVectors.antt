-- Fractions over one denominator: the product of theirs.
use Rattle.std.proofs.Common.{◌≡◌, ℕ, zero, suc, ◌*◌, ◌<◌, List, [], ◌∷◌, arith, refl, sym, ap, ◌∙◌, subst, Some}
use Rattle.std.proofs.Math.IntN.{ℤ, pos, negsuc, ◌*ℤ◌, pos-*ℤ-pos}
use Rattle.std.specs.Prelude.{◌≤ℤ◌, slice_get}
use Rattle.std.specs.List.{slice_index_or}
use Rattle.std.proofs.lemmas.Int.{ints}
use Rattle.integer_laws.specs.Vectors.{scale}
use Rattle.integer_laws.proofs.Ring.{times_comm, times_assoc, times_zero}
use Rattle.fraction_codes.specs.declared.ratio.Ratio.{Ratio}
use Rattle.set_answers.specs.Vectors.{ArePositive, IsVectorOf, HasVector}
use Rattle.set_answers.proofs.SolvingWords.{length-scale}

-- an entry of a vector each of whose entries is multiplied
entry_scaled : (c : ℕ) (ns : List ℤ) (i : ℕ) → slice_index_or (scale c ns) i (pos 0) ≡ pos c *ℤ slice_index_or ns i (pos 0)
unfolding scale
entry_scaled c [] i = sym (times_zero (pos c))
entry_scaled c (x ∷ ns) zero = refl
entry_scaled c (x ∷ ns) (suc i) = entry_scaled c ns i

-- a fraction over a multiple of the denominator
multiplied : (n x e : ℤ) (m d : ℕ) → n *ℤ e ≡ x *ℤ pos d → (pos m *ℤ n) *ℤ e ≡ x *ℤ pos (m * d)
multiplied n x e m d is =
    times_assoc (pos m) n e ∙ ap (λ y. pos m *ℤ y) is ∙ sym (times_assoc (pos m) x (pos d)) ∙ ap (λ y. y *ℤ pos d) (times_comm (pos m) x)
    ∙ times_assoc x (pos m) (pos d) ∙ ap (λ y. x *ℤ y) (pos-*ℤ-pos m d)

-- a positive denominator is a number more than 0
record IsNumber (x : ℤ) : Type 0 where
  number : ℕ
  is : x ≡ pos (suc number)

number_of : (x : ℤ) → (pos 1) ≤ℤ x → IsNumber x
number_of (pos zero) h = absurd (omega (arith, ints, h))
number_of (pos (suc n)) h = record { number = n; is = refl }
number_of (negsuc n) h = absurd (omega (arith, ints, h))

option_same : {A : Type 0} {x y : A} → Some x ≡ Some y → x ≡ y
option_same {x = x} e = cc

-- a fraction in front of a vector
in_front : (v : Ratio) (vs : List Ratio) (ns : List ℤ) (d m : ℕ) → v.den ≡ pos (suc m) → IsVectorOf vs ns d
    → IsVectorOf (v ∷ vs) ((v.num *ℤ pos d) ∷ scale (suc m) ns) (suc m * d)
in_front v vs ns d m den h = record {
  positive = product m d h.positive;
  count = ap suc (length-scale (suc m) ns ∙ h.count);
  same = same;
}
  where
    product : (m d : ℕ) → 0 < d → 0 < suc m * d
    product m d lt = omega (arith, lt)

    same : (i : ℕ) (w : Ratio) → slice_get (v ∷ vs) i ≡ Some w
        → slice_index_or ((v.num *ℤ pos d) ∷ scale (suc m) ns) i (pos 0) *ℤ w.den ≡ w.num *ℤ pos (suc m * d)
    same zero w e = subst (λ (w : Ratio). (v.num *ℤ pos d) *ℤ w.den ≡ w.num *ℤ pos (suc m * d)) (option_same e)
        (times_assoc v.num (pos d) v.den ∙ ap (λ y. v.num *ℤ y) (ap (λ y. pos d *ℤ y) den ∙ times_comm (pos d) (pos (suc m)) ∙ pos-*ℤ-pos (suc m) d))
    same (suc i) w e = ap (λ y. y *ℤ w.den) (entry_scaled (suc m) ns i) ∙ multiplied (slice_index_or ns i (pos 0)) w.num w.den (suc m) d (h.same i w e)

no_entry : (i : ℕ) (w : Ratio) → slice_get [] i ≡ Some w → ⊥
no_entry i w e = cc

pub have_vectors : (vs : List Ratio) → ArePositive vs → HasVector vs
have_vectors [] h = record { numerators = []; denominator = 1; is = record { positive = omega arith; count = refl; same = λ i w e. absurd (no_entry i w e) } }
have_vectors (v ∷ vs) h =
    let rest = have_vectors vs (λ k w lt. h (suc k) w (omega (arith, lt))) in
    let den = number_of v.den (h 0 v (omega arith)) in
    record {
      numerators = (v.num *ℤ pos rest.denominator) ∷ scale (suc den.number) rest.numerators;
      denominator = suc den.number * rest.denominator;
      is =
          in_front v vs rest.numerators rest.denominator den.number den.is rest.is;
    }
