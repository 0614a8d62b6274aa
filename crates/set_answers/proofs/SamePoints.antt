-- Vectors of the same fractions, over any denominators, solve the same sets; and each vector is that of a lasso.
use Rattle.std.proofs.Common.{◌≡◌, ℕ, zero, suc, ◌*◌, ◌≤◌, ◌<◌, List, length, arith, ◌∙◌, sym, ap, subst}
use Rattle.std.proofs.Math.IntN.{ℤ, pos, ◌*ℤ◌}
use Rattle.std.specs.Prelude.{◌↔◌, ◌≤ℤ◌, All, Some, slice_get}
use Rattle.std.specs.List.{slice_index_or}
use Rattle.std.proofs.lemmas.List.{ext_get_or}
use Rattle.std.proofs.lemmas.Option.{slice_get-get_or, slice_get_within}
use Rattle.integer_laws.specs.Vectors.{scale}
use Rattle.integer_laws.proofs.Entries.{length-vector_from, entry-vector, entry-scale}
use Rattle.integer_laws.proofs.Ring.{times_comm}
use Rattle.lash_model.specs.Formulas.{Sort, Formula}
use Rattle.lash_model.specs.Lassos.{Lasso, IsLasso, denominator, numerator, numerators}
use Rattle.lash_model.specs.Meaning.{Solves}
use Rattle.lash_model.proofs.Scaling.{Solves-scale}
use Rattle.part_laws.specs.CanonicalMixed.{AgreeOnLassos}
use Rattle.fraction_codes.specs.Fractions.{IsSmall}
use Rattle.fraction_codes.specs.FixedCodes.{HasLasso, SpellsVector}
use Rattle.fraction_codes.specs.declared.ratio.Ratio.{Ratio}
use Rattle.fraction_codes.proofs.Existing.{has_lasso}
use Rattle.fraction_codes.proofs.ReadingOn.{denominator_positive}
use Rattle.set_answers.specs.Agreement.{IsVector, Agree}
use Rattle.set_answers.specs.Vectors.{IsVectorOf}
use Rattle.set_answers.proofs.SolvingWords.{length-scale}
use Rattle.set_answers.proofs.WholeFractions.{cancelled, exchanged}

-- ---- the same fractions
pub record AreSameFractions (ms : List ℤ) (a : ℕ) (ns : List ℤ) (b : ℕ) : Type 0 where
  pub first_positive : 0 < a
  pub second_positive : 0 < b
  pub count : length ms ≡ length ns
  pub each : (i : ℕ) → i < length ms → slice_index_or ms i (pos 0) *ℤ pos b ≡ slice_index_or ns i (pos 0) *ℤ pos a

-- each vector times the other's denominator is the same
crossed : (ms ns : List ℤ) (a b : ℕ) → AreSameFractions ms a ns b → scale b ms ≡ scale a ns
crossed ms ns a b h = ext_get_or (pos 0) (scale b ms) (scale a ns) (length-scale b ms ∙ h.count ∙ sym (length-scale a ns)) (λ i lt.
    entry-scale b ms i ∙ times_comm (pos b) (slice_index_or ms i (pos 0)) ∙ h.each i (subst (λ k. i < k) (length-scale b ms) lt)
    ∙ times_comm (slice_index_or ns i (pos 0)) (pos a) ∙ sym (entry-scale a ns i))

pub same_fractions_solve : (sorts : List Sort) (f : Formula) (ms : List ℤ) (a : ℕ) (ns : List ℤ) (b : ℕ) → AreSameFractions ms a ns b
    → Solves sorts f ms a ↔ Solves sorts f ns b
same_fractions_solve sorts f ms zero ns b h = absurd (omega (arith, h.first_positive))
same_fractions_solve sorts f ms (suc a) ns zero h = absurd (omega (arith, h.second_positive))
same_fractions_solve sorts f ms (suc a) ns (suc b) h =
    let left = Solves-scale sorts f b ms (suc a) in
    let right = Solves-scale sorts f a ns (suc b) in
    let vectors : scale (suc b) ms ≡ scale (suc a) ns = crossed ms ns (suc a) (suc b) h in
    let denominators : suc b * suc a ≡ suc a * suc b = omega arith in (
      λ s. right.1 (subst (λ xs. Solves sorts f xs (suc a * suc b)) vectors (subst (λ d. Solves sorts f (scale (suc b) ms) d) denominators (left.0 s))),
      λ s. left.1 (subst (λ xs. Solves sorts f xs (suc b * suc a)) (sym vectors)
          (subst (λ d. Solves sorts f (scale (suc a) ns) d) (sym denominators) (right.0 s))),
    )

-- two vectors of one list of fractions
same_entry : (m n x y : ℤ) (a b : ℕ) → (pos 1) ≤ℤ y → m *ℤ y ≡ x *ℤ pos a → n *ℤ y ≡ x *ℤ pos b → m *ℤ pos b ≡ n *ℤ pos a
same_entry m n x y a b h e f = cancelled (m *ℤ pos b) (n *ℤ pos a) y h
    (exchanged m (pos b) y ∙ ap (λ z. z *ℤ pos b) e ∙ exchanged x (pos a) (pos b) ∙ ap (λ z. z *ℤ pos a) (sym f) ∙ exchanged n y (pos a))

pub of_one_list : (vs : List Ratio) (ms : List ℤ) (a : ℕ) (ns : List ℤ) (b : ℕ) → All IsSmall vs → IsVectorOf vs ms a → IsVectorOf vs ns b
    → AreSameFractions ms a ns b
of_one_list vs ms a ns b small h k = record {
  first_positive = h.positive;
  second_positive = k.positive;
  count = h.count ∙ sym k.count;
  each = λ i lt.
      let one : Ratio = record { num = pos 0; den = pos 1 } in
      let v : Ratio = slice_index_or vs i one in
      let inside : i < length vs = omega (arith, lt, h.count) in
      let here : slice_get vs i ≡ Some v = slice_get-get_or vs i one inside in
      same_entry (slice_index_or ms i (pos 0)) (slice_index_or ns i (pos 0)) v.num v.den a b (small i one inside).positive (h.same i v here) (k.same i v here);
}

-- ---- the vector of a lasso
-- the fractions of a lasso solve the set
abbrev pub SolvesAt : List Sort → Formula → ℕ → Lasso → Type 0
SolvesAt sorts f r x = Solves sorts f (numerators r (length sorts) x) (denominator r x)

pub lasso_vector : (sorts : List Sort) (r : ℕ) (x : Lasso) → 2 ≤ r → IsLasso r (length sorts) x
    → IsVector sorts (numerators r (length sorts) x) (denominator r x)
lasso_vector sorts r x low v = record {
  count = length-vector_from (λ i. numerator r (length sorts) i x) 0 (length sorts);
  positive = denominator_positive r (length sorts) x low v;
}

-- that of a lasso which spells a list of fractions
pub spelled_vector : (r : ℕ) (vs : List Ratio) (x : Lasso) → 2 ≤ r → IsLasso r (length vs) x → SpellsVector r vs x
    → IsVectorOf vs (numerators r (length vs) x) (denominator r x)
spelled_vector r vs x low v h = record {
  positive = denominator_positive r (length vs) x low v;
  count = length-vector_from (λ i. numerator r (length vs) i x) 0 (length vs);
  same = λ i w here. ap (λ z. z *ℤ w.den) (entry-vector (λ j. numerator r (length vs) j x) (length vs) i (slice_get_within vs i w here)) ∙ h i w here;
}

-- a lasso in range whose vector is of the same fractions
pub record HasPoint (r n : ℕ) (ns : List ℤ) (d : ℕ) : Type 0 where
  pub lasso : Lasso
  pub in_range : IsLasso r n lasso
  pub same : AreSameFractions ns d (numerators r n lasso) (denominator r lasso)

pub point_of : (r n : ℕ) (ns : List ℤ) (d : ℕ) → 2 ≤ r → 0 < d → length ns ≡ n → HasPoint r n ns d
point_of r n ns d low some count = subst (λ k. HasPoint r k ns d) count (record {
  lasso = found.lasso;
  in_range = found.in_range;
  same = record {
    first_positive = some;
    second_positive = denominator_positive r (length ns) found.lasso low found.in_range;
    count = sym (length-vector_from (λ i. numerator r (length ns) i found.lasso) 0 (length ns));
    each = λ i lt.
        sym (found.spells i (slice_index_or ns i (pos 0)) (slice_get-get_or ns i (pos 0) lt))
        ∙ ap (λ z. z *ℤ pos d) (sym (entry-vector (λ j. numerator r (length ns) j found.lasso) (length ns) i lt));
  };
})
  where
    found : HasLasso r d ns
    found = has_lasso r d ns low some

pub solves_there : (sorts : List Sort) (f : Formula) (r : ℕ) (ns : List ℤ) (d : ℕ) (p : HasPoint r (length sorts) ns d)
    → Solves sorts f ns d ↔ SolvesAt sorts f r p.lasso
solves_there sorts f r ns d p = same_fractions_solve sorts f ns d (numerators r (length sorts) p.lasso) (denominator r p.lasso) p.same

-- ---- sets that agree on lassos agree on vectors, and the other way round
pub agree_on_lassos : (r : ℕ) (sorts : List Sort) (f g : Formula) → 2 ≤ r → Agree sorts f g → AgreeOnLassos r (length sorts) (Solves sorts f) (Solves sorts g)
agree_on_lassos r sorts f g low a x v = a (numerators r (length sorts) x) (denominator r x) (lasso_vector sorts r x low v)

pub agree_from_lassos : (r : ℕ) (sorts : List Sort) (f g : Formula) → 2 ≤ r → AgreeOnLassos r (length sorts) (Solves sorts f) (Solves sorts g) → Agree sorts f g
agree_from_lassos r sorts f g low a ns d v =
    let p = point_of r (length sorts) ns d low v.positive v.count in
    let of_f = solves_there sorts f r ns d p in
    let of_g = solves_there sorts g r ns d p in (
      λ s. of_g.1 ((a p.lasso p.in_range).0 (of_f.0 s)),
      λ s. of_f.1 ((a p.lasso p.in_range).1 (of_g.0 s)),
    )
