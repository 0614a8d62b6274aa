-- Ends of twice as many letters 0.
use Rattle.std.proofs.Common.{◌≡◌, ℕ, ◌+◌, ◌*◌, ◌≤◌, ◌<◌, List, [], ◌∷◌, ◌++◌, length, arith, refl, ◌∙◌, sym, ap, subst}
use Rattle.std.specs.Prelude.{slice_set, slice_index, All}
use Rattle.std.specs.List.{slice_index_or}
use Rattle.std.proofs.lemmas.Bool.{cases_eq, cases_lt}
use Rattle.std.proofs.lemmas.List.{get_or-set_same, get_or-set_other, length-set, length-append, get_or_push, get_or_append_left}
use Rattle.std.proofs.lemmas.List.Elements.{All-push}
use mathlib.Core.Logic.{inl, inr}
use Rattle.lash_model.specs.Tables.{Table, letters, ints, fracs, IsTable}
use Rattle.part_laws.proofs.Turning.{turns, turns-add}
use Rattle.part_laws.proofs.Walking.{round, walk-copies}
use Rattle.product_ops.specs.Restriction.{IsAfterZeros, AreEnds, AreDoubled, AreFirstEnds}

joined_zeros : (rows : List ℕ) (width least p q r : ℕ) → IsAfterZeros rows width least p q → IsAfterZeros rows width least q r
    → IsAfterZeros rows width (2 * least) p r
joined_zeros rows width least p q r a b = record {
  times = a.times + b.times;
  enough = omega (arith, a.enough, b.enough);
  leads = walk-copies rows width (a.times + b.times) (0 ∷ []) p ∙ turns-add (round rows width (0 ∷ [])) a.times b.times p
      ∙ ap (λ x. turns (round rows width (0 ∷ [])) b.times x) (sym (walk-copies rows width a.times (0 ∷ []) p) ∙ a.leads)
      ∙ sym (walk-copies rows width b.times (0 ∷ []) q) ∙ b.leads;
}

fewer_zeros : (rows : List ℕ) (width fewer least p q : ℕ) → fewer ≤ least → IsAfterZeros rows width least p q → IsAfterZeros rows width fewer p q
fewer_zeros rows width fewer least p q h a = record { times = a.times; enough = omega (arith, h, a.enough); leads = a.leads }

pub fewer_ends : (rows : List ℕ) (width fewer least : ℕ) (ends : List ℕ) → fewer ≤ least → AreEnds rows width least ends → AreEnds rows width fewer ends
fewer_ends rows width fewer least ends h e = record {
  inside = e.inside;
  each = λ q lt. fewer_zeros rows width fewer least q (slice_index ends q) h (e.each q lt);
}

pub none_doubled : (rows : List ℕ) (width least : ℕ) (ends : List ℕ) → AreEnds rows width least ends → AreDoubled rows width least 0 ends
none_doubled rows width least ends e = record { ends = e; first = λ q lt. absurd (omega (arith, lt)) }

pub all_doubled : (rows : List ℕ) (width least count : ℕ) (ends : List ℕ) → AreDoubled rows width least count ends → count ≡ length ends
    → AreEnds rows width (2 * least) ends
all_doubled rows width least count ends d e = record { inside = d.ends.inside; each = λ q lt. d.first q (omega (arith, lt, e)) }

pub count_doubled : (ends : List ℕ) (at to : ℕ) → length (slice_set ends at to) ≡ length ends
count_doubled ends at to = length-set ends at to

-- what is written is a state
pub inside_doubled : (ends : List ℕ) (at to : ℕ) → All (λ q. q < length ends) ends → at < length ends → to < length ends
    → All (λ q. q < length (slice_set ends at to)) (slice_set ends at to)
inside_doubled ends at to all at_in to_in = λ i d lt. elim (cases_eq i at) [
  | inl e ↦ subst (λ j. slice_index_or (slice_set ends at to) j d < length (slice_set ends at to)) (sym e)
      (small _ (get_or-set_same ends at to d at_in) to_in)
  | inr apart ↦ small _ (get_or-set_other ends at i to d apart) (all i d (subst (λ n. i < n) count lt))
]
  where
    count : length (slice_set ends at to) ≡ length ends
    count = length-set ends at to

    small : {y : ℕ} (x : ℕ) → x ≡ y → y < length ends → x < length (slice_set ends at to)
    small x e h = subst (λ n. x < n) (sym count) (omega (arith, e, h))

pub one_doubled : (rows : List ℕ) (width least at to : ℕ) (ends : List ℕ) → AreDoubled rows width least at ends → at < length ends
    → to ≡ slice_index ends (slice_index ends at) → AreDoubled rows width least (at + 1) (slice_set ends at to)
one_doubled rows width least at to ends d at_in is = record {
  ends = record {
    inside = inside_doubled ends at to d.ends.inside at_in (omega (arith, is, d.ends.inside (slice_index ends at) 0 there));
    each = λ q lt. elim (cases_eq q at) [
      | inl e ↦ fewer_zeros rows width least (2 * least) q _ (omega arith) (subst (λ j. IsAfterZeros rows width (2 * least) j (slice_index (slice_set ends at to) j)) (sym e) written)
      | inr apart ↦ subst (λ p. IsAfterZeros rows width least q p) (sym (get_or-set_other ends at q to 0 apart)) (d.ends.each q (subst (λ n. q < n) count lt))
    ];
  };
  first = λ q lt. elim (cases_eq q at) [
    | inl e ↦ subst (λ j. IsAfterZeros rows width (2 * least) j (slice_index (slice_set ends at to) j)) (sym e) written
    | inr apart ↦ subst (λ p. IsAfterZeros rows width (2 * least) q p) (sym (get_or-set_other ends at q to 0 apart)) (d.first q (omega (arith, lt, apart)))
  ];
}
  where
    count : length (slice_set ends at to) ≡ length ends
    count = length-set ends at to

    there : slice_index ends at < length ends
    there = d.ends.inside at 0 at_in

    written : IsAfterZeros rows width (2 * least) at (slice_index (slice_set ends at to) at)
    written = subst (λ p. IsAfterZeros rows width (2 * least) at p) (sym (get_or-set_same ends at to 0 at_in ∙ is))
        (joined_zeros rows width least at (slice_index ends at) (slice_index ends (slice_index ends at)) (d.ends.each at at_in) (d.ends.each (slice_index ends at) there))

-- ---- after one letter 0
pub none_found : (rows : List ℕ) (width states : ℕ) → AreFirstEnds rows width states 0 []
none_found rows width states = record {
  counted = refl;
  inside = λ i d lt. absurd (omega (arith, lt));
  each = λ q lt. absurd (omega (arith, lt));
}

pub one_found : (rows : List ℕ) (width states n to : ℕ) (list : List ℕ) → AreFirstEnds rows width states n list → to < states
    → to ≡ slice_index rows (n * width + 0) → AreFirstEnds rows width states (n + 1) (list ++ to ∷ [])
one_found rows width states n to list f to_in is = record {
  counted = length-append list (to ∷ []) ∙ plus_one f.counted;
  inside = All-push (λ q. q < states) list to f.inside to_in;
  each = λ q lt. elim (cases_lt q n) [
    | inl before ↦ get_or_append_left list (to ∷ []) 0 q (omega (arith, f.counted, before)) ∙ f.each q before
    | inr last ↦ newest q (omega (arith, lt, last))
  ];
}
  where
    plus_one : {k m : ℕ} → k ≡ m → k + 1 ≡ m + 1
    plus_one e = omega (arith, e)

    newest : (q : ℕ) → q ≡ n → slice_index (list ++ to ∷ []) q ≡ slice_index rows (q * width + 0)
    newest q e = get_or_push list to 0 q (f.counted ∙ sym e) ∙ is ∙ ap (λ j. slice_index rows (j * width + 0)) (sym e)

pub all_found : (rows : List ℕ) (width states n : ℕ) (list : List ℕ) → AreFirstEnds rows width states n list → n ≡ states → AreEnds rows width 1 list
all_found rows width states n list f e = record {
  inside = subst (λ k. All (λ q. q < k) list) (sym (f.counted ∙ e)) f.inside;
  each = λ q lt. record { times = 1; enough = omega arith; leads = sym (f.each q (omega (arith, lt, f.counted))) };
}

cells_hold : (i f w most : ℕ) → (i + f) * (w + 1) ≤ most → f ≤ most
cells_hold i f w most h = grind arith

pub few_fracs : (t : Table) → IsTable t → fracs t ≤ 16777216
few_fracs t h = cells_hold (ints t) (fracs t) (letters t) 16777216 h.shape.few_cells
