-- Tables of the same first lines with one text after them are equal.
use Rattle.std.proofs.Common.{◌≡◌, ℕ, zero, suc, ◌+◌, ◌*◌, ◌^◌, ◌≤◌, ◌<◌, Bool, true, false, List, ◌++◌, length, codes, Some, arith, refl, ◌∙◌, sym}
use Rattle.std.proofs.Common.{ap, ap₂, subst, append_assoc, ◌⊎◌, inl, inr}
use Rattle.std.specs.Prelude.{nat_eq, if◌then◌else◌, slice_index}
use Rattle.std.proofs.lemmas.Bool.{cases_lt}
use Rattle.std.proofs.lemmas.List.{append_cancel_left}
use Rattle.lash_model.specs.Tables.{Table, letters, out_bound}
use Rattle.canonical_laws.proofs.Diagrams.{same_lists, same_rows, same_table, same_truth}
use Rattle.text_laws.specs.Numerals.{numeral}
use Rattle.text_laws.specs.Parts.{ended_number, ended_answer, IsBetween}
use Rattle.text_laws.specs.Spellings.{Head, IsHead, rest_text, IsRestOf}
use Rattle.text_laws.proofs.Stops.{IsReadable}
use Rattle.text_laws.proofs.NumberParts.{numbers_readable}
use Rattle.text_laws.proofs.ChoiceParts.{answers_told, told_readable}
use Rattle.text_laws.proofs.Rests.{low_ending}
use Rattle.text_laws.proofs.Tables.{allowed_of_table, text_of_table}
use Rattle.text_laws.specs.Reading.{parts_text, PartsAllowed}
use Rattle.text_laws.specs.RestParts.{ending_at, number_at, numbers_text, NumbersAllowed, out_part, OutAllowed, line_part, LineAllowed, lines_part}
use Rattle.text_laws.specs.RestParts.{LinesAllowed, Sizes, Values, rest_part, RestAllowed, table_values, int_values, frac_values, head_sizes}

-- equal texts, in front of anything, come of related values
pub record Told (R : Type 0) (x y : List ℕ) : Type 0 where
  pub related : R
  pub back : x ≡ y

unfoldable pub Tells : {V : Type 0} → (V → List ℕ) → (V → Type 0) → (V → V → Type 0) → Type 0
Tells {V} text Allowed R = (a b : V) → Allowed a → Allowed b → (x y : List ℕ) → text a ++ x ≡ text b ++ y → Told (R a b) x y

numbers_tell : (ending bound : ℕ) → ending < 48 → Tells (ended_number ending) (IsBetween 0 (Some bound)) (λ a b. a ≡ b)
unfolding Tells IsReadable
numbers_tell ending bound low a b ia ib x y e = let same = numbers_readable ending (IsBetween 0 (Some bound)) low a b ia ib x y e in
    record { related = same; back = append_cancel_left (ended_number ending b) x y (ap (λ n. ended_number ending n ++ x) (sym same) ∙ e) }

outs_tell : (answers : Bool) (bound : ℕ) → (answers ≡ true → bound ≤ 2) → Tells (out_part answers) (OutAllowed bound) (λ a b. a ≡ b)
unfolding Tells IsReadable
outs_tell true bound few a b ia ib x y e =
    let same : nat_eq a 1 ≡ nat_eq b 1 = told_readable ended_answer answers_told (nat_eq a 1) (nat_eq b 1) tt tt x y e in
    record {
      related = same_truth a b (omega (arith, ia.1, few refl)) (omega (arith, ib.1, few refl)) same;
      back = append_cancel_left (ended_answer (nat_eq b 1)) x y (ap (λ c. ended_answer c ++ x) (sym same) ∙ e);
    }
outs_tell false bound few a b ia ib x y e = let same = numbers_readable 32 (IsBetween 0 (Some bound)) (omega arith) a b ia ib x y e in
    record { related = same; back = append_cancel_left (ended_number 32 b) x y (ap (λ n. ended_number 32 n ++ x) (sym same) ∙ e) }

below_more : (j i : ℕ) → j < suc i → (j < i) ⊎ (i ≡ j)
below_more j i h = by (cases_lt j i)
  where
    by : (j < i) ⊎ (i ≤ j) → (j < i) ⊎ (i ≡ j)
    by (inl lt) = inl lt
    by (inr ge) = inr (omega (arith, h, ge))

parts_tell : {V : Type 0} (part : ℕ → V → List ℕ) (Allowed : ℕ → V → Type 0) (R : V → V → Type 0) (count : ℕ)
    → ((i : ℕ) → i < count → Tells (part i) (Allowed i) R)
    → Tells (parts_text part count) (PartsAllowed Allowed count) (λ f g. (i : ℕ) → i < count → R (f i) (g i))
unfolding Tells
parts_tell part Allowed R zero t f g hf hg x y e = record { related = λ i lt. absurd (omega (arith, lt)); back = e }
parts_tell part Allowed R (suc count) t f g hf hg x y e =
    let first = parts_tell part Allowed R count (λ i lt. t i (omega (arith, lt))) f g (λ j lt. hf j (omega (arith, lt))) (λ j lt. hg j (omega (arith, lt)))
    (part count (f count) ++ x) (part count (g count) ++ y)
    (sym (append_assoc (parts_text part count f) (part count (f count)) x) ∙ e ∙ append_assoc (parts_text part count g) (part count (g count)) y) in
    let last = t count (omega arith) (f count) (g count) (hf count (omega arith)) (hg count (omega arith)) x y first.back in
    record {
      related = λ i lt. elim (below_more i count lt) [ inl before ↦ first.related i before | inr at_end ↦ subst (λ n. R (f n) (g n)) at_end last.related ];
      back = last.back;
    }

abbrev SameLine : ℕ → (ℕ × (ℕ → ℕ)) → (ℕ × (ℕ → ℕ)) → Type 0
SameLine width a b = (a.0 ≡ b.0) × ((l : ℕ) → l < width → a.1 l ≡ b.1 l)

many_tell : (count bound : ℕ) → Tells (numbers_text count) (NumbersAllowed bound count) (λ f g. (i : ℕ) → i < count → f i ≡ g i)
many_tell count bound = parts_tell (number_at count) (λ _. IsBetween 0 (Some bound)) (λ a b. a ≡ b) count
    (λ i lt. numbers_tell (ending_at count i) bound (low_ending count i))

line_tells : (answers : Bool) (outs bound width q : ℕ) → (answers ≡ true → outs ≤ 2)
    → Tells (line_part answers width q) (LineAllowed outs bound width) (SameLine width)
unfolding Tells
line_tells answers outs bound width q few a b ia ib x y e =
    let word : List ℕ = numeral q ++ codes " " in
    let e1 : out_part answers a.0 ++ (numbers_text width a.1 ++ x) ≡ out_part answers b.0 ++ (numbers_text width b.1 ++ y) =
    sym (append_assoc (out_part answers a.0) (numbers_text width a.1) x)
    ∙ append_cancel_left word ((out_part answers a.0 ++ numbers_text width a.1) ++ x) ((out_part answers b.0 ++ numbers_text width b.1) ++ y)
    (sym (append_assoc word (out_part answers a.0 ++ numbers_text width a.1) x) ∙ e ∙ append_assoc word (out_part answers b.0 ++ numbers_text width b.1) y)
    ∙ append_assoc (out_part answers b.0) (numbers_text width b.1) y in
    let o = outs_tell answers outs few a.0 b.0 ia.0 ib.0 (numbers_text width a.1 ++ x) (numbers_text width b.1 ++ y) e1 in
    let n = many_tell width bound a.1 b.1 ia.1 ib.1 x y o.back in
    record { related = (o.related, n.related); back = n.back }

lines_tell : (answers : Bool) (outs bound width count : ℕ) → (answers ≡ true → outs ≤ 2)
    → Tells (lines_part answers width count) (LinesAllowed outs bound width count) (λ f g. (q : ℕ) → q < count → SameLine width (f q) (g q))
lines_tell answers outs bound width count few = parts_tell (line_part answers width) (λ _. LineAllowed outs bound width) (SameLine width) count
    (λ q lt. line_tells answers outs bound width q few)

pub record SameEntries (z : Sizes) (v w : Values) : Type 0 where
  pub roots : (i : ℕ) → i < 2 ^ z.tracks → v.0 i ≡ w.0 i
  pub int_lines : (q : ℕ) → q < z.ints → SameLine (z.base ^ z.tracks) (v.1.0 q) (w.1.0 q)
  pub frac_lines : (q : ℕ) → q < z.fracs → SameLine (z.base ^ z.tracks) (v.1.1.0 q) (w.1.1.0 q)

few_outs : (fracs : ℕ) → nat_eq fracs 0 ≡ true → out_bound fracs ≤ 2
few_outs fracs e = at_most (out_bound fracs) (ap (λ (b : Bool). if b then 2 else fracs) e)
  where
    at_most : (a : ℕ) → a ≡ 2 → a ≤ 2
    at_most a h = omega (arith, h)

entries_told : (z : Sizes) (v w : Values) → RestAllowed z v → RestAllowed z w → rest_part z v ≡ rest_part z w → SameEntries z v w
unfolding Tells
entries_told z v w iv iw e =
    let W : ℕ = z.base ^ z.tracks in
    let r = many_tell (2 ^ z.tracks) z.ints v.0 w.0 iv.0 iw.0 _ _ (append_cancel_left (codes "roots ") _ _ e) in
    let i = lines_tell (nat_eq z.fracs 0) (out_bound z.fracs) z.ints W z.ints (few_outs z.fracs) v.1.0 w.1.0 iv.1.0 iw.1.0 _ _ r.back in
    let f = lines_tell true 2 z.fracs W z.fracs (λ _. omega arith) v.1.1.0 w.1.1.0 iv.1.1.0 iw.1.1.0 _ _ i.back in
    record { roots = r.related; int_lines = i.related; frac_lines = f.related }

-- two tables of the same first lines with one text after them
pub same_tables : (h : Head) (t u : Table) → IsHead h → IsRestOf h t → IsRestOf h u → rest_text t ≡ rest_text u → t ≡ u
unfolding table_values int_values frac_values head_sizes
same_tables h t u i rt ru e =
    let s = entries_told (head_sizes h) (table_values t) (table_values u) (allowed_of_table h t rt) (allowed_of_table h u ru)
    (text_of_table h i t rt ∙ e ∙ sym (text_of_table h i u ru)) in
    let base : t.base ≡ u.base = rt.base ∙ sym ru.base in
    let tracks : t.tracks ≡ u.tracks = rt.tracks ∙ sym ru.tracks in
    let ints : length t.outs ≡ length u.outs = rt.ints ∙ sym ru.ints in
    let fracs : length t.colours ≡ length u.colours = rt.fracs ∙ sym ru.fracs in
    let widths : letters t ≡ letters u = ap₂ (λ b n. b ^ n) base tracks in
    let wide : letters t ≡ h.base ^ length h.variables = ap₂ (λ b n. b ^ n) rt.base rt.tracks in
    same_table t u base tracks
    (same_lists t.roots u.roots (rt.roots_count ∙ ap (λ n. 2 ^ n) tracks ∙ sym ru.roots_count)
    (λ k lt. at_plain t u k (s.roots k (subst (λ n. k < n) (rt.roots_count ∙ ap (λ n. 2 ^ n) rt.tracks) lt))))
    (same_rows t.rows u.rows (length t.outs) (letters t) rt.rows_count (ru.rows_count ∙ ap₂ (λ n w. n * w) (sym ints) (sym widths))
    (λ q l q_in l_in. (s.int_lines q (subst (λ n. q < n) rt.ints q_in)).1 l (subst (λ n. l < n) wide l_in)
    ∙ ap (λ w. slice_index u.rows (q * w + l)) (sym widths)))
    (same_lists t.outs u.outs ints (λ q lt. (s.int_lines q (subst (λ n. q < n) rt.ints lt)).0))
    (same_rows t.frac_rows u.frac_rows (length t.colours) (letters t) rt.frac_rows_count (ru.frac_rows_count ∙ ap₂ (λ n w. n * w) (sym fracs) (sym widths))
    (λ q l q_in l_in. (s.frac_lines q (subst (λ n. q < n) rt.fracs q_in)).1 l (subst (λ n. l < n) wide l_in)
    ∙ ap (λ w. slice_index u.frac_rows (q * w + l)) (sym widths)))
    (same_lists t.colours u.colours fracs (λ q lt. (s.frac_lines q (subst (λ n. q < n) rt.fracs lt)).0))
  where
    at_plain : (t u : Table) (k : ℕ) → slice_index t.roots (0 + k) ≡ slice_index u.roots (0 + k) → slice_index t.roots k ≡ slice_index u.roots k
    at_plain t u k e = subst (λ n. slice_index t.roots n ≡ slice_index u.roots n) (plain k) e
      where
        plain : (k : ℕ) → 0 + k ≡ k
        plain k = omega arith
