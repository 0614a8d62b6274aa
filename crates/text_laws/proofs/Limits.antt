-- Spellings within the limits are the texts that are written, and names of spellings are those of variables.
use Rattle.std.proofs.Common.{◌≡◌, ℕ, zero, suc, ◌+◌, ◌*◌, ◌^◌, ◌≤◌, ◌<◌, Bool, true, false, List, [], ◌++◌, length, codes, arith, refl, ◌∙◌, sym}
use Rattle.std.proofs.Common.{ap, ap₂, subst, append_assoc}
use Rattle.std.specs.Prelude.{nat_eq, if◌then◌else◌, slice_index}
use Rattle.std.proofs.Math.Nat.{pow-le-pow_right, pow-le-pow_left}
use Rattle.lash_model.specs.Formulas.{Sort}
use Rattle.lash_model.specs.Tables.{Table, letters, ints, fracs, out_bound, IsTable}
use Rattle.automaton_texts.specs.Text.{texts_upto, number_text, answer_text, variables_text, line, number_line, fracs_line, out_text, targets_text}
use Rattle.automaton_texts.specs.Text.{int_line, frac_line, heading, roots_text, counts, text_of}
use Rattle.canonical_laws.proofs.Diagrams.{read_below, place_within}
use Rattle.text_laws.specs.Numerals.{numeral, numeral_after}
use Rattle.text_laws.specs.Spellings.{Head, has_real, IsHead, head_text, head_of, counted_line, entries_text, output_text, int_state_text}
use Rattle.text_laws.specs.Spellings.{frac_state_text, rest_text, spelling, IsInRange}
use Rattle.text_laws.specs.Refusals.{IsWithin, IsTextOf}
use Rattle.text_laws.proofs.Numbers.{decimal_numeral}
use Rattle.text_laws.proofs.Counted.{same_texts}

small : ℕ → Type 0
small n = n < 2 ^ 64

-- the table of a spelling within the limits is a table
pub table_within : (vs : List (List ℕ × Sort)) (t : Table) → IsInRange vs t → IsWithin (head_of vs t) → IsTable t
table_within vs t i w = record {
  shape = record {
    base_low = i.head.base_low;
    base_high = i.head.base_high;
    few_letters = subst (λ n. t.base ^ n ≤ 4096) (sym i.rest.tracks) w.few_letters;
    some_state = i.head.some_int;
    few_cells = subst (λ n. (length t.outs + length t.colours) * (t.base ^ n + 1) ≤ 16777216) (sym i.rest.tracks) w.few_cells;
  };
  roots_count = i.rest.roots_count;
  rows_count = i.rest.rows_count;
  frac_rows_count = i.rest.frac_rows_count;
  roots_in = i.rest.roots_in;
  rows_in = i.rest.rows_in;
  outs_in = i.rest.outs_in;
  frac_rows_in = i.rest.frac_rows_in;
  colours_in = i.rest.colours_in;
}

-- and a table under first lines of its sizes is in range
pub range_of_table : (vs : List (List ℕ × Sort)) (t : Table) → IsHead (head_of vs t) → t.tracks ≡ length vs → IsTable t → IsInRange vs t
range_of_table vs t h e t_is = record {
  head = h;
  rest = record {
    base = refl;
    tracks = e;
    ints = refl;
    fracs = refl;
    roots_count = t_is.roots_count;
    rows_count = t_is.rows_count;
    frac_rows_count = t_is.frac_rows_count;
    roots_in = t_is.roots_in;
    rows_in = t_is.rows_in;
    outs_in = t_is.outs_in;
    frac_rows_in = t_is.frac_rows_in;
    colours_in = t_is.colours_in;
  };
}

pub within_of_table : (vs : List (List ℕ × Sort)) (t : Table) → t.tracks ≡ length vs → IsTable t → IsWithin (head_of vs t)
within_of_table vs t e h = record {
  few_letters = subst (λ n. t.base ^ n ≤ 4096) e h.shape.few_letters;
  few_cells = subst (λ n. (length t.outs + length t.colours) * (t.base ^ n + 1) ≤ 16777216) e h.shape.few_cells;
}

few_states : (t : Table) → IsTable t → length t.outs + length t.colours ≤ 16777216
few_states t h = at_most (length t.outs + length t.colours) (letters t) h.shape.few_cells
  where
    at_most : (n w : ℕ) → n * (w + 1) ≤ 16777216 → n ≤ 16777216
    at_most n w h = grind arith

after_same : (n : ℕ) → n < 2 ^ 64 → number_text n ≡ numeral_after n
after_same n h = ap (λ d. codes " " ++ d) (decimal_numeral n h)

targets_same : (rows : List ℕ) (start width : ℕ) → ((l : ℕ) → l < width → slice_index rows (start + l) < 2 ^ 64)
    → texts_upto (λ l. number_text (slice_index rows (start + l))) width ≡ entries_text rows start width
targets_same rows start width h = same_texts (λ l. number_text (slice_index rows (start + l))) (λ l. numeral_after (slice_index rows (start + l))) width
    (λ l lt. after_same (slice_index rows (start + l)) (h l lt))

some_line : (n : ℕ) (a b : List ℕ) → 0 < n → (if nat_eq n 0 then a else b) ≡ b
some_line n a b h = grind arith

frac_line_same : (real : Bool) (f : ℕ) → (real ≡ true → 1 ≤ f) → (real ≡ false → f ≡ 0) → f < 2 ^ 64
    → fracs_line f ≡ (if real then counted_line (codes "frac") f else [])
frac_line_same true zero h k s = absurd (omega (arith, h refl))
frac_line_same true (suc f) h k s = some_line (suc f) [] (number_line (codes "frac") (suc f)) (omega arith)
    ∙ ap (λ d. line (codes "frac") d) (after_same (suc f) s)
frac_line_same false zero h k s = refl
frac_line_same false (suc f) h k s = absurd (omega (arith, k refl))

-- the text that is written is the spelling
pub text_is_spelling : (vs : List (List ℕ × Sort)) (t : Table) → IsHead (head_of vs t) → IsTable t → text_of vs t ≡ spelling vs t
unfolding text_of heading counts head_text rest_text
text_is_spelling vs t hd h =
    ap₂ (λ b r. (codes "lash 1\n" ++ (line (codes "base") b ++ line (codes "vars") (variables_text vs))) ++ r)
    (after_same t.base (omega (arith, h.shape.base_high))) rest_same
    ∙ joined (line (codes "base") (numeral_after t.base)) (line (codes "vars") (variables_text vs)) (counted_line (codes "int") (ints t))
    (if has_real vs then counted_line (codes "frac") (fracs t) else [])
    (line (codes "roots") (entries_text t.roots 0 (2 ^ t.tracks)))
    (texts_upto (int_state_text t) (ints t) ++ (texts_upto (frac_state_text t) (fracs t) ++ codes "end\n"))
  where
    few : length t.outs + length t.colours ≤ 16777216
    few = few_states t h

    out_small : (q : ℕ) → q < length t.outs → slice_index t.outs q < 2 ^ 64
    out_small q lt = by (read_below t.outs (out_bound (length t.colours)) q h.outs_in lt) (bound (length t.colours))
      where
        bound : (n : ℕ) → out_bound n ≤ n + 2
        bound n = grind arith

        by : slice_index t.outs q < out_bound (length t.colours) → out_bound (length t.colours) ≤ length t.colours + 2 → slice_index t.outs q < 2 ^ 64
        by x y = omega (arith, x, y, few)

    out_same : (q : ℕ) → q < length t.outs → out_text t (slice_index t.outs q) ≡ output_text t q
    out_same q lt = ap (λ d. if nat_eq (fracs t) 0 then answer_text (nat_eq (slice_index t.outs q) 1) else d)
        (after_same (slice_index t.outs q) (out_small q lt))

    int_same : (q : ℕ) → q < ints t → int_line t q ≡ int_state_text t q
    int_same q lt = ap₂ (λ d o. d ++ (o ++ (targets_text t.rows (letters t) q ++ codes "\n"))) (decimal_numeral q (omega (arith, lt, few))) (out_same q lt)
        ∙ ap (λ e. numeral q ++ (output_text t q ++ (e ++ codes "\n"))) (targets_same t.rows (q * letters t) (letters t)
        (λ l k. omega (
          arith,
          few,
          read_below t.rows (length t.outs) (q * letters t + l) h.rows_in
              (subst (λ n. q * letters t + l < n) (sym h.rows_count) (place_within q (length t.outs) (letters t) l lt k)),
        )))

    frac_same : (q : ℕ) → q < fracs t → frac_line t q ≡ frac_state_text t q
    frac_same q lt = ap (λ d. d ++ (answer_text (nat_eq (slice_index t.colours q) 1) ++ (targets_text t.frac_rows (letters t) q ++ codes "\n")))
        (decimal_numeral q (omega (arith, lt, few)))
        ∙ ap (λ e. numeral q ++ (answer_text (nat_eq (slice_index t.colours q) 1) ++ (e ++ codes "\n"))) (targets_same t.frac_rows (q * letters t) (letters t)
        (λ l k. omega (
          arith,
          few,
          read_below t.frac_rows (length t.colours) (q * letters t + l) h.frac_rows_in
              (subst (λ n. q * letters t + l < n) (sym h.frac_rows_count) (place_within q (length t.colours) (letters t) l lt k)),
        )))

    roots_same : roots_text t ≡ entries_text t.roots 0 (2 ^ t.tracks)
    roots_same = same_texts (λ sign. number_text (slice_index t.roots sign)) (λ i. numeral_after (slice_index t.roots (0 + i))) (2 ^ t.tracks)
        (λ i lt. after_same (slice_index t.roots i)
        (omega (arith, few, read_below t.roots (length t.outs) i h.roots_in (omega (arith, lt, h.roots_count))))
        ∙ ap (λ n. numeral_after (slice_index t.roots n)) (plain i))
      where
        plain : (i : ℕ) → i ≡ 0 + i
        plain i = omega arith

    rest_same : counts t ++ (texts_upto (int_line t) (ints t) ++ (texts_upto (frac_line t) (fracs t) ++ codes "end\n"))
        ≡ (counted_line (codes "int") (ints t) ++
        ((if has_real vs then counted_line (codes "frac") (fracs t) else []) ++ line (codes "roots") (entries_text t.roots 0 (2 ^ t.tracks))))
        ++ (texts_upto (int_state_text t) (ints t) ++ (texts_upto (frac_state_text t) (fracs t) ++ codes "end\n"))
    rest_same = ap₂ (λ c r. c ++ r)
        (ap₂ (λ n m. line (codes "int") n ++ m) (after_same (ints t) (omega (arith, few)))
        (ap₂ (λ f r. f ++ line (codes "roots") r) (frac_line_same (has_real vs) (fracs t) hd.some_frac hd.no_frac (omega (arith, few))) roots_same))
        (ap₂ (λ x y. x ++ (y ++ codes "end\n")) (same_texts (int_line t) (int_state_text t) (ints t) int_same)
        (same_texts (frac_line t) (frac_state_text t) (fracs t) frac_same))

    joined : (b v i f r s : List ℕ) → (codes "lash 1\n" ++ (b ++ v)) ++ ((i ++ (f ++ r)) ++ s) ≡ (codes "lash 1\n" ++ (b ++ (v ++ (i ++ f)))) ++ (r ++ s)
    joined b v i f r s = simp append_assoc

-- what is read is the text that is written
pub text_read : (bytes : List ℕ) (vs : List (List ℕ × Sort)) (t : Table) → IsTextOf bytes vs t → bytes ≡ text_of vs t
text_read bytes vs t x = x.spelled.is ∙ sym (text_is_spelling vs t x.spelled.in_range.head (table_within vs t x.spelled.in_range x.within))

-- ---- sizes that are surely beyond the limits
pub many_states_pass : (h : Head) → 16777216 < h.ints + h.fracs → IsWithin h → ⊥
many_states_pass h many w = beyond (h.ints + h.fracs) (h.base ^ length h.variables) many w.few_cells
  where
    beyond : (n w : ℕ) → 16777216 < n → n * (w + 1) ≤ 16777216 → ⊥
    beyond n w many few = grind arith

two_to : (n k : ℕ) → n ≤ k → 2 ^ n ≤ 2 ^ k
two_to n k h = pow-le-pow_right (omega arith) h

pub many_variables_pass : (h : Head) → IsHead h → 12 < length h.variables → IsWithin h → ⊥
many_variables_pass h i many w = omega (arith, w.few_letters, two_to 13 (length h.variables) many, pow-le-pow_left i.base_low (length h.variables))
