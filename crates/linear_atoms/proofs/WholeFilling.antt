-- Filling the table of whole numbers, entry by entry.
use Rattle.std.proofs.Common.{◌≡◌, ℕ, ◌+◌, ◌*◌, ◌^◌, ◌≤◌, ◌<◌, List, length, arith, ◌∙◌, sym, ap, subst}
use Rattle.std.proofs.Math.Nat.{pow-zero, pow-suc}
use Rattle.std.specs.Prelude.{slice_set, slice_index}
use Rattle.std.proofs.lemmas.Bool.{cases_lt}
use Rattle.std.proofs.lemmas.List.{get_or-set_same, get_or-set_other}
use Rattle.std.proofs.lemmas.Nat.{same_from_place}
use mathlib.Core.Logic.{inl, inr}
use Rattle.lash_model.specs.Letters.{digit}
use Rattle.lash_model.specs.Tables.{Table, letters, IsShape, IsTable}
use Rattle.lasso_laws.specs.WholeNumbers.{IsWholeTable}
use Rattle.step_tables.specs.Kept.{Kept}
use Rattle.linear_atoms.specs.Whole.{whole_step, AreWholeSteps}
use Rattle.linear_atoms.proofs.FillingSteps.{place_within}

-- one entry more
steps_more : (base w q l to : ℕ) (rows : List ℕ)
    → ((c k : ℕ) → c < 4 → k < w → c * w + k < q * w + l → slice_index rows (c * w + k) ≡ whole_step base c (digit base 1 0 k))
    → q < 4 → l < w → length rows ≡ 4 * w → to ≡ whole_step base q (digit base 1 0 l)
    → (c k : ℕ) → c < 4 → k < w → c * w + k < q * w + (l + 1)
    → slice_index (slice_set rows (q * w + l) to) (c * w + k) ≡ whole_step base c (digit base 1 0 k)
steps_more base w q l to rows each q_in l_in count is c k c_in k_in h = elim (cases_lt (c * w + k) (q * w + l)) [
  | inl before ↦ get_or-set_other rows (q * w + l) (c * w + k) to 0 (λ e. omega (arith, before, e)) ∙ each c k c_in k_in before
  | inr last ↦ written (omega (arith, h, last))
]
  where
    inside : q * w + l < length rows
    inside = subst (λ m. q * w + l < m) (sym count) (place_within q 4 w l q_in l_in)

    written : c * w + k ≡ q * w + l → slice_index (slice_set rows (q * w + l) to) (c * w + k) ≡ whole_step base c (digit base 1 0 k)
    written e = let same = same_from_place c k q l w k_in l_in e in
        ap (λ p. slice_index (slice_set rows (q * w + l) to) p) e ∙ get_or-set_same rows (q * w + l) to 0 inside ∙ is
        ∙ ap (λ x. whole_step base x (digit base 1 0 l)) (sym same.0) ∙ ap (λ x. whole_step base c (digit base 1 0 x)) (sym same.1)

-- the kept table with one target written
pub whole_row : (base q l to : ℕ) (k : Kept) → AreWholeSteps base (q * base ^ 1 + l) k
    → IsTable (record k.table { frac_rows = slice_set k.table.frac_rows (q * k.table.base ^ k.table.tracks + l) to }) → q < 4 → l < base ^ 1
    → to ≡ whole_step base q (digit base 1 0 l)
    → AreWholeSteps base (q * base ^ 1 + (l + 1))
    (record k { table = record k.table { frac_rows = slice_set k.table.frac_rows (q * k.table.base ^ k.table.tracks + l) to } })
whole_row base q l to k f table q_in l_in is = record {
  base_is = f.base_is;
  tracks_are = f.tracks_are;
  roots_are = f.roots_are;
  rows_are = f.rows_are;
  outs_are = f.outs_are;
  colours_are = f.colours_are;
  wide = f.wide;
  table = table;
  each = subst (λ w. (c j : ℕ) → c < 4 → j < base ^ 1 → c * base ^ 1 + j < q * base ^ 1 + (l + 1)
      → slice_index (slice_set k.table.frac_rows (q * w + l) to) (c * base ^ 1 + j) ≡ whole_step base c (digit base 1 0 j)) width
      (steps_more base (base ^ 1) q l to k.table.frac_rows f.each q_in l_in count is);
}
  where
    width : base ^ 1 ≡ k.table.base ^ k.table.tracks
    width = ap (λ b. b ^ 1) (sym f.base_is) ∙ ap (λ n. k.table.base ^ n) (sym f.tracks_are)

    count : length k.table.frac_rows ≡ 4 * base ^ 1
    count = f.table.frac_rows_count ∙ ap (λ m. m * k.table.base ^ k.table.tracks) (ap length f.colours_are) ∙ ap (λ w. 4 * w) (sym width)

one_letter : (base : ℕ) → base ^ 1 ≡ base
one_letter base = rw (pow-suc base 0, pow-zero base) (omega arith)

pub whole_shape : (base : ℕ) → 2 ≤ base → base ≤ 16 → IsShape base 1 1 4
whole_shape base low high = record {
  base_low = low;
  base_high = high;
  few_letters = omega (arith, one_letter base, high);
  some_state = omega arith;
  few_cells = omega (arith, one_letter base, high);
}

pub whole_letters : (base : ℕ) (t : Table) → IsWholeTable base 1 0 t → base ^ 1 ≡ letters t
whole_letters base t h = ap (λ b. b ^ 1) (sym h.base) ∙ ap (λ n. t.base ^ n) (sym h.tracks)
