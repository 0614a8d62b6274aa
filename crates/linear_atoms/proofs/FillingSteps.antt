-- Filling an atom's rows, entry by entry.
use Rattle.std.proofs.Common.{◌≡◌, ℕ, ◌+◌, ◌*◌, ◌^◌, ◌≤◌, ◌<◌, List, length, arith, refl, ◌∙◌, sym, ap, subst}
use Rattle.std.proofs.Math.IntN.{ℤ}
use Rattle.std.proofs.Math.Nat.{pow-le-pow_left}
use Rattle.std.specs.Prelude.{slice_set}
use Rattle.std.specs.List.{slice_index_or}
use Rattle.std.proofs.lemmas.Bool.{cases_lt}
use Rattle.std.proofs.lemmas.List.{get_or-set_same, get_or-set_other}
use Rattle.std.proofs.lemmas.Nat.{same_from_place}
use mathlib.Core.Logic.{inl, inr}
use Rattle.lash_model.specs.Formulas.{Linear}
use Rattle.lash_model.specs.Tables.{IsTable}
use Rattle.threshold_laws.specs.Thresholds.{letter_total, sign_total}
use Rattle.lash_model.specs.Letters.{sign_bit}
use Rattle.step_tables.specs.Kept.{Kept}
use Rattle.linear_atoms.specs.Closing.{entry}
use Rattle.linear_atoms.specs.Filling.{target_of, AreEntries, AreRows, AreStepsFilled}

-- there are no more sign vectors than letters
pub few_signs : (base n : ℕ) → 2 ≤ base → base ^ n ≤ 4096 → 2 ^ n ≤ 4096
few_signs base n h k = omega (arith, k, pow-le-pow_left h n)

-- a sign vector's bits are its digits in base 2
pub sign_total_by_digits : (terms : List (ℕ × ℤ)) (n sign : ℕ) → letter_total terms 2 n sign ≡ sign_total terms n sign
unfolding letter_total sign_total sign_bit
sign_total_by_digits terms n sign = refl

pub place_within : (c m w l : ℕ) → c < m → l < w → c * w + l < m * w
place_within c m w l h k = grind arith

-- one entry more
pub entry_more : (states width : ℕ) (target : ℕ → ℕ → ℕ) (state l : ℕ) (rows : List ℕ) (to : ℕ) → AreEntries states width (state * width + l) target rows → l < width → state * width + l < length rows → to ≡ target state l → AreEntries states width (state * width + (l + 1)) target (slice_set rows (state * width + l) to)
entry_more states width target state l rows to r inside place is = record {
  each = λ c k c_in k_in h. elim (cases_lt (c * width + k) (state * width + l)) [
    | inl before ↦ get_or-set_other rows (state * width + l) (c * width + k) to 0 (apart (c * width + k) before) ∙ r.each c k c_in k_in before
    | inr last ↦ written c k k_in (omega (arith, h, last))
  ];
}
  where
    apart : (p : ℕ) → p < state * width + l → p ≡ state * width + l → ⊥
    apart p h e = omega (arith, h, e)

    written : (c k : ℕ) → k < width → c * width + k ≡ state * width + l → slice_index_or (slice_set rows (state * width + l) to) (c * width + k) 0 ≡ target c k
    written c k k_in e = let same = same_from_place c k state l width k_in inside e in
        ap (λ p. slice_index_or (slice_set rows (state * width + l) to) p 0) e ∙ get_or-set_same rows (state * width + l) to 0 place ∙ is ∙ ap (λ x. target x l) (sym same.0) ∙ ap (λ x. target c x) (sym same.1)

-- the kept table with one target written
pub filling_row : (a : Linear) (base n : ℕ) (totals ts : List ℤ) (fracs roots state l to : ℕ) (k : Kept) → AreStepsFilled a base n totals ts fracs roots (state * length totals + l) k → IsTable (record k.table { rows = slice_set k.table.rows (state * k.table.base ^ k.table.tracks + l) to }) → state < length ts + 1 → l < length totals → length totals ≡ base ^ n → to ≡ target_of base ts state (entry totals l) → AreStepsFilled a base n totals ts fracs roots (state * length totals + (l + 1)) (record k { table = record k.table { rows = slice_set k.table.rows (state * k.table.base ^ k.table.tracks + l) to } })
filling_row a base n totals ts fracs roots state l to k f table state_in l_in width is = record {
  shape = record { base_is = f.shape.base_is; tracks_are = f.shape.tracks_are; states = f.shape.states; fractions = f.shape.fractions; table = table };
  wide = record { roots = f.wide.roots; rows = f.wide.rows; outs = f.wide.outs; frac_rows = f.wide.frac_rows };
  roots_filled = f.roots_filled;
  rows_filled = subst (λ w. AreRows base totals ts (state * length totals + (l + 1)) (slice_set k.table.rows (state * w + l) to)) letters_are (entry_more (length ts + 1) (length totals) (λ c j. target_of base ts c (entry totals j)) state l k.table.rows to f.rows_filled l_in (subst (λ m. state * length totals + l < m) (sym rows_are) (place_within state (length ts + 1) (length totals) l state_in l_in)) is);
}
  where
    letters_are : length totals ≡ k.table.base ^ k.table.tracks
    letters_are = width ∙ ap (λ b. b ^ n) (sym f.shape.base_is) ∙ ap (λ m. k.table.base ^ m) (sym f.shape.tracks_are)

    rows_are : length k.table.rows ≡ (length ts + 1) * length totals
    rows_are = f.shape.table.rows_count ∙ ap (λ m. m * k.table.base ^ k.table.tracks) f.shape.states ∙ ap (λ m. (length ts + 1) * m) (sym letters_are)
