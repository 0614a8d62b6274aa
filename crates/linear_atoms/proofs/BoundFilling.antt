-- Filling the fraction rows of an atom's table, entry by entry, and the table of an atom over the fractions once it is filled.
use Rattle.std.proofs.Common.{◌≡◌, ℕ, zero, suc, ◌+◌, ◌-◌, ◌*◌, ◌^◌, ◌≤◌, ◌<◌, List, [], ◌∷◌, length, arith, refl, ◌∙◌, sym, ap, subst}
use Rattle.std.proofs.Math.IntN.{ℤ, pos, ◌+ℤ◌, ◌-ℤ◌, ◌*ℤ◌}
use Rattle.std.specs.Prelude.{slice_set, slice_index, nat_lt}
use Rattle.std.specs.List.{slice_index_or}
use mathlib.Core.Logic.{inl, inr}
use Rattle.std.proofs.lemmas.Int.{ints}
use Rattle.integer_laws.specs.Vectors.{vector, vector_from}
use Rattle.integer_laws.proofs.Entries.{length-vector_from}
use Rattle.lash_model.specs.Formulas.{Linear, coefficient_sum, Comparison}
use Rattle.lash_model.specs.Tables.{IsTable}
use Rattle.threshold_laws.specs.Thresholds.{one_if, letter_total, Among, AreThresholds}
use Rattle.threshold_laws.proofs.AtomTables.{seed_is_threshold, some_member, given_threshold}
use Rattle.lasso_laws.specs.Windows.{lowest, window, window_end, window_seeds}
use Rattle.lasso_laws.specs.RealAtoms.{bound_states, bound_state, IsWindowGraph, IsRealAtomTable}
use Rattle.lasso_laws.proofs.RealAtomTables.{window_below}
use Rattle.step_tables.specs.Kept.{Kept}
use Rattle.linear_atoms.specs.Closing.{entry, IsOverfull}
use Rattle.linear_atoms.specs.Totals.{AreTotals}
use Rattle.linear_atoms.specs.Filling.{AreEntries}
use Rattle.linear_atoms.specs.Bounds.{bound_target, AreBoundsFilled}
use Rattle.linear_atoms.proofs.FillingSteps.{entry_more, place_within}
use Rattle.linear_atoms.proofs.Finishing.{filled_steps, atom_thresholds, few_cells}

-- the kept table with one target written
pub filling_bound : (kind : Comparison) (a : Linear) (base n : ℕ) (totals ts : List ℤ) (outs state l to : ℕ) (k : Kept) → AreBoundsFilled kind a base n totals ts outs (state * length totals + l) 0 k
    → IsTable (record k.table { frac_rows = slice_set k.table.frac_rows (state * k.table.base ^ k.table.tracks + l) to }) → state < bound_states a.terms → l < length totals → length totals ≡ base ^ n
    → to ≡ bound_target kind a.terms base state (entry totals l)
    → AreBoundsFilled kind a base n totals ts outs (state * length totals + (l + 1)) 0 (record k { table = record k.table { frac_rows = slice_set k.table.frac_rows (state * k.table.base ^ k.table.tracks + l) to } })
filling_bound kind a base n totals ts outs state l to k f table state_in l_in width is = record {
  steps = record {
    shape = record { base_is = f.steps.shape.base_is; tracks_are = f.steps.shape.tracks_are; states = f.steps.shape.states; fractions = f.steps.shape.fractions; table = table };
    wide = record { roots = f.steps.wide.roots; rows = f.steps.wide.rows; outs = f.steps.wide.outs; frac_rows = f.steps.wide.frac_rows };
    roots_filled = f.steps.roots_filled;
    rows_filled = f.steps.rows_filled;
  };
  outs_filled = f.outs_filled;
  rows_filled = subst (λ w. AreEntries (bound_states a.terms) (length totals) (state * length totals + (l + 1)) (λ q j. bound_target kind a.terms base q (entry totals j)) (slice_set k.table.frac_rows (state * w + l) to)) letters_are
      (entry_more (bound_states a.terms) (length totals) (λ q j. bound_target kind a.terms base q (entry totals j)) state l k.table.frac_rows to f.rows_filled l_in (subst (λ m. state * length totals + l < m) (sym rows_are) (place_within state (bound_states a.terms) (length totals) l state_in l_in)) is);
  colours_filled = f.colours_filled;
}
  where
    letters_are : length totals ≡ k.table.base ^ k.table.tracks
    letters_are = width ∙ ap (λ b. b ^ n) (sym f.steps.shape.base_is) ∙ ap (λ m. k.table.base ^ m) (sym f.steps.shape.tracks_are)

    rows_are : length k.table.frac_rows ≡ bound_states a.terms * length totals
    rows_are = f.steps.shape.table.frac_rows_count ∙ ap (λ m. m * k.table.base ^ k.table.tracks) f.steps.shape.fractions ∙ ap (λ m. bound_states a.terms * m) (sym letters_are)

-- ---- the filled table
one_if_less : (q m : ℕ) → q < m → one_if (nat_lt q m) ≡ 1
one_if_less q m h = grind arith

one_if_same : (m : ℕ) → one_if (nat_lt m m) ≡ 0
one_if_same m = grind arith

target_inside : (kind : Comparison) (terms : List (ℕ × ℤ)) (r q : ℕ) (total : ℤ) → q < window kind terms → bound_target kind terms r q total ≡ bound_state kind terms ((pos r *ℤ (lowest terms +ℤ pos q)) -ℤ total)
target_inside kind terms r q total h = grind arith

target_outside : (kind : Comparison) (terms : List (ℕ × ℤ)) (r q : ℕ) (total : ℤ) → window kind terms ≤ q → bound_target kind terms r q total ≡ q
target_outside kind terms r q total h = grind arith

filled_graph : (kind : Comparison) (a : Linear) (r n : ℕ) (totals ts : List ℤ) (outs : ℕ) (k : Kept) → AreTotals a.terms r n totals → AreBoundsFilled kind a r n totals ts outs (bound_states a.terms * length totals) (bound_states a.terms) k
    → IsWindowGraph kind a.terms r n k.table.frac_rows k.table.colours
filled_graph kind a r n totals ts outs k t f = record {
  states = f.steps.shape.fractions;
  inside = λ q l q_in l_in. at q l (omega (arith, q_in, window_below kind a.terms)) l_in ∙ target_inside kind a.terms r q (letter_total a.terms r n l) q_in;
  outside = λ q l out q_in l_in. at q l q_in l_in ∙ target_outside kind a.terms r q (letter_total a.terms r n l) out;
  yes_colours = λ q h. f.colours_filled.each q (omega (arith, h)) ∙ one_if_less q (coefficient_sum a.terms + 1) h;
  no_colour = f.colours_filled.each (coefficient_sum a.terms + 1) (omega arith) ∙ one_if_same (coefficient_sum a.terms + 1);
}
  where
    at : (q l : ℕ) → q < bound_states a.terms → l < r ^ n → slice_index k.table.frac_rows (q * r ^ n + l) ≡ bound_target kind a.terms r q (letter_total a.terms r n l)
    at q l q_in l_in =
        let l_total : l < length totals = subst (λ w. l < w) (sym t.count) l_in in
        subst (λ w. slice_index k.table.frac_rows (q * w + l) ≡ bound_target kind a.terms r q (letter_total a.terms r n l)) t.count
        (f.rows_filled.each q l q_in l_total (place_within q (bound_states a.terms) (length totals) l q_in l_total) ∙ ap (bound_target kind a.terms r q) (t.each l l_in))

first_seed : (kind : Comparison) (a : Linear) → Among ((a.constant -ℤ window_end kind a.terms) +ℤ pos 0) (window_seeds kind a)
unfolding vector_from
first_seed kind a = among (λ i. (a.constant -ℤ window_end kind a.terms) +ℤ pos i) (window kind a.terms)
  where
    among : (f : ℕ → ℤ) (n : ℕ) → Among (f 0) (vector f (n + 1))
    among f n = subst (λ m. Among (f 0) (vector f m)) (same n) (inl refl)
      where
        same : (n : ℕ) → suc n ≡ n + 1
        same n = omega arith

pub some_seed : (kind : Comparison) (a : Linear) (r width : ℕ) (t : ℕ → ℤ) (ts : List ℤ) → AreThresholds r width t (window_seeds kind a) ts → 0 < length ts
some_seed kind a r width t ts e = some_member ts ((a.constant -ℤ window_end kind a.terms) +ℤ pos 0) (given_threshold r width t (window_seeds kind a) ts e ((a.constant -ℤ window_end kind a.terms) +ℤ pos 0) (first_seed kind a))

pub real_atom_table : (kind : Comparison) (a : Linear) (r n : ℕ) (totals ts : List ℤ) (room limit : ℕ) (k : Kept) → AreTotals a.terms r n totals → AreThresholds r (length totals) (entry totals) (window_seeds kind a) ts
    → length ts ≤ room → (0 < room → (room + 1 + bound_states a.terms) * (r ^ n + 1) ≤ limit)
    → AreBoundsFilled kind a r n totals ts (length ts + 1) (bound_states a.terms * length totals) (bound_states a.terms) k → IsRealAtomTable kind a r n limit k.table
real_atom_table kind a r n totals ts room limit k t e few fits f = record {
  found = ts;
  thresholds = atom_thresholds a.terms r n totals (window_seeds kind a) ts t e;
  steps = filled_steps a r n totals ts (bound_states a.terms) k t f.steps;
  outs = f.outs_filled.each;
  graph = filled_graph kind a r n totals ts (length ts + 1) k t f;
  within = few_cells (length ts) room (bound_states a.terms) (r ^ n) limit (some_seed kind a r (length totals) (entry totals) ts e) few fits;
}

-- ---- the seeds alone may be too many
entry_at : (first : ℤ) (i n p : ℕ) (d : ℤ) → p < n → slice_index_or (vector_from (λ j. first +ℤ pos j) i n) p d ≡ first +ℤ pos (i + p)
unfolding vector_from
entry_at first i zero p d h = absurd (omega (arith, h))
entry_at first i (suc n) zero d h = ap (λ j. first +ℤ pos j) (omega arith)
entry_at first i (suc n) (suc p) d h = entry_at first (suc i) n p d (omega (arith, h)) ∙ ap (λ j. first +ℤ pos j) (omega arith)

among_at : (xs : List ℤ) (p : ℕ) (d : ℤ) → p < length xs → Among (slice_index_or xs p d) xs
among_at [] p d h = absurd (omega (arith, h))
among_at (x ∷ xs) zero d h = inl refl
among_at (x ∷ xs) (suc p) d h = inr (among_at xs p d (omega (arith, h)))

pub seeds_overfull : (kind : Comparison) (a : Linear) (r : ℕ) (totals : List ℤ) (room : ℕ) → room < window kind a.terms + 1 → IsOverfull r totals (window_seeds kind a) room
seeds_overfull kind a r totals room h = record {
  found = window_seeds kind a;
  distinct = λ i j d less inside. apart i j d less (subst (λ m. j < m) count inside);
  sound = λ i d inside. seed_is_threshold r (length totals) (entry totals) (window_seeds kind a) (slice_index_or (window_seeds kind a) i d) (among_at (window_seeds kind a) i d inside);
  over = subst (λ m. room < m) (sym count) h;
}
  where
    first : ℤ
    first = a.constant -ℤ window_end kind a.terms

    count : length (window_seeds kind a) ≡ window kind a.terms + 1
    count = length-vector_from (λ i. (a.constant -ℤ window_end kind a.terms) +ℤ pos i) 0 (window kind a.terms + 1)

    differ : (x : ℤ) (i j : ℕ) → i < j → (x +ℤ pos (0 + i)) ≡ x +ℤ pos (0 + j) → ⊥
    differ x i j less e = omega (arith, ints, less, e)

    apart : (i j : ℕ) (d : ℤ) → i < j → j < window kind a.terms + 1 → slice_index_or (window_seeds kind a) i d ≡ slice_index_or (window_seeds kind a) j d → ⊥
    apart i j d less inside e = differ first i j less
        (sym (entry_at first 0 (window kind a.terms + 1) i d (omega (arith, less, inside))) ∙ e ∙ entry_at first 0 (window kind a.terms + 1) j d inside)
