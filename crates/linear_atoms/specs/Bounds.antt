-- The window of bounds of an atom, and tables of atoms over the fractions as far as they are filled.
use Rattle.std.specs.Prelude.{ℕ, ◌+◌, ◌*◌, ◌^◌, ◌<◌, ◌≤◌, ◌≡◌, nat_lt, if◌then◌else◌, List, length, drop, All, ℤ, pos, ◌+ℤ◌, ◌-ℤ◌, ◌*ℤ◌, unsigned_abs}
use Rattle.std.specs.List.{slice_index_or}
use Rattle.integer_laws.specs.Vectors.{vector}
use Rattle.lash_model.specs.Formulas.{Linear, coefficient_sum, Comparison}
use Rattle.threshold_laws.specs.Thresholds.{one_if, representative}
use Rattle.lasso_laws.specs.Windows.{lowest, window, window_end}
use Rattle.lasso_laws.specs.RealAtoms.{bound_states, bound_state}
use Rattle.step_tables.specs.Kept.{Kept}
use Rattle.linear_atoms.specs.Closing.{entry, IsSmall}
use Rattle.linear_atoms.specs.Filling.{AreEntries, IsPlan, AreStepsFilled}
use Rattle.linear_atoms.specs.declared.filling.Plan.{Plan}
use Rattle.linear_atoms.specs.declared.window.Window.{Window}

-- the least bound of the window, and the sum of the magnitudes of the coefficients
pub record IsWindow (terms : List (ℕ × ℤ)) (least : ℤ) (sum : ℕ) : Type 0 where
  pub least_is : least ≡ lowest terms
  pub sum_is : sum ≡ coefficient_sum terms
  pub small : unsigned_abs least ≤ 2 ^ 24
  pub few : sum ≤ 2 ^ 24

-- a plan of steps with the window of its atom
pub record IsBoundPlan (p : Plan) (w : Window) : Type 0 where
  pub plan : IsPlan p.base p.tracks p.atom.now p.totals.now p.thresholds.now
  pub window_is : IsWindow p.atom.now.terms w.lowest w.sum
  pub atom_is : w.atom.now ≡ p.atom.now
  pub kind_is : w.kind ≡ p.kind
  pub fracs_are : p.fracs ≡ bound_states p.atom.now.terms

-- the state to which a letter of the total leads from a state
abbrev pub bound_target : Comparison → List (ℕ × ℤ) → ℕ → ℕ → ℤ → ℕ
bound_target kind terms base q total =
    if nat_lt q (window kind terms) then bound_state kind terms ((pos base *ℤ (lowest terms +ℤ pos q)) -ℤ total) else q

-- the first outputs are the states of the bounds that are left
pub record AreBoundOuts (kind : Comparison) (a : Linear) (ts : List ℤ) (filled : ℕ) (outs : List ℕ) : Type 0 where
  pub each : (c : ℕ) → c < filled → slice_index_or outs c 0 ≡ bound_state kind a.terms (a.constant -ℤ representative ts c)

-- the first colours are filled: yes for all states but the last
pub record AreBoundColours (terms : List (ℕ × ℤ)) (filled : ℕ) (colours : List ℕ) : Type 0 where
  pub each : (q : ℕ) → q < filled → slice_index_or colours q 0 ≡ one_if (nat_lt q (coefficient_sum terms + 1))

-- the kept table has all roots and rows of its integer states filled, and so many outputs, entries of fraction rows and colours
pub record AreBoundsFilled (kind : Comparison) (a : Linear) (base tracks : ℕ) (totals ts : List ℤ) (outs cells colours : ℕ) (k : Kept) : Type 0 where
  pub steps : AreStepsFilled a base tracks totals ts (bound_states a.terms) (2 ^ tracks) ((length ts + 1) * length totals) k
  pub outs_filled : AreBoundOuts kind a ts outs k.table.outs
  pub rows_filled : AreEntries (bound_states a.terms) (length totals) cells (λ q l. bound_target kind a.terms base q (entry totals l)) k.table.frac_rows
  pub colours_filled : AreBoundColours a.terms colours k.table.colours

-- the coefficients of the first terms are summed, of those that are below 0
pub record AreNegativesSummed (terms : List (ℕ × ℤ)) (at : ℕ) (sum : ℤ) : Type 0 where
  pub rest : lowest (drop at terms) +ℤ sum ≡ lowest terms
  pub small : unsigned_abs sum + coefficient_sum (drop at terms) ≤ coefficient_sum terms

-- the magnitudes of the first coefficients are summed
pub record AreMagnitudesSummed (terms : List (ℕ × ℤ)) (at sum : ℕ) : Type 0 where
  pub rest : coefficient_sum (drop at terms) + sum ≡ coefficient_sum terms

-- the first seeds of the window, each of them small
pub record AreSeeds (kind : Comparison) (a : Linear) (count : ℕ) (seeds : List ℤ) : Type 0 where
  pub seeds_are : seeds ≡ vector (λ i. (a.constant -ℤ window_end kind a.terms) +ℤ pos i) count
  pub small : All IsSmall seeds
