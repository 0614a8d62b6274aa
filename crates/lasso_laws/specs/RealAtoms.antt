-- Tables of atoms over the fractions (own). Integer states count the thresholds of all bounds of the window. Fraction states are the
-- bounds of the window in their order, then one for all bounds above it, and last one for all bounds below it; for an equation one state
-- serves for both.
use Rattle.std.specs.Prelude.{◌≡◌, ℕ, ◌+◌, ◌*◌, ◌^◌, ◌<◌, ◌≤◌, if◌then◌else◌, List, length, slice_index, unsigned_abs, int_lt, ℤ, pos, ◌+ℤ◌, ◌-ℤ◌}
use Rattle.std.specs.List.{slice_index_or}
use Rattle.lash_model.specs.Formulas.{Linear, coefficient_sum, Comparison}
use Rattle.lash_model.specs.Tables.{Table}
use Rattle.threshold_laws.specs.Thresholds.{letter_total, representative, AreThresholds, StepsByThresholds, TooManyThresholds, atom_cells}
use Rattle.lasso_laws.specs.Windows.{lowest, window, window_end, next_bound, window_seeds}

-- the number of fraction states
abbrev pub bound_states : List (ℕ × ℤ) → ℕ
bound_states terms = coefficient_sum terms + 2

-- the state of a bound: the last one below the window, how far it is from the lowest bound inside, and the first after those above
abbrev pub bound_state : Comparison → List (ℕ × ℤ) → ℤ → ℕ
bound_state kind terms x =
    if int_lt x (lowest terms) then coefficient_sum terms + 1 else (if int_lt x (window_end kind terms) then unsigned_abs (x -ℤ lowest terms) else window kind terms)

-- rows and colours of those states: a bound of the window leads to the state of its next bound, the others stay, and all but the last
-- have colour yes
pub record IsWindowGraph (kind : Comparison) (terms : List (ℕ × ℤ)) (r n : ℕ) (rows colours : List ℕ) : Type 0 where
  pub states : length colours ≡ bound_states terms
  pub inside : (q l : ℕ) → q < window kind terms → l < r ^ n
      → slice_index rows (q * r ^ n + l) ≡ bound_state kind terms (next_bound terms r n (lowest terms +ℤ pos q) l)
  pub outside : (q l : ℕ) → window kind terms ≤ q → q < bound_states terms → l < r ^ n → slice_index rows (q * r ^ n + l) ≡ q
  pub yes_colours : (q : ℕ) → q < coefficient_sum terms + 1 → slice_index colours q ≡ 1
  pub no_colour : slice_index colours (coefficient_sum terms + 1) ≡ 0

-- the table of an atom over the fractions: it counts exactly the thresholds of the window's bounds, an output is the state of the bound
-- that is left, and the cells of both parts are within the limit
pub record IsRealAtomTable (kind : Comparison) (a : Linear) (r n limit : ℕ) (t : Table) : Type 0 where
  pub found : List ℤ
  pub thresholds : AreThresholds r (r ^ n) (letter_total a.terms r n) (window_seeds kind a) found
  pub steps : StepsByThresholds a r n found t
  pub outs : (c : ℕ) → c < length found + 1 → slice_index_or t.outs c 0 ≡ bound_state kind a.terms (a.constant -ℤ representative found c)
  pub graph : IsWindowGraph kind a.terms r n t.frac_rows t.colours
  pub within : atom_cells (r ^ n) (length found) (bound_states a.terms) ≤ limit

-- the table of an atom over the fractions has more cells than the limit
abbrev pub IsHeavyRealAtom : Comparison → Linear → ℕ → ℕ → ℕ → Type 0
IsHeavyRealAtom kind a r n limit = TooManyThresholds r (r ^ n) (letter_total a.terms r n) (window_seeds kind a) (bound_states a.terms) limit
