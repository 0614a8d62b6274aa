-- Atoms over the fractions: the window of bounds (own). After the whole part the bound is the constant less the total of the values,
-- and a letter leads from a bound x to r * x less the letter's total. A bound that has left the window never comes back, so the
-- fraction states are the bounds of the window, and a sink on either side.
use Rattle.std.specs.Prelude.{◌≡◌, ℕ, ◌+◌, ◌*◌, ◌^◌, ◌<◌, List, [], ◌∷◌, length, slice_index, ℤ, pos, negsuc, ◌+ℤ◌, ◌-ℤ◌, ◌*ℤ◌, ◌≤ℤ◌, ◌<ℤ◌}
use Rattle.std.specs.List.{slice_index_or}
use Rattle.integer_laws.specs.Vectors.{vector}
use Rattle.lash_model.specs.Formulas.{Linear, coefficient_sum, Comparison, AtMost, Equal}
use Rattle.lash_model.specs.Tables.{Table}
use Rattle.threshold_laws.specs.Thresholds.{letter_total, representative, StepsByThresholds}

-- a coefficient below 0, and 0 for any other
abbrev pub negative_part : ℤ → ℤ
negative_part (pos n) = pos 0
negative_part (negsuc n) = negsuc n

-- the sum of the coefficients below 0: the least bound of the window
unfoldable pub lowest : List (ℕ × ℤ) → ℤ
lowest [] = pos 0
lowest (t ∷ ts) = negative_part t.1 +ℤ lowest ts

-- how many bounds the window has: from the sum of the coefficients below 0 to the sum of those above 0, without the last for at most
abbrev pub window : Comparison → List (ℕ × ℤ) → ℕ
window AtMost terms = coefficient_sum terms
window Equal terms = coefficient_sum terms + 1

-- the first bound above the window
abbrev pub window_end : Comparison → List (ℕ × ℤ) → ℤ
window_end kind terms = lowest terms +ℤ pos (window kind terms)

-- the colour above the window, for values that are less than the constant: these are at most the constant, and do not equal it
abbrev pub above_colour : Comparison → ℕ
above_colour AtMost = 1
above_colour Equal = 0

-- the bound to which a letter leads from a bound
abbrev pub next_bound : List (ℕ × ℤ) → ℕ → ℕ → ℤ → ℕ → ℤ
next_bound terms r n x l = (pos r *ℤ x) -ℤ letter_total terms r n l

-- rows and colours of fraction states, with the state of each bound: one for all bounds above the window and one for all below it, which
-- lead to themselves, and those of the bounds of the window, which have colour yes and lead to the state of the next bound; there are
-- more states than the magnitudes of the coefficients sum to
pub record IsBoundGraph (kind : Comparison) (terms : List (ℕ × ℤ)) (r n : ℕ) (rows colours : List ℕ) (state : ℤ → ℕ) : Type 0 where
  pub enough : coefficient_sum terms < length colours
  pub inside : (x : ℤ) (l : ℕ) → lowest terms ≤ℤ x → x <ℤ window_end kind terms → l < r ^ n
      → slice_index rows (state x * r ^ n + l) ≡ state (next_bound terms r n x l)
  pub above : (x y : ℤ) → (window_end kind terms) ≤ℤ x → (window_end kind terms) ≤ℤ y → state x ≡ state y
  pub below : (x y : ℤ) → x <ℤ lowest terms → y <ℤ lowest terms → state x ≡ state y
  pub above_stays : (x : ℤ) (l : ℕ) → (window_end kind terms) ≤ℤ x → l < r ^ n → slice_index rows (state x * r ^ n + l) ≡ state x
  pub below_stays : (x : ℤ) (l : ℕ) → x <ℤ lowest terms → l < r ^ n → slice_index rows (state x * r ^ n + l) ≡ state x
  pub inside_yes : (x : ℤ) → lowest terms ≤ℤ x → x <ℤ window_end kind terms → slice_index colours (state x) ≡ 1
  pub above_is : (x : ℤ) → (window_end kind terms) ≤ℤ x → slice_index colours (state x) ≡ above_colour kind
  pub below_no : (x : ℤ) → x <ℤ lowest terms → slice_index colours (state x) ≡ 0

-- the seeds of the thresholds: the values that separate the bounds of the window from each other and from those outside
abbrev pub window_seeds : Comparison → Linear → List ℤ
window_seeds kind a = vector (λ i. (a.constant -ℤ window_end kind a.terms) +ℤ pos i) (window kind a.terms + 1)

-- the table whose integer states count thresholds, each with the state of its bound as output, and whose fraction states are bounds
pub record CountsBounds (kind : Comparison) (a : Linear) (r n : ℕ) (ts : List ℤ) (state : ℤ → ℕ) (t : Table) : Type 0 where
  pub steps : StepsByThresholds a r n ts t
  pub outs : (c : ℕ) → c < length ts + 1 → slice_index_or t.outs c 0 ≡ state (a.constant -ℤ representative ts c)
  pub bounds : IsBoundGraph kind a.terms r n t.frac_rows t.colours state
