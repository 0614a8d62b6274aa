-- The totals of letters' digits, and sums of coefficient times digit on the way.
use Rattle.std.specs.Prelude.{ℕ, ◌+◌, ◌-◌, ◌*◌, ◌^◌, ◌<◌, ◌≤◌, ◌≡◌, List, length, drop, All, ℤ, pos, ◌+ℤ◌, unsigned_abs}
use Rattle.std.specs.List.{slice_index_or}
use Rattle.integer_laws.specs.Vectors.{vector, vector_from}
use Rattle.lash_model.specs.Letters.{digit}
use Rattle.linear_atoms.specs.Closing.{IsSmallTotal}
use Rattle.lash_model.specs.Formulas.{coefficient_sum}
use Rattle.lash_model.specs.Meaning.{total}
use Rattle.threshold_laws.specs.Thresholds.{letter_total}

-- the term at an index
abbrev pub term_at : List (ℕ × ℤ) → ℕ → ℕ × ℤ
term_at ts i = slice_index_or ts i (0, pos 0)

-- the list has the total of each letter
pub record AreTotals (terms : List (ℕ × ℤ)) (base tracks : ℕ) (totals : List ℤ) : Type 0 where
  pub count : length totals ≡ base ^ tracks
  pub each : (l : ℕ) → l < base ^ tracks → slice_index_or totals l (pos 0) ≡ letter_total terms base tracks l

-- the list has the totals of the first letters, each in its window
pub record HasTotals (terms : List (ℕ × ℤ)) (base tracks : ℕ) (totals : List ℤ) (letters : ℕ) : Type 0 where
  pub count : length totals ≡ letters
  pub each : (l : ℕ) → l < letters → slice_index_or totals l (pos 0) ≡ letter_total terms base tracks l
  pub small : All (IsSmallTotal base) totals

-- the digits of a letter, as a vector
unfoldable pub letter_digits : ℕ → ℕ → ℕ → List ℤ
letter_digits base tracks letter = vector (λ i. pos (digit base tracks i letter)) tracks

-- the first terms have been added up, with digits up to k
pub record IsSumming (terms : List (ℕ × ℤ)) (ns : List ℤ) (k at : ℕ) (sum : ℤ) : Type 0 where
  pub rest : total (drop at terms) ns +ℤ sum ≡ total terms ns
  pub small : unsigned_abs sum + k * coefficient_sum (drop at terms) ≤ k * coefficient_sum terms
