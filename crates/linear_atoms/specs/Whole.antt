-- The table of whole numbers as far as it is filled.
use Rattle.std.specs.Prelude.{◌≡◌, ℕ, zero, suc, ◌+◌, ◌*◌, ◌^◌, ◌<◌, [], ◌∷◌, slice_index, replicate}
use Rattle.lash_model.specs.Letters.{digit}
use Rattle.lash_model.specs.Tables.{IsTable}
use Rattle.lasso_laws.specs.WholeNumbers.{first_state, zeros_state, last_state}
use Rattle.step_tables.specs.Kept.{Kept}

-- base, fraction state, digit: the fraction state to which the digit leads
abbrev pub whole_step : ℕ → ℕ → ℕ → ℕ
whole_step r zero d = first_state r d
whole_step r (suc zero) d = zeros_state d
whole_step r (suc (suc zero)) d = last_state r d
whole_step r (suc (suc (suc q))) d = 3

-- one integer state that leads to itself and whose output is 0, and four fraction states of colour no, with the first entries of their
-- rows filled
pub record AreWholeSteps (base filled : ℕ) (k : Kept) : Type 0 where
  pub base_is : k.table.base ≡ base
  pub tracks_are : k.table.tracks ≡ 1
  pub roots_are : k.table.roots ≡ replicate (2 ^ 1) 0
  pub rows_are : k.table.rows ≡ replicate (1 * base ^ 1) 0
  pub outs_are : k.table.outs ≡ 0 ∷ []
  pub colours_are : k.table.colours ≡ 0 ∷ 0 ∷ 0 ∷ 0 ∷ []
  pub wide : k.bounds.frac_rows ≡ 2 ^ 32
  pub table : IsTable k.table
  pub each : (q l : ℕ) → q < 4 → l < base ^ 1 → q * base ^ 1 + l < filled
      → slice_index k.table.frac_rows (q * base ^ 1 + l) ≡ whole_step base q (digit base 1 0 l)
