-- Whole numbers among the fractions (own): a number is whole exactly if all its digits after the point are 0, or all are r - 1. Every
-- whole number has an expansion of either kind.
use Rattle.std.specs.Prelude.{◌≡◌, ℕ, ◌+◌, ◌-◌, ◌*◌, ◌^◌, ◌<◌, nat_eq, if◌then◌else◌, List, [], ◌∷◌, slice_index, ℤ, pos, ◌*ℤ◌}
use Rattle.std.specs.List.{slice_index_or}
use Rattle.lash_model.specs.Letters.{digit}
use Rattle.lash_model.specs.Tables.{Table}

-- the numerator at a place is a multiple of the denominator; a place past the vector's end counts as 0
abbrev pub whole_at : ℕ → List ℤ → ℕ → Type 0
whole_at track ns d = (m : ℤ) × (slice_index_or ns track (pos 0) ≡ m *ℤ pos d)

-- the fraction states: 0 at the point, 1 if all digits so far are 0, 2 if all are r - 1, and 3 for all others; here those that a digit
-- leads to from 0, from 1 and from 2
abbrev pub first_state : ℕ → ℕ → ℕ
first_state r d = if nat_eq d 0 then 1 else (if nat_eq d (r - 1) then 2 else 3)

abbrev pub zeros_state : ℕ → ℕ
zeros_state d = if nat_eq d 0 then 1 else 3

abbrev pub last_state : ℕ → ℕ → ℕ
last_state r d = if nat_eq d (r - 1) then 2 else 3

-- the table whose one integer state has the output 0, and whose fraction part reads the digits of one track: all states but 3 are yes
pub record IsWholeTable (r n track : ℕ) (t : Table) : Type 0 where
  pub base : t.base ≡ r
  pub tracks : t.tracks ≡ n
  pub roots : (sign : ℕ) → sign < 2 ^ n → slice_index t.roots sign ≡ 0
  pub rows : (l : ℕ) → l < r ^ n → slice_index t.rows (0 * r ^ n + l) ≡ 0
  pub outs : t.outs ≡ 0 ∷ []
  pub colours : t.colours ≡ 1 ∷ 1 ∷ 1 ∷ 0 ∷ []
  pub start : (l : ℕ) → l < r ^ n → slice_index t.frac_rows (0 * r ^ n + l) ≡ first_state r (digit r n track l)
  pub zeros : (l : ℕ) → l < r ^ n → slice_index t.frac_rows (1 * r ^ n + l) ≡ zeros_state (digit r n track l)
  pub last : (l : ℕ) → l < r ^ n → slice_index t.frac_rows (2 * r ^ n + l) ≡ last_state r (digit r n track l)
  pub sink : (l : ℕ) → l < r ^ n → slice_index t.frac_rows (3 * r ^ n + l) ≡ 3
