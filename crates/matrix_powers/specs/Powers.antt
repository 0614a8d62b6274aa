-- The numbers of iterations after which the powers of a matrix come again (own). With A ^ (2 p) = A ^ p all powers from p on do, every p.
use Rattle.std.specs.Prelude.{◌≡◌, ℕ, ◌+◌, ◌^◌, ◌<◌, ◌≤◌, unsigned_abs, Option, None, Some}
use Rattle.matrix_powers.specs.Matrices.{Square, power_entry}

-- A ^ (2 p) = A ^ p, and no entry of A ^ 1 to A ^ (2 p) passes 2 ^ 40
pub record IsPower (a : Square) (p : ℕ) : Type 0 where
  pub again : (row column : ℕ) → row < a.side → column < a.side → power_entry a (p + p) row column ≡ power_entry a p row column
  pub small : (k row column : ℕ) → 1 ≤ k → k ≤ p + p → row < a.side → column < a.side → unsigned_abs (power_entry a k row column) ≤ 2 ^ 40

abbrev pub powers_limit : ℕ
powers_limit = 12

-- the least from 1 to 12
pub record IsLeastPower (a : Square) (p : ℕ) : Type 0 where
  pub some : 1 ≤ p
  pub few : p ≤ powers_limit
  pub power : IsPower a p
  pub least : (q : ℕ) → 1 ≤ q → q < p → IsPower a q → ⊥

-- or there is none
abbrev pub HasNoPower : Square → Type 0
HasNoPower a = (p : ℕ) → 1 ≤ p → p ≤ powers_limit → IsPower a p → ⊥

abbrev pub IsPowerAnswer : Square → Option ℕ → Type 0
IsPowerAnswer a (Some p) = IsLeastPower a p
IsPowerAnswer a None = HasNoPower a
