-- The least power of a matrix, found by trial (own).
use Rattle.std.specs.Prelude.{ℕ, zero, suc, ◌+◌, ◌^◌, nat_le, Bool, true, ◌&&◌, Option, None, Some, unsigned_abs, if◌then◌else◌}
use Rattle.std.specs.Ordering.{int_eq}
use Rattle.matrix_powers.specs.Matrices.{Square, power_entry}
use Rattle.matrix_powers.specs.Powers.{powers_limit}

-- the test holds of 0 to n - 1
unfoldable pub all_below : ℕ → (ℕ → Bool) → Bool
all_below zero test = true
all_below (suc n) test = all_below n test && test n

-- the test holds at each row and column
abbrev pub everywhere : Square → (ℕ → ℕ → Bool) → Bool
everywhere a test = all_below a.side (λ row. all_below a.side (λ column. test row column))

-- A ^ (2 p) = A ^ p
abbrev pub comes_again : Square → ℕ → Bool
comes_again a p = everywhere a (λ row column. int_eq (power_entry a (p + p) row column) (power_entry a p row column))

-- no entry of A ^ 1 to A ^ (2 p) passes 2 ^ 40
abbrev pub stays_small : Square → ℕ → Bool
stays_small a p = all_below (p + p) (λ k. everywhere a (λ row column. nat_le (unsigned_abs (power_entry a (suc k) row column)) (2 ^ 40)))

abbrev pub is_power : Square → ℕ → Bool
is_power a p = comes_again a p && stays_small a p

-- the first power among so many numbers from p on
unfoldable pub first_power : Square → ℕ → ℕ → Option ℕ
first_power a p zero = None
first_power a p (suc n) = if is_power a p then Some p else first_power a (suc p) n

-- the least power from 1 to 12, if there is one
abbrev pub power_of : Square → Option ℕ
power_of a = first_power a 1 powers_limit
