-- Vectors of fractions: floors, what stands above them, and the denominator that all have in common.
use Rattle.std.specs.Prelude.{ℕ, ◌*◌, ◌^◌, ◌≤◌, ◌<◌, List, All, ℤ, pos, negsuc, ◌≤ℤ◌, unsigned_abs}
use Rattle.std.specs.Int.{int_div_euclid, int_rem_euclid}
use Prim.Native.Nat.{◌∣◌}
use Rattle.fraction_codes.specs.declared.ratio.Ratio.{Ratio}

-- a fraction: its denominator is positive
pub record IsFraction (v : Ratio) : Type 0 where
  pub positive : (pos 1) ≤ℤ v.den

-- the range of what is encoded: the denominator is positive, and neither part passes 2 ^ 100
pub record IsSmall (v : Ratio) : Type 0 where
  pub positive : (pos 1) ≤ℤ v.den
  pub den : unsigned_abs v.den ≤ 2 ^ 100
  pub num : unsigned_abs v.num ≤ 2 ^ 100

-- 1 for a negative integer, and 0 for any other
abbrev pub sign_of : ℤ → ℕ
sign_of (pos n) = 0
sign_of (negsuc n) = 1

-- the greatest integer that is not above the fraction
abbrev pub floor : Ratio → ℤ
floor v = int_div_euclid v.num v.den

-- the numerator, over the same denominator, of what is above the floor
abbrev pub above_floor : Ratio → ℕ
above_floor v = unsigned_abs (int_rem_euclid v.num v.den)

-- k times the fraction is an integer
abbrev pub IsWholeTimes : ℕ → Ratio → Type 0
IsWholeTimes k v = unsigned_abs v.den ∣ (unsigned_abs v.num * k)

-- the least common denominator, which is the least common multiple of the denominators in lowest terms: d times each fraction is
-- an integer, and each number of which that is true is a multiple of d
pub record IsCommonDenominator (vs : List Ratio) (d : ℕ) : Type 0 where
  pub positive : 0 < d
  pub clears : All (IsWholeTimes d) vs
  pub least : (k : ℕ) → All (IsWholeTimes k) vs → d ∣ k

-- the least common denominator passes 65,536
pub record IsTooFine (vs : List Ratio) : Type 0 where
  pub denominator : ℕ
  pub common : IsCommonDenominator vs denominator
  pub passes : 65536 < denominator
