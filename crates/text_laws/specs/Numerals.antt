-- Decimal numerals of numbers of any size.
use Rattle.std.specs.Prelude.{ℕ, zero, suc, ◌+◌, ◌*◌, ◌-◌, ◌/◌, ◌%◌, nat_lt, List, [], ◌∷◌, ◌++◌, codes, if◌then◌else◌}

-- the numeral of a number that has at most so many digits after the first
abbrev pub numeral_by : ℕ → ℕ → List ℕ
numeral_by zero n = (48 + n) ∷ []
numeral_by (suc digits) n = if nat_lt n 10 then (48 + n) ∷ [] else numeral_by digits (n / 10) ++ (48 + n % 10) ∷ []

-- the numeral, without leading zeros
unfoldable pub numeral : ℕ → List ℕ
numeral n = numeral_by n n

-- a numeral after a space
abbrev pub numeral_after : ℕ → List ℕ
numeral_after n = codes " " ++ numeral n

-- the number that digits spell after others that spell x
abbrev pub spelled_after : ℕ → List ℕ → ℕ
spelled_after x [] = x
spelled_after x (b ∷ bs) = spelled_after (x * 10 + (b - 48)) bs
