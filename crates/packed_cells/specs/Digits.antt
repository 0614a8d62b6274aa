-- Numbers and their digits in any base, the lowest digit first.
use Rattle.std.specs.Prelude.{ℕ, zero, suc, ◌+◌, ◌*◌, ◌/◌, ◌%◌, List, [], ◌∷◌}

-- the number with these digits
abbrev pub number_of : ℕ → List ℕ → ℕ
number_of base [] = 0
number_of base (d ∷ ds) = d + base * number_of base ds

-- the lowest digits of a number: base, how many, the number
abbrev pub digits_of : ℕ → ℕ → ℕ → List ℕ
digits_of base zero n = []
digits_of base (suc count) n = n % base ∷ digits_of base count (n / base)
