-- How great the coefficients at one place are together (own). It bounds each sum of coefficients while products are added.
use Rattle.std.specs.Prelude.{ℕ, ◌+◌, List, [], ◌∷◌, Bool, true, false, nat_eq, ℤ, unsigned_abs}

-- a number where the test holds, and 0 elsewhere
abbrev pub where_it_is : Bool → ℕ → ℕ
where_it_is true n = n
where_it_is false n = 0

-- the magnitudes of the coefficients at the place, added up
unfoldable pub weight_at : List (ℕ × ℤ) → ℕ → ℕ
weight_at [] place = 0
weight_at (t ∷ ts) place = where_it_is (nat_eq t.0 place) (unsigned_abs t.1) + weight_at ts place
