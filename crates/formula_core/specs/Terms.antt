-- Linear terms as lists of places and coefficients whose places rise.
use Rattle.std.specs.Prelude.{ℕ, ◌<◌, ◌≤◌, List, [], ◌∷◌, length, slice_index_or, slice_set, ℤ, pos, ◌+ℤ◌, nat_eq, nat_lt, if◌then◌else◌}
use Rattle.std.specs.List.{AllWithin, remove}
use Rattle.std.specs.Ordering.{int_eq}

-- the coefficient at a place; 0 where no term has the place
unfoldable pub coefficient_at : List (ℕ × ℤ) → ℕ → ℤ
coefficient_at [] place = pos 0
coefficient_at (t ∷ ts) place = if nat_eq t.0 place then t.1 else coefficient_at ts place

-- a term in front of terms, unless its coefficient is 0
abbrev pub in_front : ℕ → ℤ → List (ℕ × ℤ) → List (ℕ × ℤ)
in_front place coefficient ts = if int_eq coefficient (pos 0) then ts else (place, coefficient) ∷ ts

-- a coefficient added at a place
unfoldable pub added : List (ℕ × ℤ) → ℕ → ℤ → List (ℕ × ℤ)
added [] place coefficient = in_front place coefficient []
added (t ∷ ts) place coefficient = if nat_lt t.0 place then t ∷ added ts place coefficient
    else (if nat_lt place t.0 then in_front place coefficient (t ∷ ts) else in_front place (t.1 +ℤ coefficient) ts)

-- the terms in front of `at` have places below the given one, and those from there on have not
pub record IsPlaceOf (ts : List (ℕ × ℤ)) (place at : ℕ) : Type 0 where
  pub within : at ≤ length ts
  pub before : AllWithin (λ t. t.0 < place) ts 0 at
  pub behind : AllWithin (λ t. place ≤ t.0) ts at (length ts)

-- a coefficient added to the one of the term at `at`, and no term where the sum is 0
abbrev pub with_sum : List (ℕ × ℤ) → ℕ → ℤ → List (ℕ × ℤ)
with_sum ts at coefficient = let t = slice_index_or ts at (0, pos 0) in
    if int_eq (t.1 +ℤ coefficient) (pos 0) then remove ts at else slice_set ts at (t.0, t.1 +ℤ coefficient)
