-- Linear terms, and formulas of linear arithmetic over integers and reals. Variables are named by place: a formula over n
-- variables uses the places 0 to n - 1, and the body of `Exists` is over one more, which it binds at place n.
use Rattle.std.specs.Prelude.{ℕ, ◌+◌, ◌^◌, ◌<◌, ◌≤◌, ◌≡◌, List, [], ◌∷◌, All, ℤ, pos, unsigned_abs}
use Rattle.std.specs.List.{AllPairs}

pub data Sort : Type 0 where
  Int : Sort
  Real : Sort

-- coefficients at places, and a constant
pub record Linear : Type 0 where
  pub terms : List (ℕ × ℤ)
  pub constant : ℤ

-- the places rise, and no coefficient is 0
pub record IsLinear (a : Linear) : Type 0 where
  pub rising : AllPairs (λ s t. s.0 < t.0) a.terms
  pub nonzero : All (λ t. t.1 ≡ pos 0 → ⊥) a.terms

-- the sum of the magnitudes of the coefficients
unfoldable pub coefficient_sum : List (ℕ × ℤ) → ℕ
coefficient_sum [] = 0
coefficient_sum (t ∷ ts) = unsigned_abs t.1 + coefficient_sum ts

-- the coefficients are within 2 ^ 24 together, and the constant within 2 ^ 40
pub record IsInside (a : Linear) : Type 0 where
  pub coefficients : coefficient_sum a.terms ≤ 2 ^ 24
  pub constant : unsigned_abs a.constant ≤ 2 ^ 40

-- how an atom compares its sum to its constant: by at most, or by equal
pub data Comparison : Type 0 where
  AtMost : Comparison
  Equal : Comparison

-- an atom compares the sum of coefficient times value to the term's constant
pub data Formula : Type 0 where
  Atom : Comparison → Linear → Formula
  Not : Formula → Formula
  And : Formula → Formula → Formula
  Or : Formula → Formula → Formula
  Exists : Sort → Formula → Formula
