-- A term whose coefficients are added in turn, and a list of such terms (own).
use Rattle.std.specs.Prelude.{◌≡◌, ℕ, ◌<◌, ◌≤◌, ◌^◌, List, [], ◌∷◌, ℤ, unsigned_abs}
use Rattle.std.specs.List.{AllByRecursion}
use Rattle.lash_model.specs.Formulas.{Linear}
use Rattle.term_substitution.specs.Conditions.{IsSubstitute}
use Rattle.loop_laws.specs.Closures.{coefficients, gathered}

-- the coefficients at the places below n stand in the term, and they are small
pub record IsFilling (f : ℕ → ℤ) (n : ℕ) (t before : Linear) : Type 0 where
  pub filled : t ≡ record { terms = coefficients f n; constant = before.constant }
  pub small : (place : ℕ) → place < n → unsigned_abs (f place) ≤ 2 ^ 40

-- the rows below n stand in the list, and each can be put for a variable
pub record IsListing (f : ℕ → Linear) (places n : ℕ) (ts : List Linear) : Type 0 where
  pub listed : ts ≡ gathered (λ row. f row ∷ []) n
  pub substitutes : AllByRecursion (IsSubstitute places) ts
