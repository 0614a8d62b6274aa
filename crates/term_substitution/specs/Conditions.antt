-- The formulas and the terms that are substituted (own).
use Rattle.std.specs.Prelude.{ℕ, ◌+◌, ◌^◌, ◌<◌, ◌≤◌, All, unsigned_abs}
use Rattle.lash_model.specs.Formulas.{Linear, IsInside, Formula, Atom, Not, And, Or, Exists}

-- a term over m variables, inside the limits of coefficients and constants
pub record IsTermOver (m : ℕ) (a : Linear) : Type 0 where
  pub places : All (λ t. t.0 < m) a.terms
  pub inside : IsInside a

-- each term is over m variables, and of a body over one more
abbrev pub IsOver : ℕ → Formula → Type 0
IsOver m (Atom kind a) = IsTermOver m a
IsOver m (Not f) = IsOver m f
IsOver m (And f g) = IsOver m f × IsOver m g
IsOver m (Or f g) = IsOver m f × IsOver m g
IsOver m (Exists s f) = IsOver (m + 1) f

-- each term of the formula, of its bodies too, is over m variables
abbrev pub HasTermsOver : ℕ → Formula → Type 0
HasTermsOver m (Atom kind a) = IsTermOver m a
HasTermsOver m (Not f) = HasTermsOver m f
HasTermsOver m (And f g) = HasTermsOver m f × HasTermsOver m g
HasTermsOver m (Or f g) = HasTermsOver m f × HasTermsOver m g
HasTermsOver m (Exists s f) = HasTermsOver m f

-- a term over so many variables that can be put for a variable
pub record IsSubstitute (places : ℕ) (t : Linear) : Type 0 where
  pub places_below : All (λ s. s.0 < places) t.terms
  pub coefficients : All (λ s. unsigned_abs s.1 ≤ 2 ^ 88) t.terms
  pub constant : unsigned_abs t.constant ≤ 2 ^ 88

-- the greatest number of variables
abbrev pub variables_limit : ℕ
variables_limit = 2 ^ 20
