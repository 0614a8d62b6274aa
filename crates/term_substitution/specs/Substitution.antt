-- Terms put for the free variables of a formula (the usual substitution of linear terms). The variable at a place becomes the term at that
-- place; a variable that is bound stays one, and moves behind the variables of the result.
use Rattle.std.specs.Prelude.{ℕ, ◌+◌, ◌-◌, nat_lt, List, [], ◌∷◌, length, slice_index_or, ℤ, pos, ◌+ℤ◌, ◌-ℤ◌, ◌*ℤ◌, if◌then◌else◌}
use Rattle.lash_model.specs.Formulas.{Linear, Formula, Atom, Not, And, Or, Exists}
use Rattle.formula_core.specs.Terms.{added}

abbrev pub zero_term : Linear
zero_term = record { terms = []; constant = pos 0 }

abbrev pub variable_term : ℕ → Linear
variable_term place = record { terms = (place, pos 1) ∷ []; constant = pos 0 }

-- what the variable at a place becomes
abbrev pub image : List Linear → ℕ → ℕ → Linear
image terms places place = if nat_lt place (length terms) then slice_index_or terms place zero_term else variable_term (places + (place - length terms))

-- the coefficients of a term, each times a factor, added to those that are there
abbrev pub with_scaled : List (ℕ × ℤ) → ℤ → List (ℕ × ℤ) → List (ℕ × ℤ)
with_scaled into factor [] = into
with_scaled into factor (t ∷ ts) = with_scaled (added into t.0 (factor *ℤ t.1)) factor ts

-- the coefficients of what the variables of a term become, each times the variable's coefficient, added to those that are there
abbrev pub with_images : List Linear → ℕ → List (ℕ × ℤ) → List (ℕ × ℤ) → List (ℕ × ℤ)
with_images terms places into [] = into
with_images terms places into (t ∷ ts) = with_images terms places (with_scaled into t.1 (image terms places t.0).terms) ts

-- the constants of what the variables of a term become, each times the variable's coefficient, added up
abbrev pub constants_of : List Linear → ℕ → List (ℕ × ℤ) → ℤ
constants_of terms places [] = pos 0
constants_of terms places (t ∷ ts) = (t.1 *ℤ (image terms places t.0).constant) +ℤ constants_of terms places ts

-- the constants go to the other side of the comparison
abbrev pub substituted_term : List Linear → ℕ → Linear → Linear
substituted_term terms places a = record { terms = with_images terms places [] a.terms; constant = a.constant -ℤ constants_of terms places a.terms }

-- the formula with the terms put for its free variables, over so many variables
abbrev pub substituted : Formula → List Linear → ℕ → Formula
substituted (Atom kind a) terms places = Atom kind (substituted_term terms places a)
substituted (Not f) terms places = Not (substituted f terms places)
substituted (And f g) terms places = And (substituted f terms places) (substituted g terms places)
substituted (Or f g) terms places = Or (substituted f terms places) (substituted g terms places)
substituted (Exists s f) terms places = Exists s (substituted f terms places)
