-- The first lines, part by part: the base, the variables, the number of integer states, the number of fraction states.
use Rattle.std.specs.Prelude.{ℕ, ◌≤◌, ◌≡◌, Bool, true, false, List, [], ◌++◌, codes, None, Some, if◌then◌else◌}
use Rattle.lash_model.specs.Formulas.{Sort}
use Rattle.text_laws.specs.Reading.{pair_text, PairAllowed, after_word}
use Rattle.text_laws.specs.Parts.{ended_number, IsBetween, ended_variables}
use Rattle.text_laws.specs.Spellings.{has_real, AreNew}

-- the line of the number of fraction states, if some variable is real
abbrev pub frac_part : Bool → ℕ → List ℕ
frac_part real f = if real then codes "frac " ++ ended_number 10 f else []

-- at least one such state, or 0 if there is no line
abbrev pub FracAllowed : Bool → ℕ → Type 0
FracAllowed true f = 1 ≤ f
FracAllowed false f = f ≡ 0

-- the numbers of states
abbrev pub counts_part : Bool → (ℕ × ℕ) → List ℕ
counts_part real = after_word (codes "int ") (pair_text (ended_number 10) (λ _. frac_part real))

abbrev pub CountsAllowed : Bool → (ℕ × ℕ) → Type 0
CountsAllowed real = PairAllowed (IsBetween 1 None) (λ _. FracAllowed real)

-- what comes after the base
abbrev pub variables_part : (List (List ℕ × Sort) × (ℕ × ℕ)) → List ℕ
variables_part = after_word (codes "vars") (pair_text ended_variables (λ vs. counts_part (has_real vs)))

abbrev pub VariablesAllowed : (List (List ℕ × Sort) × (ℕ × ℕ)) → Type 0
VariablesAllowed = PairAllowed (AreNew []) (λ vs. CountsAllowed (has_real vs))

-- all of the first lines
abbrev pub base_part : (ℕ × (List (List ℕ × Sort) × (ℕ × ℕ))) → List ℕ
base_part = after_word (codes "lash 1\nbase ") (pair_text (ended_number 10) (λ _. variables_part))

abbrev pub BaseAllowed : (ℕ × (List (List ℕ × Sort) × (ℕ × ℕ))) → Type 0
BaseAllowed = PairAllowed (IsBetween 2 (Some 17)) (λ _. VariablesAllowed)
