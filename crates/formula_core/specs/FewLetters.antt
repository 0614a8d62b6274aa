-- Formulas whose letters are few, as the tables of their subformulas ask (own). A letter has one digit for each free variable.
use Rattle.std.specs.Prelude.{ℕ, ◌+◌, ◌^◌, ◌≤◌, length}
use Rattle.lash_model.specs.Formulas.{Formula, Atom, Not, And, Or, Exists}
use Rattle.formula_core.specs.Counts.{free_places}

-- over so many tracks there are at most 4,096 letters
abbrev pub AreFew : ℕ → ℕ → Type 0
AreFew base tracks = base ^ tracks ≤ 4096

-- the letters over the free variables of the formula, which is over m variables, are few, and so are those of each subformula
unfoldable pub HasFewLetters : ℕ → Formula → ℕ → Type 0
HasFewLetters base (Atom kind a) m = AreFew base (length (free_places (Atom kind a) m))
HasFewLetters base (Not f) m = AreFew base (length (free_places (Not f) m)) × HasFewLetters base f m
HasFewLetters base (And f g) m = AreFew base (length (free_places (And f g) m)) × HasFewLetters base f m × HasFewLetters base g m
HasFewLetters base (Or f g) m = AreFew base (length (free_places (Or f g) m)) × HasFewLetters base f m × HasFewLetters base g m
HasFewLetters base (Exists s f) m = AreFew base (length (free_places (Exists s f) m)) × HasFewLetters base f (m + 1)

-- over all the variables there are few letters too
abbrev pub FitsLetters : ℕ → Formula → ℕ → Type 0
FitsLetters base f places = AreFew base places × HasFewLetters base f places
