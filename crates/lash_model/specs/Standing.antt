-- Standing for a set. All encodings count: every length of the whole part, and both expansions of a number that has two.
use Rattle.std.specs.Prelude.{ℕ, suc, zero, ◌^◌, ◌<◌, ◌↔◌, List, [], ◌∷◌, All, IsTrue, ℤ}
use Rattle.lash_model.specs.Lassos.{Lasso, IsLasso, denominator, numerators}
use Rattle.lash_model.specs.Words.{values}
use Rattle.lash_model.specs.Tables.{Table, letters, fracs, IsDiagram}
use Rattle.lash_model.specs.Acceptance.{accepts_word, accepts_lasso}
use Rattle.lash_model.specs.Formulas.{Sort, Int, Real, Formula}
use Rattle.lash_model.specs.Meaning.{Solves}

-- a diagram accepts a sign vector and a word exactly where the whole numbers that they spell are in the set
pub record StandsForWhole (t : Table) (P : List ℤ → ℕ → Type 0) : Type 0 where
  pub diagram : IsDiagram t
  pub each : (sign : ℕ) (w : List ℕ) → sign < 2 ^ t.tracks → All (λ l. l < letters t) w → IsTrue (accepts_word t sign w) ↔ P (values t.base t.tracks sign w) 1

-- an automaton with fraction states accepts a lasso exactly where the fractions that it spells are in the set
pub record StandsForMixed (t : Table) (P : List ℤ → ℕ → Type 0) : Type 0 where
  pub fractions : 0 < fracs t
  pub each : (x : Lasso) → IsLasso t.base t.tracks x → IsTrue (accepts_lasso t x) ↔ P (numerators t.base t.tracks x) (denominator t.base x)

-- the kind of a set's table is fixed by its declared sorts alone: a diagram where all are Int
abbrev pub StandsFor : Table → List Sort → Formula → Type 0
StandsFor t sorts f = kind sorts (StandsForWhole t (Solves sorts f)) (StandsForMixed t (Solves sorts f))
  where
    kind : List Sort → Type 0 → Type 0 → Type 0
    kind [] whole mixed = whole
    kind (Int ∷ sorts) whole mixed = kind sorts whole mixed
    kind (Real ∷ sorts) whole mixed = mixed

-- so many variables of sort Int
abbrev pub all_int : ℕ → List Sort
all_int zero = []
all_int (suc n) = Int ∷ all_int n
