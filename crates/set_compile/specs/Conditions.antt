-- The formulas that are compiled: over so many variables, with atoms inside the limits.
use Rattle.std.specs.Prelude.{ℕ, ◌+◌, ◌<◌, ◌≡◌, Bool, ◌&&◌, if◌then◌else◌, List, All, length}
use Rattle.std.specs.List.{list_all}
use Rattle.lash_model.specs.Formulas.{Sort, Int, Linear, IsInside, Formula, Atom, Not, And, Or, Exists}
use Rattle.formula_core.specs.Counts.{free_places, is_int, binds_ints}
use Rattle.formula_core.specs.FewLetters.{AreFew}
use Rattle.set_compile.specs.declared.build.Mode.{Mode}
use Rattle.set_compile.specs.declared.build.Mode.TheVariants.{Whole, Mixed}

-- a term over m variables, inside the limits of coefficients and constants
pub record IsTermOver (m : ℕ) (a : Linear) : Type 0 where
  pub places : All (λ t. t.0 < m) a.terms
  pub inside : IsInside a

-- each term is over m variables, and of a body over one more
abbrev pub IsOver : ℕ → Formula → Type 0
IsOver m (Atom kind a) = IsTermOver m a
IsOver m (Not f) = IsOver m f
IsOver m (And f g) = IsOver m f × IsOver m g
IsOver m (Or f g) = IsOver m f × IsOver m g
IsOver m (Exists s f) = IsOver (m + 1) f

-- all variables are integers, declared and bound
abbrev pub are_integers : List Sort → Formula → Bool
are_integers sorts f = list_all is_int sorts && binds_ints f

-- what the tables of a formula and of its parts read: words of whole numbers if all variables are integers, and else lassos
abbrev pub mode_of : List Sort → Formula → Mode
mode_of sorts f = if are_integers sorts f then Whole else Mixed

-- tables that read words bind integers alone
abbrev pub Binds : Mode → Formula → Type 0
Binds mode (Atom kind a) = Unit {0}
Binds mode (Not f) = Binds mode f
Binds mode (And f g) = Binds mode f × Binds mode g
Binds mode (Or f g) = Binds mode f × Binds mode g
Binds mode (Exists s f) = (mode ≡ Whole → s ≡ Int) × Binds mode f

-- at each node the letters over the free variables are few: what `HasFewLetters` says, and it unfolds by itself
abbrev pub IsNarrow : ℕ → ℕ → Formula → Type 0
IsNarrow base m (Atom kind a) = AreFew base (length (free_places (Atom kind a) m))
IsNarrow base m (Not f) = IsNarrow base m f
IsNarrow base m (And f g) = AreFew base (length (free_places (And f g) m)) × (IsNarrow base m f × IsNarrow base m g)
IsNarrow base m (Or f g) = AreFew base (length (free_places (Or f g) m)) × (IsNarrow base m f × IsNarrow base m g)
IsNarrow base m (Exists s f) = IsNarrow base (m + 1) f
