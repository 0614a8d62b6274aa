-- How sets over one list of sorts compare: by the vectors of fractions, numerators over one positive denominator, that solve them.
use Rattle.std.specs.Prelude.{ℕ, ◌<◌, ◌≡◌, ◌↔◌, List, length, ℤ}
use Rattle.lash_model.specs.Formulas.{Sort, Formula}
use Rattle.lash_model.specs.Meaning.{Solves}
use Rattle.lash_model.specs.Tables.{Table}
use Rattle.lash_model.specs.Standing.{StandsFor}
use Rattle.part_laws.specs.CanonicalMixed.{IsCanonicalTable}

-- the numerators and the denominator are a vector over the sorts
pub record IsVector (sorts : List Sort) (ns : List ℤ) (d : ℕ) : Type 0 where
  pub count : length ns ≡ length sorts
  pub positive : 0 < d

-- whatever solves the one solves the other, both ways
abbrev pub Agree : List Sort → Formula → Formula → Type 0
Agree sorts f g = (ns : List ℤ) (d : ℕ) → IsVector sorts ns d → Solves sorts f ns d ↔ Solves sorts g ns d

-- whatever solves the first solves the second
abbrev pub Includes : List Sort → Formula → Formula → Type 0
Includes sorts f g = (ns : List ℤ) (d : ℕ) → IsVector sorts ns d → Solves sorts f ns d → Solves sorts g ns d

-- nothing solves it
abbrev pub IsEmptySet : List Sort → Formula → Type 0
IsEmptySet sorts f = (ns : List ℤ) (d : ℕ) → IsVector sorts ns d → Solves sorts f ns d → ⊥

-- the canonical table of a base, with a track for each sort, that stands for the set over these sorts
pub record IsCanonicalOf (base : ℕ) (sorts : List Sort) (f : Formula) (t : Table) : Type 0 where
  pub canonical : IsCanonicalTable t
  pub base_is : t.base ≡ base
  pub tracks_are : t.tracks ≡ length sorts
  pub stands : StandsFor t sorts f
