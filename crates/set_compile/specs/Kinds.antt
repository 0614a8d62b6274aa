-- Tables of the two kinds: diagrams, which read words of whole numbers, and tables with fraction states, which read lassos.
use Rattle.std.specs.Prelude.{◌≡◌, ℕ, ◌<◌, ◌⊎◌, List, ℤ}
use Rattle.lash_model.specs.Formulas.{Linear, Comparison}
use Rattle.lash_model.specs.Standing.{StandsForWhole, StandsForMixed}
use Rattle.lash_model.specs.Tables.{Table, fracs, IsDiagram}
use Rattle.canonical_laws.specs.Canonical.{AcceptSameWords}
use Rattle.lasso_laws.specs.RealAtoms.{IsRealAtomTable, IsHeavyRealAtom}
use Rattle.part_laws.specs.CanonicalMixed.{IsCanonicalTable, AcceptSameLassos}
use Rattle.part_laws.specs.Opposites.{AcceptOtherLassos}
use Rattle.product_ops.specs.Negation.{AcceptsOthers}
use Rattle.product_ops.specs.Pairs.{AcceptsBoth}
use Rattle.product_ops.specs.ReadLassos.{AcceptsBothLassos}
use Rattle.product_ops.specs.Tracks.{TrackLists}
use Rattle.product_ops.specs.declared.operation.Op.{Op}
use Rattle.threshold_laws.specs.Thresholds.{IsAtomTable, IsHeavyAtom}
use Rattle.set_compile.specs.declared.build.Mode.{Mode}
use Rattle.set_compile.specs.declared.build.Mode.TheVariants.{Whole, Mixed}

-- the table is of the kind that reads so
abbrev pub IsOfMode : Mode → Table → Type 0
IsOfMode Whole t = IsDiagram t
IsOfMode Mixed t = 0 < fracs t

-- the table stands for the set: of words, or of lassos
abbrev pub Stands : Table → (List ℤ → ℕ → Type 0) → Type 0
Stands t P = StandsForWhole t P ⊎ StandsForMixed t P

-- the two tables accept the same words, or the same lassos
abbrev pub AcceptSame : Table → Table → Type 0
AcceptSame t u = (IsDiagram t × AcceptSameWords t u) ⊎ ((0 < fracs t) × AcceptSameLassos t u)

-- the second accepts exactly what the first does not
abbrev pub AcceptOthers : Table → Table → Type 0
AcceptOthers t u = (IsDiagram t × AcceptsOthers t u) ⊎ ((0 < fracs t) × AcceptOtherLassos t u)

-- the table gives the truth function of the answers of two others
abbrev pub GivesBoth : Op → Table → Table → TrackLists → Table → Type 0
GivesBoth op a b m t = (IsDiagram a × AcceptsBoth op a b m t) ⊎ ((0 < fracs a) × AcceptsBothLassos op a b m t)

-- the table of an atom over so many tracks, within the limit of cells
abbrev pub IsTableOfAtom : Mode → Comparison → Linear → ℕ → ℕ → ℕ → Table → Type 0
IsTableOfAtom Whole kind a base tracks limit t = IsAtomTable kind a base tracks limit t
IsTableOfAtom Mixed kind a base tracks limit t = IsRealAtomTable kind a base tracks limit t

-- that table has more cells than the limit
abbrev pub IsHeavyFor : Mode → Comparison → Linear → ℕ → ℕ → ℕ → Type 0
IsHeavyFor Whole kind a base tracks limit = IsHeavyAtom kind a base tracks limit
IsHeavyFor Mixed kind a base tracks limit = IsHeavyRealAtom kind a base tracks limit

-- a canonical table of that kind, base and number of tracks
pub record IsShaped (mode : Mode) (base tracks : ℕ) (t : Table) : Type 0 where
  pub canonical : IsCanonicalTable t
  pub kind : IsOfMode mode t
  pub base_is : t.base ≡ base
  pub tracks_are : t.tracks ≡ tracks
