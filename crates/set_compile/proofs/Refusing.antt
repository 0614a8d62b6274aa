-- What is too heavy has no table: atoms, pairs, subsets, and breakpoint states.
use Rattle.std.proofs.Common.{◌≡◌, ℕ, List}
use mathlib.Core.Logic.{inl, inr}
use Rattle.graph_laws.specs.Exploring.{IsHeavy, IsHeavyInTwo}
use Rattle.lash_model.specs.Formulas.{Linear, Comparison}
use Rattle.lash_model.specs.Tables.{Table}
use Rattle.threshold_laws.specs.Thresholds.{IsAtomTable, IsHeavyAtom}
use Rattle.lasso_laws.specs.RealAtoms.{IsRealAtomTable, IsHeavyRealAtom}
use Rattle.part_laws.proofs.BothKinds.{one_kind}
use Rattle.product_ops.specs.FractionPairs.{outs_of, fraction_pairs, IsPairTableInTwo}
use Rattle.product_ops.specs.Pairs.{pairs, IsPairTable}
use Rattle.product_ops.specs.Products.{IsProductTable, IsHeavyProduct}
use Rattle.product_ops.specs.Tracks.{TrackLists}
use Rattle.product_ops.specs.declared.operation.Op.{Op}
use Rattle.subset_build.specs.Projection.{IsSubsetTable, IsHeavyProjection}
use Rattle.breakpoint_laws.specs.Breakpoints.{IsHeavyRealProjection}
use Rattle.breakpoint_build.specs.RealProjections.{IsRealProjection, IsTornProjection}
use Rattle.set_compile.specs.Kinds.{IsTableOfAtom, IsHeavyFor}
use Rattle.set_compile.specs.declared.build.Mode.{Mode}
use Rattle.set_compile.specs.declared.build.Mode.TheVariants.{Whole, Mixed}

-- a heavy atom has no table within the limit, and neither have a heavy product and heavy subsets
abbrev pub AtomsExclude : Type 0
AtomsExclude = (mode : Mode) (kind : Comparison) (a : Linear) (r n limit : ℕ) (t : Table) → IsHeavyFor mode kind a r n limit → IsTableOfAtom mode kind a r n limit t → ⊥

abbrev pub PairsExclude : Type 0
PairsExclude = (op : Op) (a b : Table) (m : TrackLists) (limit : ℕ) (t : Table) → IsHeavyProduct a b m limit → IsProductTable op a b m limit t → ⊥

pub atoms_exclude : ((kind : Comparison) (a : Linear) (r n limit : ℕ) (t : Table) → IsHeavyAtom kind a r n limit → IsAtomTable kind a r n limit t → ⊥)
    → ((kind : Comparison) (a : Linear) (r n limit : ℕ) (t : Table) → IsHeavyRealAtom kind a r n limit → IsRealAtomTable kind a r n limit t → ⊥) → AtomsExclude
atoms_exclude whole mixed Whole kind a r n limit t h table = whole kind a r n limit t h table
atoms_exclude whole mixed Mixed kind a r n limit t h table = mixed kind a r n limit t h table

pub pairs_exclude : ((op : Op) (a b : Table) (m : TrackLists) (limit : ℕ) (t : Table) → IsHeavy (pairs a b m) limit → IsPairTable op a b m limit t → ⊥)
    → ((op : Op) (a b : Table) (m : TrackLists) (limit : ℕ) (t : Table)
    → IsHeavyInTwo (pairs a b m) (outs_of a b) (fraction_pairs a b m) limit → IsPairTableInTwo op a b m limit t → ⊥) → PairsExclude
pairs_exclude whole mixed op a b m limit t (inl h) (inl table) = whole op a b m limit t h.1 table.1
pairs_exclude whole mixed op a b m limit t (inr h) (inr table) = mixed op a b m limit t h.1 table.1
pairs_exclude whole mixed op a b m limit t (inl h) (inr table) = absurd (one_kind a h.0 table.0)
pairs_exclude whole mixed op a b m limit t (inr h) (inl table) = absurd (one_kind a table.0 h.0)

abbrev pub SubsetsExclude : Type 0
SubsetsExclude = (t : Table) (track limit : ℕ) (u : Table) → IsHeavyProjection t track limit → IsSubsetTable t track limit u → ⊥

-- a heavy projection of a table with fraction states has none, and neither has a torn one; and each has one list of words
pub record ProjectionsExclude : Type 0 where
  pub projected : (t u : Table) (track limit : ℕ) → IsHeavyRealProjection t track limit → IsRealProjection t track limit u → ⊥
  pub torn : (t : Table) (track limit sign : ℕ) (whole stem accept reject : List ℕ) → IsHeavyRealProjection t track limit
      → IsTornProjection t track limit sign whole stem accept reject → ⊥
  pub weak : (t u : Table) (track limit sign : ℕ) (whole stem accept reject : List ℕ) → IsRealProjection t track limit u
      → IsTornProjection t track limit sign whole stem accept reject → ⊥
  pub words : (t : Table) (track limit s1 s2 : ℕ) (w1 w2 p1 p2 a1 a2 r1 r2 : List ℕ) → IsTornProjection t track limit s1 w1 p1 a1 r1
      → IsTornProjection t track limit s2 w2 p2 a2 r2 → (s1 ≡ s2) × ((w1 ≡ w2) × ((p1 ≡ p2) × ((a1 ≡ a2) × (r1 ≡ r2))))

-- all of them
pub record StepsExclude : Type 0 where
  pub atoms : AtomsExclude
  pub pairs : PairsExclude
  pub subsets : SubsetsExclude
  pub projections : ProjectionsExclude
