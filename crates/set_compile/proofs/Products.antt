-- The product of two canonical tables of one kind, made canonical.
use Rattle.std.proofs.Common.{◌≡◌, ◌<◌, ℕ, List}
use mathlib.Core.Logic.{inl, inr}
use Rattle.std.proofs.Math.IntN.{ℤ}
use Rattle.graph_laws.specs.Exploring.{IsHeavy, IsHeavyInTwo}
use Rattle.lash_model.specs.Formulas.{Formula}
use Rattle.lash_model.specs.Sets.{set_of}
use Rattle.lash_model.specs.Standing.{StandsForWhole, StandsForMixed}
use Rattle.lash_model.specs.Tables.{Table, fracs, IsDiagram}
use Rattle.part_laws.specs.CanonicalMixed.{IsCanonicalMixed}
use Rattle.part_laws.proofs.BothKinds.{one_kind}
use Rattle.product_ops.specs.FractionPairs.{AreOneKind, outs_of, fraction_pairs, IsPairTableInTwo}
use Rattle.product_ops.specs.Operations.{joined}
use Rattle.product_ops.specs.Pairs.{pairs, IsPairTable, AcceptsBoth}
use Rattle.product_ops.specs.Products.{HaveSameKind, IsHeavyProduct}
use Rattle.product_ops.specs.ReadLassos.{AcceptsBothLassos}
use Rattle.product_ops.specs.Tracks.{TrackLists}
use Rattle.product_ops.specs.declared.operation.Op.{Op}
use Rattle.set_compile.specs.Kinds.{Stands, AcceptSame}
use Rattle.set_compile.specs.Steps.{IsOfPairs}
use Rattle.set_compile.proofs.Carrying.{both_kept, both_lassos_kept}
use Rattle.set_compile.proofs.Modes.{same_words, same_lassos}

-- canonical tables with fraction states are weak
pub weak_kinds : (a b : Table) → HaveSameKind a b → (0 < fracs a → IsCanonicalMixed a) → (0 < fracs b → IsCanonicalMixed b) → AreOneKind a b
weak_kinds a b (inl both) left right = inl both
weak_kinds a b (inr both) left right = inr (record { fractions = both.0; weak = (left both.0).weak }, record { fractions = both.1; weak = (right both.1).weak })

-- the product is of the kind of its operands
pub product_kind : (a b t : Table) → HaveSameKind a b → (IsDiagram a → IsDiagram t) → (0 < fracs a → 0 < fracs t) → HaveSameKind a t
product_kind a b t (inl both) whole mixed = inl (both.0, whole both.0)
product_kind a b t (inr both) whole mixed = inr (both.0, mixed both.0)

-- the canonical table u of the product t
pub made_pairs : (op : Op) (a b : Table) (m : TrackLists) (limit : ℕ) (t u : Table) → HaveSameKind a b → t.base ≡ a.base → t.tracks ≡ m.tracks
    → (IsDiagram a → IsDiagram t) → (IsDiagram a → IsPairTable op a b m limit t) → (IsDiagram a → AcceptsBoth op a b m t)
    → (0 < fracs a → 0 < fracs t) → (0 < fracs a → IsPairTableInTwo op a b m limit t) → (0 < fracs a → AcceptsBothLassos op a b m t)
    → AcceptSame t u → IsOfPairs op a b m limit u
made_pairs op a b m limit t u (inl both) base tracks diagram counts words some counts_two lassos same = record {
  pair_table = t;
  counts = inl (both.0, counts both.0);
  gives = inl (both.0, both_kept op a b m t u base tracks (words both.0) (same_words t u (diagram both.0) same));
}
made_pairs op a b m limit t u (inr both) base tracks diagram counts words some counts_two lassos same = record {
  pair_table = t;
  counts = inr (both.0, counts_two both.0);
  gives = inr (both.0, both_lassos_kept op a b m t u base tracks (lassos both.0) (same_lassos t u (some both.0) same));
}

pub heavy_product : (a b : Table) (m : TrackLists) (limit : ℕ) → HaveSameKind a b → (IsDiagram a → IsHeavy (pairs a b m) limit)
    → (0 < fracs a → IsHeavyInTwo (pairs a b m) (outs_of a b) (fraction_pairs a b m) limit) → IsHeavyProduct a b m limit
heavy_product a b m limit (inl both) whole mixed = inl (both.0, whole both.0)
heavy_product a b m limit (inr both) whole mixed = inr (both.0, mixed both.0)

-- what the product stands for
pub stands_joined : (op : Op) (a b : Table) (m : TrackLists) (t : Table) (f g : Formula) (s u : List ℤ → List ℤ) → HaveSameKind a b
    → (IsDiagram a → StandsForWhole a (set_of f s) → StandsForWhole b (set_of g u) → StandsForWhole t (joined op (set_of f s) (set_of g u) m))
    → (0 < fracs a → StandsForMixed a (set_of f s) → StandsForMixed b (set_of g u) → StandsForMixed t (joined op (set_of f s) (set_of g u) m))
    → Stands a (set_of f s) → Stands b (set_of g u) → Stands t (joined op (set_of f s) (set_of g u) m)
stands_joined op a b m t f g s u kinds whole mixed (inl p) (inl q) = inl (whole p.diagram p q)
stands_joined op a b m t f g s u kinds whole mixed (inr p) (inr q) = inr (mixed p.fractions p q)
stands_joined op a b m t f g s u (inl both) whole mixed (inl p) (inr q) = absurd (one_kind b both.1 q.fractions)
stands_joined op a b m t f g s u (inr both) whole mixed (inl p) (inr q) = absurd (one_kind a p.diagram both.0)
stands_joined op a b m t f g s u (inl both) whole mixed (inr p) (inl q) = absurd (one_kind a both.0 p.fractions)
stands_joined op a b m t f g s u (inr both) whole mixed (inr p) (inl q) = absurd (one_kind b q.diagram both.1)
