-- What follows of a product's table from what its makers say of it.
use Rattle.std.proofs.Common.{◌≡◌, ℕ, ◌<◌, Ok, Err, List, length, ap, arith, inl, inr}
use Rattle.std.specs.Prelude.{Result, IfOk}
use Rattle.std.proofs.Math.IntN.{ℤ}
use Rattle.lash_model.specs.Tables.{Table, letters, fracs, IsTable, IsDiagram}
use Rattle.lash_model.specs.Standing.{StandsForWhole, StandsForMixed}
use Rattle.part_laws.specs.CanonicalMixed.{fraction_graph}
use Rattle.part_laws.specs.Graphs.{IsWeak}
use Rattle.step_tables.specs.Kept.{Kept}
use Rattle.product_ops.specs.Tracks.{TrackLists}
use Rattle.product_ops.specs.Operations.{joined}
use Rattle.product_ops.specs.Pairs.{AreOperands, left_operand, right_operand, IsPairTable, AcceptsBoth}
use Rattle.product_ops.specs.FractionPairs.{IsWeakTable, AreOneKind, IsPairTableInTwo}
use Rattle.product_ops.specs.ReadLassos.{AcceptsBothLassos}
use Rattle.product_ops.specs.declared.operation.Op.{Op}
use Rattle.product_ops.proofs.Joining.{reads_picked, product_stands}
use Rattle.product_ops.proofs.LassoReading.{reads_lassos}
use Rattle.product_ops.proofs.MixedJoining.{mixed_product_stands}
use Rattle.product_ops.proofs.PairRuns.{answers}
use Rattle.product_ops.proofs.PairsInTwo.{fractions_in_two, weak_in_two, accepts_in_two}

-- a table with fraction states is no diagram
no_diagram : (t : Table) → 0 < fracs t → IsDiagram t → ⊥
no_diagram t some none = absurd (omega (arith, some, ap length none))

-- both tables are weak if the left one has fraction states
both_weak : (a b : Table) → AreOneKind a b → 0 < fracs a → IsWeakTable a × IsWeakTable b
both_weak a b k some = elim k [ inl diagrams ↦ absurd (no_diagram a some diagrams.0) | inr weak ↦ weak ]

-- what the makers say
pub record OfDiagrams (op : Op) (a b : Table) (m : TrackLists) (limit : ℕ) (t : Table) : Type 0 where
  pub operands : AreOperands (record { left = left_operand a m; right = right_operand b m })
  pub diagram : IsDiagram t
  pub base : t.base ≡ a.base
  pub tracks : t.tracks ≡ m.tracks
  pub pair_table : IsPairTable op a b m limit t

pub of_diagrams : {E : Type 0} (r : Result Kept E) (op : Op) (a b : Table) (m : TrackLists) (limit : ℕ)
    → IfOk r (λ _. AreOperands (record { left = left_operand a m; right = right_operand b m })) → IfOk r (λ t. IsDiagram t.table)
    → IfOk r (λ t. t.table.base ≡ a.base)
    → IfOk r (λ t. t.table.tracks ≡ m.tracks) → IfOk r (λ t. IsPairTable op a b m limit t.table) → IfOk r (λ t. OfDiagrams op a b m limit t.table)
of_diagrams (Ok t) op a b m limit o d base tracks p = record { operands = o; diagram = d; base = base; tracks = tracks; pair_table = p }
of_diagrams (Err e) op a b m limit o d base tracks p = tt

pub record OfWeakTables (op : Op) (a b : Table) (m : TrackLists) (limit : ℕ) (t : Table) : Type 0 where
  pub operands : AreOperands (record { left = left_operand a m; right = right_operand b m })
  pub table : IsTable t
  pub base : t.base ≡ a.base
  pub tracks : t.tracks ≡ m.tracks
  pub pair_table : IsPairTableInTwo op a b m limit t

pub of_weak_tables : {E : Type 0} (r : Result Kept E) (op : Op) (a b : Table) (m : TrackLists) (limit : ℕ)
    → IfOk r (λ _. AreOperands (record { left = left_operand a m; right = right_operand b m })) → IfOk r (λ t. IsTable t.table)
    → IfOk r (λ t. t.table.base ≡ a.base)
    → IfOk r (λ t. t.table.tracks ≡ m.tracks) → IfOk r (λ t. IsPairTableInTwo op a b m limit t.table) → IfOk r (λ t. OfWeakTables op a b m limit t.table)
of_weak_tables (Ok t) op a b m limit o tab base tracks p = record { operands = o; table = tab; base = base; tracks = tracks; pair_table = p }
of_weak_tables (Err e) op a b m limit o tab base tracks p = tt

-- ---- of diagrams
pub words_of : (op : Op) (a b : Table) (m : TrackLists) (limit : ℕ) (t : Table) → OfDiagrams op a b m limit t → AcceptsBoth op a b m t
words_of op a b m limit t h = answers op a b m limit t h.pair_table h.base h.tracks

pub stands_of : (op : Op) (a b : Table) (m : TrackLists) (limit : ℕ) (t : Table) → OfDiagrams op a b m limit t
    → (P Q : List ℤ → ℕ → Type 0) → StandsForWhole a P → StandsForWhole b Q → StandsForWhole t (joined op P Q m)
stands_of op a b m limit t h =
    product_stands op a b m t (reads_picked (left_operand a m) h.operands.left_is) (reads_picked (right_operand b m) h.operands.right_is)
    h.operands.one_base h.base h.tracks h.diagram (words_of op a b m limit t h)

-- ---- of weak tables
pub fractions_of : (op : Op) (a b : Table) (m : TrackLists) (limit : ℕ) (t : Table) → OfWeakTables op a b m limit t → 0 < fracs t
fractions_of op a b m limit t h = fractions_in_two op a b m limit t h.table h.pair_table

pub weak_of : (op : Op) (a b : Table) (m : TrackLists) (limit : ℕ) (t : Table) → AreOneKind a b → 0 < fracs a → OfWeakTables op a b m limit t
    → IsWeak (letters t) (fraction_graph t)
weak_of op a b m limit t k some h =
    let both = both_weak a b k some in
    weak_in_two op a b m limit t h.operands both.0 both.1 h.table h.pair_table h.base h.tracks

pub lassos_of : (op : Op) (a b : Table) (m : TrackLists) (limit : ℕ) (t : Table) → AreOneKind a b → 0 < fracs a → OfWeakTables op a b m limit t
    → AcceptsBothLassos op a b m t
lassos_of op a b m limit t k some h =
    let both = both_weak a b k some in
    accepts_in_two op a b m limit t h.operands both.0 both.1 h.table h.pair_table h.base h.tracks

pub stands_mixed_of : (op : Op) (a b : Table) (m : TrackLists) (limit : ℕ) (t : Table) → AreOneKind a b → 0 < fracs a → OfWeakTables op a b m limit t
    → (P Q : List ℤ → ℕ → Type 0) → StandsForMixed a P → StandsForMixed b Q → StandsForMixed t (joined op P Q m)
stands_mixed_of op a b m limit t k some h =
    mixed_product_stands op a b m t (reads_lassos (left_operand a m) h.operands.left_is) (reads_lassos (right_operand b m) h.operands.right_is)
    h.operands.one_base h.base h.tracks (fractions_of op a b m limit t h) (lassos_of op a b m limit t k some h)
