-- The table of the truth function of two answers to lassos stands for the truth function of the sets.
use Rattle.std.proofs.Common.{◌≡◌, ℕ, ◌<◌, ◌↔◌, IsTrue, List, sym, subst}
use Rattle.std.proofs.Math.IntN.{ℤ}
use Rattle.lash_model.specs.Lassos.{Lasso, IsLasso, denominator, numerators}
use Rattle.lash_model.specs.Tables.{Table, fracs}
use Rattle.lash_model.specs.Standing.{StandsForMixed}
use Rattle.lash_model.specs.Acceptance.{accepts_lasso}
use Rattle.part_laws.specs.MixedPairs.{read_lasso}
use Rattle.product_ops.specs.Tracks.{TrackLists, pick_entries}
use Rattle.product_ops.specs.Operations.{truth, joined}
use Rattle.product_ops.specs.Pairs.{Operand, left_operand, right_operand}
use Rattle.product_ops.specs.ReadLassos.{side_of, accepts_lasso_by, AcceptsBothLassos, ReadsPickedLassos}
use Rattle.product_ops.specs.declared.operation.Op.{Op}
use Rattle.product_ops.proofs.Joining.{joins}

-- an operand accepts what it reads of a lasso exactly if the picked numerators over the lasso's denominator are in its set
operand_stands : (o : Operand) (P : List ℤ → ℕ → Type 0) → ReadsPickedLassos o → StandsForMixed o.table P → (x : Lasso) → IsLasso o.table.base o.tracks x
    → IsTrue (accepts_lasso_by o x) ↔ P (pick_entries o.places (numerators o.table.base o.tracks x)) (denominator o.table.base x)
operand_stands o P h s x v =
    let r = h x v in
    subst (λ d. IsTrue (accepts_lasso_by o x) ↔ P (pick_entries o.places (numerators o.table.base o.tracks x)) d) r.over
    (subst (λ ns. IsTrue (accepts_lasso_by o x) ↔ P ns (denominator o.table.base (read_lasso (side_of o) x))) r.spells
    (s.each (read_lasso (side_of o) x) r.lasso))

pub mixed_product_stands : (op : Op) (a b : Table) (m : TrackLists) (t : Table) → ReadsPickedLassos (left_operand a m) → ReadsPickedLassos (right_operand b m)
    → a.base ≡ b.base → t.base ≡ a.base → t.tracks ≡ m.tracks → 0 < fracs t → AcceptsBothLassos op a b m t
    → (P Q : List ℤ → ℕ → Type 0) → StandsForMixed a P → StandsForMixed b Q → StandsForMixed t (joined op P Q m)
mixed_product_stands op a b m t left right one base tracks some lassos P Q p q = record {
  fractions = some;
  each = λ x v.
      let left_lasso : IsLasso a.base m.tracks x = subst (λ n. IsLasso a.base n x) tracks (subst (λ r. IsLasso r t.tracks x) base v) in
      let right_lasso : IsLasso b.base m.tracks x = subst (λ r. IsLasso r m.tracks x) one left_lasso in
      let right_stands : IsTrue (accepts_lasso_by (right_operand b m) x) ↔ Q (pick_entries m.right (numerators a.base m.tracks x)) (denominator a.base x) =
      subst (λ r. IsTrue (accepts_lasso_by (right_operand b m) x) ↔ Q (pick_entries m.right (numerators r m.tracks x)) (denominator r x)) (sym one)
      (operand_stands (right_operand b m) Q right q x right_lasso) in
      let said : IsTrue (truth op (accepts_lasso_by (left_operand a m) x) (accepts_lasso_by (right_operand b m) x)) ↔ joined op P Q m
      (numerators a.base m.tracks x) (denominator a.base x) =
      joins op (accepts_lasso_by (left_operand a m) x) (accepts_lasso_by (right_operand b m) x) P Q m (numerators a.base m.tracks x) (denominator a.base x)
      (operand_stands (left_operand a m) P left p x left_lasso) right_stands in
      subst (λ n. IsTrue (accepts_lasso t x) ↔ joined op P Q m (numerators t.base n x) (denominator t.base x)) (sym tracks)
      (subst (λ r. IsTrue (accepts_lasso t x) ↔ joined op P Q m (numerators r m.tracks x) (denominator r x)) (sym base)
      (subst (λ y. IsTrue y ↔ joined op P Q m (numerators a.base m.tracks x) (denominator a.base x)) (sym (lassos x left_lasso)) said));
}
