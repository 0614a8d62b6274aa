-- The difference of two tables with fraction states accepts no lasso exactly if the first set is included in the second; and what is so
-- of tables of either kind.
use Rattle.std.proofs.Common.{◌≡◌, ℕ, ◌^◌, ◌≤◌, ◌<◌, Bool, true, false, not, List, length, Option, None, Some, inl, inr, refl, ◌∙◌, sym, ap, subst}
use Rattle.std.proofs.Math.IntN.{ℤ}
use Rattle.std.specs.Prelude.{IsTrue, ◌↔◌, is_some, IfNone, IfSome}
use Rattle.std.specs.List.{range_with_len}
use Rattle.std.proofs.lemmas.List.FromFn.{length-range_with_len}
use Rattle.std.proofs.lemmas.Bool.{false≢true}
use Rattle.integer_laws.proofs.Entries.{length-vector_from}
use Rattle.lash_model.specs.Formulas.{Sort, Formula}
use Rattle.lash_model.specs.Lassos.{Lasso, IsLasso, numerator, numerators, denominator}
use Rattle.lash_model.specs.Meaning.{holds, Solves}
use Rattle.lash_model.specs.Tables.{Table, letters, fracs, IsTable, IsDiagram}
use Rattle.lash_model.specs.Acceptance.{accepts_lasso}
use Rattle.lash_model.specs.Standing.{StandsForWhole, StandsForMixed, StandsFor}
use Rattle.part_laws.specs.CanonicalMixed.{IsCanonicalTable, AcceptSameLassos, fraction_graph}
use Rattle.part_laws.specs.Graphs.{IsWeak}
use Rattle.part_laws.proofs.BothKinds.{one_kind, canonical_fractions}
use Rattle.product_ops.specs.FractionPairs.{IsWeakTable, AreOneKind}
use Rattle.product_ops.specs.Operations.{joined}
use Rattle.product_ops.specs.Pairs.{IsOperand, left_operand, right_operand, IsPairTable}
use Rattle.product_ops.specs.Products.{HaveSameKind}
use Rattle.product_ops.specs.ReadLassos.{AcceptsBothLassos}
use Rattle.product_ops.specs.Tracks.{TrackLists}
use Rattle.product_ops.specs.declared.operation.Op.TheVariants.{AndNot}
use Rattle.product_ops.proofs.LassoReading.{reads_lassos}
use Rattle.product_ops.proofs.MixedJoining.{mixed_product_stands}
use Rattle.solution_pick.specs.FractionSolutions.{AcceptsNoLasso, IsFixedSolution}
use Rattle.solution_pick.proofs.FixedSolutions.{not_both_kinds}
use Rattle.set_answers.specs.Agreement.{Includes}
use Rattle.set_answers.specs.Differences.{all_tracks, SaysNo}
use Rattle.set_answers.proofs.SortKinds.{AreWhole, AreMixed, kind_of, of_sorts, kind_of_table}
use Rattle.set_answers.proofs.SamePoints.{SolvesAt, lasso_vector, point_of, solves_there}
use Rattle.product_ops.proofs.AllTracks.{tracks_are, picked}
use Rattle.set_answers.proofs.Solved.{not_said, of_lasso}
use Rattle.set_answers.proofs.Including.{IsDifference, diagrams_within}

-- ---- what the difference stands for
whole_operand : (t : Table) (n : ℕ) → IsTable t → t.tracks ≡ n → IsOperand (record { table = t; tracks = n; places = range_with_len 0 n })
whole_operand t n h e = record {
  table = h;
  places = tracks_are n;
  count = length-range_with_len 0 n ∙ sym e;
  few = subst (λ k. t.base ^ k ≤ 4096) e h.shape.few_letters;
}

difference_stands : (a b t : Table) (m : TrackLists) → IsDifference a b m t → 0 < fracs t → AcceptsBothLassos AndNot a b m t
    → (P Q : List ℤ → ℕ → Type 0) → StandsForMixed a P → StandsForMixed b Q → StandsForMixed t (joined AndNot P Q m)
difference_stands a b t m h some lassos =
    mixed_product_stands AndNot a b m t (reads_lassos (left_operand a m) left) (reads_lassos (right_operand b m) right) h.one_base h.base h.tracks some lassos
  where
    left : IsOperand (left_operand a m)
    left = subst (λ (x : TrackLists). IsOperand (left_operand a x)) (sym h.all) (whole_operand a a.tracks h.left_table refl)

    right : IsOperand (right_operand b m)
    right = subst (λ (x : TrackLists). IsOperand (right_operand b x)) (sym h.all) (whole_operand b a.tracks h.right_table (sym h.one_count))

-- the tables of two sets, that of their difference, and what each stands for
record AreParted (b t : Table) (sorts : List Sort) (f g : Formula) : Type 0 where
  pub table : IsTable t
  pub base : t.base ≡ b.base
  pub tracks : t.tracks ≡ length sorts
  pub right_tracks : b.tracks ≡ length sorts
  pub right_set : StandsForMixed b (Solves sorts g)
  pub stands : StandsForMixed t (joined AndNot (Solves sorts f) (Solves sorts g) (all_tracks (length sorts)))

-- the vector of a lasso is in the difference exactly if it solves the one and not the other
in_difference : (b t : Table) (sorts : List Sort) (f g : Formula) → AreParted b t sorts f g → (x : Lasso) → IsLasso t.base (length sorts) x
    → IsTrue (accepts_lasso t x) ↔ (SolvesAt sorts f t.base x × (SolvesAt sorts g t.base x → ⊥))
in_difference b t sorts f g h x v =
    subst (λ ns. IsTrue (accepts_lasso t x) ↔ (Solves sorts f ns (denominator t.base x) × (Solves sorts g ns (denominator t.base x) → ⊥)))
    (picked (length sorts) (numerators t.base (length sorts) x) (length-vector_from (λ i. numerator t.base (length sorts) i x) 0 (length sorts))) said
  where
    said : IsTrue (accepts_lasso t x) ↔ joined AndNot (Solves sorts f) (Solves sorts g) (all_tracks (length sorts)) (numerators t.base (length sorts) x)
        (denominator t.base x)
    said = subst (λ k. IsTrue (accepts_lasso t x) ↔ joined AndNot (Solves sorts f) (Solves sorts g) (all_tracks (length sorts)) (numerators t.base k x)
        (denominator t.base x)) h.tracks
        (h.stands.each x (subst (λ k. IsLasso t.base k x) (sym h.tracks) v))

-- what the second set has of the vector of a lasso in the difference's base
in_right : (b t : Table) (sorts : List Sort) (f g : Formula) → AreParted b t sorts f g → (x : Lasso) → IsLasso t.base (length sorts) x
    → IsTrue (accepts_lasso b x) ↔ SolvesAt sorts g t.base x
in_right b t sorts f g h x v = subst (λ r. IsTrue (accepts_lasso b x) ↔ Solves sorts g (numerators r (length sorts) x) (denominator r x)) (sym h.base)
    (of_lasso b sorts g h.right_tracks h.right_set x (subst (λ r. IsLasso r b.tracks x) h.base (subst (λ k. IsLasso t.base k x) (sym h.right_tracks) v)))

within_if_none : (b t : Table) (sorts : List Sort) (f g : Formula) → AreParted b t sorts f g → AcceptsNoLasso t → Includes sorts f g
within_if_none b t sorts f g h none ns d v s =
    let p = point_of t.base (length sorts) ns d h.table.shape.base_low v.positive v.count in
    (solves_there sorts g t.base ns d p).1 (by p.lasso p.in_range ((solves_there sorts f t.base ns d p).0 s) (accepts_lasso b p.lasso) refl)
  where
    by : (x : Lasso) → IsLasso t.base (length sorts) x → SolvesAt sorts f t.base x → (answer : Bool) → accepts_lasso b x ≡ answer
        → SolvesAt sorts g t.base x
    by x range y true e = (in_right b t sorts f g h x range).0 e
    by x range y false e = absurd (false≢true (sym (none x (subst (λ k. IsLasso t.base k x) (sym h.tracks) range))
        ∙ (in_difference b t sorts f g h x range).1 (y, λ z. false≢true (sym e ∙ (in_right b t sorts f g h x range).1 z))))

none_if_within : (b t : Table) (sorts : List Sort) (f g : Formula) → AreParted b t sorts f g → Includes sorts f g → AcceptsNoLasso t
none_if_within b t sorts f g h includes x v =
    not_said (SolvesAt sorts f t.base x × (SolvesAt sorts g t.base x → ⊥)) (accepts_lasso t x)
    (in_difference b t sorts f g h x range)
    (λ both. both.1 (includes (numerators t.base (length sorts) x) (denominator t.base x) (lasso_vector sorts t.base x h.table.shape.base_low range) both.0))
  where
    range : IsLasso t.base (length sorts) x
    range = subst (λ k. IsLasso t.base k x) h.tracks v

mixed_within : (a b t : Table) (m : TrackLists) (sorts : List Sort) (f g : Formula) (answer : Bool) → IsDifference a b m t → 0 < fracs t
    → AcceptsBothLassos AndNot a b m t
    → IsTrue answer ↔ AcceptsNoLasso t → a.tracks ≡ length sorts → StandsForMixed a (Solves sorts f) → StandsForMixed b (Solves sorts g)
    → IsTrue answer ↔ Includes sorts f g
mixed_within a b t m sorts f g answer h some lassos says e sf sg = (
  λ y. within_if_none b t sorts f g facts (says.0 y),
  λ i. says.1 (none_if_within b t sorts f g facts i),
)
  where
    all : m ≡ all_tracks (length sorts)
    all = h.all ∙ ap all_tracks e

    facts : AreParted b t sorts f g
    facts = record {
      table = h.table;
      base = h.base ∙ h.one_base;
      tracks = h.tracks ∙ ap (λ (x : TrackLists). x.tracks) all;
      right_tracks = sym h.one_count ∙ e;
      right_set = sg;
      stands = subst (λ x. StandsForMixed t (joined AndNot (Solves sorts f) (Solves sorts g) x)) all
          (difference_stands a b t m h some lassos (Solves sorts f) (Solves sorts g) sf sg);
    }

-- ---- tables of either kind
-- what is known of the table of the difference, and of the answer whether it accepts nothing
pub record IsDecided (a b : Table) (m : TrackLists) (limit : ℕ) (t : Table) (answer : Bool) : Type 0 where
  pub pairs_are : IsDiagram a → IsPairTable AndNot a b m limit t
  pub stands : IsDiagram a → (P Q : Formula) → StandsForWhole a (holds P) → StandsForWhole b (holds Q) → StandsForWhole t (joined AndNot (holds P) (holds Q) m)
  pub diagram : IsDiagram a → IsDiagram t
  pub fractions : 0 < fracs a → 0 < fracs t
  pub lassos : 0 < fracs a → AcceptsBothLassos AndNot a b m t
  pub no_word : IsDiagram t → IsTrue answer ↔ SaysNo t
  pub no_lasso : 0 < fracs t → IsTrue answer ↔ AcceptsNoLasso t

pub subset_is : (a b t : Table) (m : TrackLists) (limit : ℕ) (sorts : List Sort) (f g : Formula) (answer : Bool) → IsDifference a b m t
    → IsDecided a b m limit t answer
    → a.tracks ≡ length sorts → StandsFor a sorts f → StandsFor b sorts g → IsTrue answer ↔ Includes sorts f g
subset_is a b t m limit sorts f g answer h d e of_a of_b = elim (kind_of sorts) [ inl kind ↦ by_words kind | inr kind ↦ by_lassos kind ]
  where
    by_words : AreWhole sorts → IsTrue answer ↔ Includes sorts f g
    by_words kind =
        let sf : StandsForWhole a (Solves sorts f) = kind.stands a f of_a in
        of_sorts (λ ss. StandsForWhole a (Solves ss f) → StandsForWhole b (Solves ss g) → IsTrue answer ↔ Includes ss f g) sorts kind.sorts_are
        (diagrams_within a b t m (length sorts) limit f g answer h (d.pairs_are sf.diagram) (d.stands sf.diagram) (d.no_word (d.diagram sf.diagram)) e) sf
        (kind.stands b g of_b)

    by_lassos : AreMixed sorts → IsTrue answer ↔ Includes sorts f g
    by_lassos kind =
        let sf : StandsForMixed a (Solves sorts f) = kind.stands a f of_a in
        let some : 0 < fracs t = d.fractions sf.fractions in
        mixed_within a b t m sorts f g answer h some (d.lassos sf.fractions) (d.no_lasso some) e sf (kind.stands b g of_b)

-- ---- canonical tables are weak
weak_table : (t : Table) → IsCanonicalTable t → 0 < fracs t → IsWeakTable t
weak_table t c some = record { fractions = some; weak = (canonical_fractions t c some).weak }

pub weak_tables : (a b : Table) → IsCanonicalTable a → IsCanonicalTable b → HaveSameKind a b → AreOneKind a b
weak_tables a b ca cb kinds = elim kinds [ inl both ↦ inl both | inr both ↦ inr (weak_table a ca both.0, weak_table b cb both.1) ]

-- a table that has fraction states only if another has, and is then weak
pub weak_if : (a t : Table) → (IsDiagram a → IsDiagram t) → (0 < fracs a → IsWeak (letters t) (fraction_graph t)) → 0 < fracs t
    → IsWeak (letters t) (fraction_graph t)
weak_if a t diagram weak some = elim (kind_of_table a) [ inl none ↦ absurd (one_kind t (diagram none) some) | inr more ↦ weak more ]

-- ---- a table that accepts the same lassos
pub none_carried : (t u : Table) → u.base ≡ t.base → u.tracks ≡ t.tracks → AcceptSameLassos t u → AcceptsNoLasso u → AcceptsNoLasso t
none_carried t u base tracks same none x v = same x v ∙ none x (subst (λ r. IsLasso r u.tracks x) (sym base) (subst (λ k. IsLasso t.base k x) (sym tracks) v))

pub none_found : (t u : Table) → u.base ≡ t.base → u.tracks ≡ t.tracks → AcceptSameLassos t u → AcceptsNoLasso t → AcceptsNoLasso u
none_found t u base tracks same none x v =
    let over : IsLasso t.base t.tracks x = subst (λ r. IsLasso r t.tracks x) base (subst (λ k. IsLasso u.base k x) tracks v) in
    sym (same x over) ∙ none x over

-- a canonical table has no fixed solution exactly if a table that accepts the same lassos accepts none
pub no_solution : {X : Type 0} (of : X → Lasso) (found : Option X) (answer : Bool) (t u : Table) → is_some found ≡ not answer → u.base ≡ t.base
    → u.tracks ≡ t.tracks
    → AcceptSameLassos t u → IfNone found (AcceptsNoLasso u) → IfSome found (λ x. IsFixedSolution u (of x)) → IsTrue answer ↔ AcceptsNoLasso t
no_solution of None true t u e base tracks same none some = (λ _. none_carried t u base tracks same none, λ _. refl)
no_solution of None false t u e base tracks same none some = absurd (false≢true e)
no_solution of (Some x) true t u e base tracks same none some = absurd (false≢true (sym e))
no_solution of (Some x) false t u e base tracks same none some =
    (λ y. absurd (false≢true y), λ accepts. absurd (not_both_kinds u (of x) (none_found t u base tracks same accepts) some))
