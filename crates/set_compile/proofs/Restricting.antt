-- The steps of integer variables: they keep exactly the vectors in which those variables are whole, and make one table.
use Rattle.std.proofs.Common.{◌≡◌, ℕ, zero, suc, ◌+◌, ◌^◌, ◌<◌, ◌≤◌, List, [], ◌∷◌, length, arith, sym, ◌∙◌, subst}
use mathlib.Core.Logic.{inl, inr}
use Rattle.std.proofs.Math.IntN.{ℤ}
use Rattle.std.specs.List.{slice_index_or, range_with_len}
use Rattle.std.proofs.lemmas.List.FromFn.{length-range_with_len}
use Rattle.lash_model.specs.Formulas.{Sort, Int, Real}
use Rattle.lash_model.specs.Standing.{StandsForMixed}
use Rattle.lash_model.specs.Tables.{Table, fracs}
use Rattle.lasso_laws.specs.WholeNumbers.{whole_at}
use Rattle.lasso_laws.proofs.WholeTables.{whole_stands}
use Rattle.part_laws.proofs.BothKinds.{one_kind, canonical_table}
use Rattle.part_laws.proofs.CanonicalSets.{mixed_carried}
use Rattle.product_ops.specs.Operations.{joined}
use Rattle.product_ops.specs.Products.{IsHeavyProduct}
use Rattle.product_ops.specs.Pairs.{IsOperand, left_operand, right_operand}
use Rattle.product_ops.specs.Tracks.{AreTracks, pick_entries}
use Rattle.product_ops.specs.declared.operation.Op.TheVariants.{And as Both}
use Rattle.product_ops.proofs.AllTracks.{tracks_are, picked}
use Rattle.product_ops.proofs.LassoReading.{reads_lassos}
use Rattle.product_ops.proofs.MixedJoining.{mixed_product_stands}
use Rattle.set_compile.specs.Compiling.{AreWholeFrom, IsHeavyFrom}
use Rattle.set_compile.specs.Kinds.{IsOfMode, GivesBoth, IsShaped}
use Rattle.set_compile.specs.Steps.{IsOfPairs, IsOfWholes, with_track, IsWholeAt, IsHeavyAt}
use Rattle.set_compile.specs.declared.build.Build.{Build}
use Rattle.set_compile.specs.declared.build.Mode.TheVariants.{Mixed}
use Rattle.set_compile.proofs.Uniting.{base_low, one_join}
use Rattle.set_compile.proofs.Modes.{as_mixed, stands_same, same_shape, accept_same}
use Rattle.set_compile.proofs.Refusing.{PairsExclude}

mixed_fractions : (b : Build) (n : ℕ) (t : Table) → b.mode ≡ Mixed → IsShaped b.mode b.base n t → 0 < fracs t
mixed_fractions b n t mixed s = subst (λ mode. IsOfMode mode t) mixed s.kind

-- ---- the table of whole numbers
pub wholes_stand : (b : Build) (t : Table) → b.mode ≡ Mixed → IsOfWholes b t → StandsForMixed t (whole_at 0)
wholes_stand b t mixed h = mixed_carried h.whole_table t (whole_at 0) (h.counts.base ∙ sym h.shape.base_is) (h.counts.tracks ∙ sym h.shape.tracks_are)
    (mixed_fractions b 1 t mixed h.shape) h.same (whole_stands b.base 1 0 h.whole_table (base_low b.mode b.base 1 t h.shape) (omega arith) h.counts)

one_wholes : (b : Build) (t u : Table) → b.mode ≡ Mixed → IsOfWholes b t → IsOfWholes b u → t ≡ u
one_wholes b t u mixed ht hu = same_shape b.mode b.base 1 t u ht.shape hu.shape
    (accept_same b.mode b.base 1 t u (whole_at 0) ht.shape hu.shape (inr (wholes_stand b t mixed ht)) (inr (wholes_stand b u mixed hu)))

-- ---- one variable
own_tracks : (b : Build) (m : ℕ) (u : Table) → IsShaped b.mode b.base m u → IsShaped b.mode b.base u.tracks u
own_tracks b m u s = subst (λ n. IsShaped b.mode b.base n u) (sym s.tracks_are) s

pub one_at : (b : Build) (m place : ℕ) (u t v : Table) → b.mode ≡ Mixed → IsShaped b.mode b.base m u → IsWholeAt b m place u t → IsWholeAt b m place u v → t ≡ v
one_at b m place u t v mixed s ht hv =
    let same : hv.wholes ≡ ht.wholes = one_wholes b hv.wholes ht.wholes mixed hv.wholes_made ht.wholes_made in
    one_join Both b.mode b.base b.limit (with_track m place) u ht.wholes t v (own_tracks b m u s) ht.shape hv.shape ht.joins
    (subst (λ w. IsOfPairs Both u w (with_track m place) b.limit v) same hv.joins)

pub one_track : (m place : ℕ) → place < m → AreTracks m (place ∷ [])
one_track m place lt = record {
  below = λ i d inside. first i d inside;
  distinct = λ i j d less inside. absurd (omega (arith, less, inside));
}
  where
    first : (i d : ℕ) → i < 1 → slice_index_or (place ∷ []) i d < m
    first zero d inside = lt
    first (suc i) d inside = absurd (omega (arith, inside))

left_reads : (b : Build) (m place : ℕ) (u : Table) → b.base ^ m ≤ 4096 → IsShaped b.mode b.base m u → IsOperand (left_operand u (with_track m place))
left_reads b m place u few s = record {
  table = canonical_table u s.canonical;
  places = tracks_are m;
  count = length-range_with_len 0 m ∙ sym s.tracks_are;
  few = subst (λ r. r ^ m ≤ 4096) (sym s.base_is) few;
}

right_reads : (b : Build) (m place : ℕ) (v : Table) → place < m → b.base ^ m ≤ 4096 → IsShaped b.mode b.base 1 v → IsOperand (right_operand v (with_track m place))
right_reads b m place v lt few s = record {
  table = canonical_table v s.canonical;
  places = one_track m place lt;
  count = sym s.tracks_are;
  few = subst (λ r. r ^ m ≤ 4096) (sym s.base_is) few;
}

pub at_stands : (b : Build) (m place : ℕ) (u t : Table) (P : List ℤ → ℕ → Type 0) → b.mode ≡ Mixed → place < m → b.base ^ m ≤ 4096
    → IsShaped b.mode b.base m u → IsWholeAt b m place u t → StandsForMixed u P → StandsForMixed t (λ ns d. P ns d × whole_at place ns d)
at_stands b m place u t P mixed lt few s h p = by h.joins.gives
  where
    some : 0 < fracs t
    some = mixed_fractions b m t mixed h.shape

    by : GivesBoth Both u h.wholes (with_track m place) t → StandsForMixed t (λ ns d. P ns d × whole_at place ns d)
    by (inl words) = absurd (one_kind u words.0 p.fractions)
    by (inr lassos) =
        let both : StandsForMixed t (joined Both P (whole_at 0) (with_track m place)) =
        mixed_product_stands Both u h.wholes (with_track m place) t (reads_lassos (left_operand u (with_track m place)) (left_reads b m place u few s))
        (reads_lassos (right_operand h.wholes (with_track m place)) (right_reads b m place h.wholes lt few h.wholes_made.shape))
        (s.base_is ∙ sym h.wholes_made.shape.base_is) (h.shape.base_is ∙ sym s.base_is) h.shape.tracks_are some lassos.1 P (whole_at 0) p
        (wholes_stand b h.wholes mixed h.wholes_made) in
        as_mixed t (λ ns d. P ns d × whole_at place ns d) some
        (stands_same t (joined Both P (whole_at 0) (with_track m place)) (λ ns d. P ns d × whole_at place ns d) (λ ns d count.
        let e : pick_entries (range_with_len 0 m) ns ≡ ns = picked m ns (count ∙ h.shape.tracks_are) in
        (λ x. (subst (λ ms. P ms d) e x.0, x.1), λ y. (subst (λ ms. P ms d) (sym e) y.0, y.1))) (inr both))

pub not_at : PairsExclude → (b : Build) (m place : ℕ) (u t : Table) → b.mode ≡ Mixed → IsHeavyAt b m place u → IsWholeAt b m place u t → ⊥
not_at law b m place u t mixed (inl lt) at = omega (arith, lt, at.wholes_made.within)
not_at law b m place u t mixed (inr h) at =
    let same = one_wholes b h.0 at.wholes mixed h.1.0 at.wholes_made in
    law Both u at.wholes (with_track m place) b.limit at.joins.pair_table (subst (λ w. IsHeavyProduct u w (with_track m place) b.limit) same h.1.1) at.joins.counts

-- ---- all integer variables
-- the numerators at the places of the integers among the sorts, of which the first is at the place, are multiples of d
abbrev pub WholeFrom : ℕ → List Sort → List ℤ → ℕ → Type 0
WholeFrom place [] ns d = Unit {0}
WholeFrom place (Int ∷ sorts) ns d = whole_at place ns d × WholeFrom (place + 1) sorts ns d
WholeFrom place (Real ∷ sorts) ns d = WholeFrom (place + 1) sorts ns d

pub from_stands : (b : Build) (m place : ℕ) (sorts : List Sort) (u t : Table) (P : List ℤ → ℕ → Type 0) → b.mode ≡ Mixed → place + length sorts ≤ m
    → b.base ^ m ≤ 4096 → IsShaped b.mode b.base m u → AreWholeFrom b m place sorts u t → StandsForMixed u P
    → StandsForMixed t (λ ns d. P ns d × WholeFrom place sorts ns d)
from_stands b m place [] u t P mixed lt few s h p =
    subst (λ v. StandsForMixed v (λ ns d. P ns d × WholeFrom place [] ns d)) (sym h)
    (as_mixed u (λ ns d. P ns d × WholeFrom place [] ns d) p.fractions (stands_same u P (λ ns d. P ns d × WholeFrom place [] ns d) (λ ns d count. (λ x. (x, tt), λ y. y.0)) (inr p)))
from_stands b m place (Int ∷ sorts) u t P mixed lt few s h p =
    let v : Table = h.0 in
    let at : StandsForMixed v (λ ns d. P ns d × whole_at place ns d) = at_stands b m place u v P mixed (omega (arith, lt)) few s h.1.0 p in
    let rest : StandsForMixed t (λ ns d. (P ns d × whole_at place ns d) × WholeFrom (place + 1) sorts ns d) =
    from_stands b m (place + 1) sorts v t (λ ns d. P ns d × whole_at place ns d) mixed (omega (arith, lt)) few h.1.0.shape h.1.1 at in
    as_mixed t (λ ns d. P ns d × WholeFrom place (Int ∷ sorts) ns d) rest.fractions
    (stands_same t (λ ns d. (P ns d × whole_at place ns d) × WholeFrom (place + 1) sorts ns d) (λ ns d. P ns d × WholeFrom place (Int ∷ sorts) ns d)
    (λ ns d count. (λ x. (x.0.0, (x.0.1, x.1)), λ y. ((y.0, y.1.0), y.1.1))) (inr rest))
from_stands b m place (Real ∷ sorts) u t P mixed lt few s h p = from_stands b m (place + 1) sorts u t P mixed (omega (arith, lt)) few s h p

pub from_shape : (b : Build) (m place : ℕ) (sorts : List Sort) (u t : Table) → IsShaped b.mode b.base m u → AreWholeFrom b m place sorts u t → IsShaped b.mode b.base m t
from_shape b m place [] u t s h = subst (IsShaped b.mode b.base m) (sym h) s
from_shape b m place (Int ∷ sorts) u t s h = from_shape b m (place + 1) sorts h.0 t h.1.0.shape h.1.1
from_shape b m place (Real ∷ sorts) u t s h = from_shape b m (place + 1) sorts u t s h

pub one_from : (b : Build) (m place : ℕ) (sorts : List Sort) (u t v : Table) → b.mode ≡ Mixed → IsShaped b.mode b.base m u → AreWholeFrom b m place sorts u t
    → AreWholeFrom b m place sorts u v → t ≡ v
one_from b m place [] u t v mixed s ht hv = ht ∙ sym hv
one_from b m place (Int ∷ sorts) u t v mixed s ht hv =
    let same : hv.0 ≡ ht.0 = one_at b m place u hv.0 ht.0 mixed s hv.1.0 ht.1.0 in
    one_from b m (place + 1) sorts ht.0 t v mixed ht.1.0.shape ht.1.1 (subst (λ w. AreWholeFrom b m (place + 1) sorts w v) same hv.1.1)
one_from b m place (Real ∷ sorts) u t v mixed s ht hv = one_from b m (place + 1) sorts u t v mixed s ht hv

pub not_from : PairsExclude → (b : Build) (m place : ℕ) (sorts : List Sort) (u t : Table) → b.mode ≡ Mixed → IsShaped b.mode b.base m u
    → IsHeavyFrom b m place sorts u → AreWholeFrom b m place sorts u t → ⊥
not_from law b m place [] u t mixed s h made = h
not_from law b m place (Int ∷ sorts) u t mixed s (inl h) made = not_at law b m place u made.0 mixed h made.1.0
not_from law b m place (Int ∷ sorts) u t mixed s (inr h) made =
    let same : h.0 ≡ made.0 = one_at b m place u h.0 made.0 mixed s h.1.0 made.1.0 in
    not_from law b m (place + 1) sorts made.0 t mixed made.1.0.shape (subst (λ w. IsHeavyFrom b m (place + 1) sorts w) same h.1.1) made.1.1
not_from law b m place (Real ∷ sorts) u t mixed s h made = not_from law b m (place + 1) sorts u t mixed s h made
