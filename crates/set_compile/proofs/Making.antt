-- A formula's table is made in one way.
use Rattle.std.proofs.Common.{◌≡◌, ℕ, ◌+◌, length, arith, refl, sym, ◌∙◌, subst, true}
use mathlib.Core.Logic.{inl, inr}
use Rattle.std.proofs.lemmas.Bool.{false≢true}
use Rattle.lash_model.specs.Formulas.{Sort, Int, Real, Formula, Atom, Not, And, Or, Exists}
use Rattle.lash_model.specs.Tables.{Table}
use Rattle.formula_core.specs.Counts.{uses, free_places}
use Rattle.product_ops.specs.declared.operation.Op.TheVariants.{And as Both, Or as Either}
use Rattle.subset_build.specs.Projection.{kept}
use Rattle.set_compile.specs.Kinds.{AcceptOthers, IsShaped}
use Rattle.set_compile.specs.Positions.{shared}
use Rattle.set_compile.specs.Steps.{own, IsOfPairs, IsOfBreakpoints, IsForgotten, IsMade, always, all_tracks, IsWidened, IsWide}
use Rattle.set_compile.specs.declared.build.Build.{Build}
use Rattle.set_compile.specs.declared.build.Mode.{Mode}
use Rattle.set_compile.specs.declared.build.Mode.TheVariants.{Whole, Mixed}
use Rattle.set_compile.proofs.Bodies.{used_count, unused_count}
use Rattle.set_compile.proofs.Restricting.{one_at}
use Rattle.set_compile.proofs.Uniting.{one_atom, one_opposite, one_join, one_projection, one_breakpoints}

-- the steps of a bound variable make one table
one_forgotten : (mode : Mode) (s : Sort) (b : Build) (n : ℕ) (x t u : Table) → b.mode ≡ mode → IsShaped mode b.base (n + 1) x → IsShaped mode b.base n t
    → IsShaped mode b.base n u → IsForgotten mode s b n x t → IsForgotten mode s b n x u → t ≡ u
one_forgotten Whole s b n x t u is sx st su ht hu = one_projection b.base n n b.limit x t u sx.base_is (omega (arith, sx.tracks_are)) st su ht hu
one_forgotten Mixed Real b n x t u is sx st su ht hu = one_breakpoints b.base n n b.limit x t u st su ht hu
one_forgotten Mixed Int b n x t u is sx st su ht hu =
    let sx_mode : IsShaped b.mode b.base (n + 1) x = subst (λ mode. IsShaped mode b.base (n + 1) x) (sym is) sx in
    let same : hu.0 ≡ ht.0 = one_at b (n + 1) n x hu.0 ht.0 is sx_mode hu.1.0 ht.1.0 in
    one_breakpoints b.base n n b.limit ht.0 t u st su ht.1.1 (subst (λ v. IsOfBreakpoints v n b.limit u) same hu.1.1)

-- a body whose bound variable is used has one track more than the whole
pub one_more : (mode : Mode) (base : ℕ) (f : Formula) (m : ℕ) (u : Table) → uses m f ≡ true → IsShaped mode base (length (free_places f (m + 1))) u → kept u ≡ length (free_places f m)
one_more mode base f m u used s = omega (arith, s.tracks_are, used_count f m used)

pub shape_of : (b : Build) (m : ℕ) (f : Formula) (t : Table) → IsMade b m f t → IsShaped b.mode b.base (length (free_places f m)) t
shape_of b m (Atom kind a) t h = h.0
shape_of b m (Not f) t h = h.0
shape_of b m (And f g) t h = h.0
shape_of b m (Or f g) t h = h.0
shape_of b m (Exists s f) t (inl h) = h.1.0
shape_of b m (Exists s f) t (inr h) = subst (λ n. IsShaped b.mode b.base n t) (unused_count f m h.0) (shape_of b (m + 1) f t h.1)

own_shape : (b : Build) (m : ℕ) (f : Formula) (t : Table) → IsMade b m f t → IsShaped b.mode b.base t.tracks t
own_shape b m f t h = let s = shape_of b m f t h in subst (λ n. IsShaped b.mode b.base n t) (sym s.tracks_are) s

-- a formula's table is made in one way
pub one_made : (b : Build) (m : ℕ) (f : Formula) (t u : Table) → IsMade b m f t → IsMade b m f u → t ≡ u
one_made b m (Atom kind a) t u ht hu = one_atom b kind (own a) (length (free_places (Atom kind a) m)) t u ht.0 hu.0 ht.1 hu.1
one_made b m (Not f) t u ht hu =
    let x : Table = ht.1.0 in
    let same : hu.1.0 ≡ x = one_made b m f hu.1.0 x hu.1.1.0 ht.1.1.0 in
    one_opposite b.mode b.base (length (free_places f m)) x t u (shape_of b m f x ht.1.1.0) ht.0 hu.0 ht.1.1.1 (subst (λ v. AcceptOthers v u) same hu.1.1.1)
one_made b m (And f g) t u ht hu =
    let x : Table = ht.1.0 in
    let y : Table = ht.1.1.0 in
    let left : hu.1.0 ≡ x = one_made b m f hu.1.0 x hu.1.1.1.0.0 ht.1.1.1.0.0 in
    let right : hu.1.1.0 ≡ y = one_made b m g hu.1.1.0 y hu.1.1.1.0.1 ht.1.1.1.0.1 in
    one_join Both b.mode b.base b.limit (shared (And f g) f g m) x y t u (own_shape b m f x ht.1.1.1.0.0) ht.0 hu.0 ht.1.1.1.1
    (subst (λ v. IsOfPairs Both x v (shared (And f g) f g m) b.limit u) right (subst (λ v. IsOfPairs Both v hu.1.1.0 (shared (And f g) f g m) b.limit u) left hu.1.1.1.1))
one_made b m (Or f g) t u ht hu =
    let x : Table = ht.1.0 in
    let y : Table = ht.1.1.0 in
    let left : hu.1.0 ≡ x = one_made b m f hu.1.0 x hu.1.1.1.0.0 ht.1.1.1.0.0 in
    let right : hu.1.1.0 ≡ y = one_made b m g hu.1.1.0 y hu.1.1.1.0.1 ht.1.1.1.0.1 in
    one_join Either b.mode b.base b.limit (shared (Or f g) f g m) x y t u (own_shape b m f x ht.1.1.1.0.0) ht.0 hu.0 ht.1.1.1.1
    (subst (λ v. IsOfPairs Either x v (shared (Or f g) f g m) b.limit u) right (subst (λ v. IsOfPairs Either v hu.1.1.0 (shared (Or f g) f g m) b.limit u) left hu.1.1.1.1))
one_made b m (Exists s f) t u (inl ht) (inl hu) =
    let n : ℕ = length (free_places f m) in
    let x : Table = ht.1.1.0 in
    let same : hu.1.1.0 ≡ x = one_made b (m + 1) f hu.1.1.0 x hu.1.1.1.0 ht.1.1.1.0 in
    let body : IsShaped b.mode b.base (n + 1) x = subst (λ k. IsShaped b.mode b.base k x) (used_count f m ht.0) (shape_of b (m + 1) f x ht.1.1.1.0) in
    one_forgotten b.mode s b n x t u refl body ht.1.0 hu.1.0 ht.1.1.1.1 (subst (λ v. IsForgotten b.mode s b n v u) same hu.1.1.1.1)
one_made b m (Exists s f) t u (inl ht) (inr hu) = absurd (false≢true (sym hu.0 ∙ ht.0))
one_made b m (Exists s f) t u (inr ht) (inl hu) = absurd (false≢true (sym ht.0 ∙ hu.0))
one_made b m (Exists s f) t u (inr ht) (inr hu) = one_made b (m + 1) f t u ht.1 hu.1

pub one_widened : (b : Build) (m : ℕ) (f : Formula) (t u : Table) → IsWidened b m f t → IsWidened b m f u → t ≡ u
one_widened b m f t u ht hu =
    let x : Table = ht.part in
    let y : Table = ht.whole in
    let left : hu.part ≡ x = one_made b m f hu.part x hu.part_made ht.part_made in
    let right : hu.whole ≡ y = one_made b m always hu.whole y hu.whole_made ht.whole_made in
    one_join Both b.mode b.base b.limit (all_tracks f m) x y t u (own_shape b m f x ht.part_made) ht.shape hu.shape ht.joins
    (subst (λ v. IsOfPairs Both x v (all_tracks f m) b.limit u) right (subst (λ v. IsOfPairs Both v hu.whole (all_tracks f m) b.limit u) left hu.joins))

pub one_wide : (b : Build) (m : ℕ) (f : Formula) (t u : Table) → IsWide b m f t → IsWide b m f u → t ≡ u
one_wide b m f t u (inl x) (inl y) = one_made b m f t u x.1 y.1
one_wide b m f t u (inl x) (inr y) = absurd (omega (arith, x.0, y.0))
one_wide b m f t u (inr x) (inl y) = absurd (omega (arith, x.0, y.0))
one_wide b m f t u (inr x) (inr y) = one_widened b m f t u x.1 y.1
