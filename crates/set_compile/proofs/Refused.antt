-- A refused formula has no table, and it is refused for one cause.
use Rattle.std.proofs.Common.{◌≡◌, ℕ, ◌+◌, List, length, arith, refl, sym, ◌∙◌, subst, true}
use mathlib.Core.Logic.{◌⊎◌, inl, inr}
use Rattle.std.proofs.lemmas.Bool.{false≢true}
use Rattle.lash_model.specs.Formulas.{Sort, Int, Real, Formula, Atom, Not, And, Or, Exists}
use Rattle.lash_model.specs.Tables.{Table}
use Rattle.formula_core.specs.Counts.{uses, free_places}
use Rattle.product_ops.specs.Products.{IsHeavyProduct}
use Rattle.product_ops.specs.Tracks.{TrackLists}
use Rattle.product_ops.specs.declared.operation.Op.{Op}
use Rattle.product_ops.specs.declared.operation.Op.TheVariants.{And as Both, Or as Either}
use Rattle.set_compile.specs.Kinds.{IsShaped}
use Rattle.set_compile.specs.Positions.{shared}
use Rattle.set_compile.specs.Steps.{own, IsOfPairs, IsOfBreakpoints, IsForgotten, IsProjectionRefused, IsForgettingRefused, IsMade, HasHeavyPairs}
use Rattle.set_compile.specs.Steps.{IsFirstRefused, always, all_tracks, IsWide, IsWideRefused}
use Rattle.set_compile.specs.declared.build.Build.{Build}
use Rattle.set_compile.specs.declared.build.Mode.{Mode}
use Rattle.set_compile.specs.declared.build.Mode.TheVariants.{Whole, Mixed}
use Rattle.set_compile.specs.declared.errors.CompileError.{CompileError}
use Rattle.set_compile.specs.declared.errors.CompileError.TheVariants.{Heavy, NotWeak, Memory}
use Rattle.set_compile.proofs.Bodies.{used_count}
use Rattle.set_compile.proofs.Making.{shape_of, one_made}
use Rattle.set_compile.proofs.Refusing.{PairsExclude, ProjectionsExclude, StepsExclude}
use Rattle.set_compile.proofs.Restricting.{one_at, not_at}

pub no_pairs : PairsExclude → (op : Op) (b : Build) (m : ℕ) (f g : Formula) (tracks : TrackLists) (x y t : Table) → HasHeavyPairs b m f g tracks → IsMade b m f x → IsMade b m g y → IsOfPairs op x y tracks b.limit t → ⊥
no_pairs law op b m f g tracks x y t h hx hy pair =
    let left : h.0 ≡ x = one_made b m f h.0 x h.1.1.0.0 hx in
    let right : h.1.0 ≡ y = one_made b m g h.1.0 y h.1.1.0.1 hy in
    law op x y tracks b.limit pair.pair_table (subst (λ v. IsHeavyProduct x v tracks b.limit) right (subst (λ v. IsHeavyProduct v h.1.0 tracks b.limit) left h.1.1.1)) pair.counts

-- ---- projections
not_projected : ProjectionsExclude → (u t : Table) (track limit : ℕ) (e : CompileError) → IsProjectionRefused u track limit e → IsOfBreakpoints u track limit t → ⊥
not_projected law u t track limit Heavy h made = law.projected u made.form track limit h made.counts
not_projected law u t track limit (NotWeak sign whole stem accept reject) h made = law.weak u made.form track limit sign whole stem accept reject made.counts h
not_projected law u t track limit Memory h made = h

same_words : (s1 s2 : ℕ) (w1 w2 p1 p2 a1 a2 r1 r2 : List ℕ) → (s1 ≡ s2) × ((w1 ≡ w2) × ((p1 ≡ p2) × ((a1 ≡ a2) × (r1 ≡ r2)))) → NotWeak s1 w1 p1 a1 r1 ≡ NotWeak s2 w2 p2 a2 r2
same_words s1 s2 w1 w2 p1 p2 a1 a2 r1 r2 h = rw (h.0, h.1.0, h.1.1.0, h.1.1.1.0, h.1.1.1.1) refl

one_cause : ProjectionsExclude → (u : Table) (track limit : ℕ) (e k : CompileError) → IsProjectionRefused u track limit e → IsProjectionRefused u track limit k → e ≡ k
one_cause law u track limit Heavy Heavy h g = refl
one_cause law u track limit Heavy (NotWeak sign whole stem accept reject) h g = absurd (law.torn u track limit sign whole stem accept reject h g)
one_cause law u track limit Heavy Memory h g = absurd g
one_cause law u track limit (NotWeak sign whole stem accept reject) Heavy h g = absurd (law.torn u track limit sign whole stem accept reject g h)
one_cause law u track limit (NotWeak s1 w1 p1 a1 r1) (NotWeak s2 w2 p2 a2 r2) h g = same_words s1 s2 w1 w2 p1 p2 a1 a2 r1 r2 (law.words u track limit s1 s2 w1 w2 p1 p2 a1 a2 r1 r2 h g)
one_cause law u track limit (NotWeak sign whole stem accept reject) Memory h g = absurd g
one_cause law u track limit Memory k h g = absurd h

-- ---- bound variables
not_forgotten : StepsExclude → (mode : Mode) (s : Sort) (b : Build) (n : ℕ) (u t : Table) (e : CompileError) → b.mode ≡ mode → IsShaped mode b.base (n + 1) u
    → IsForgettingRefused mode s b n u e → IsForgotten mode s b n u t → ⊥
not_forgotten law Whole s b n u t e is su h made = law.subsets u n b.limit made.subset_table h.1 made.counts
not_forgotten law Mixed Real b n u t e is su h made = not_projected law.projections u t n b.limit e h made
not_forgotten law Mixed Int b n u t e is su (inl h) made = not_at law.pairs b (n + 1) n u made.0 is h.1 made.1.0
not_forgotten law Mixed Int b n u t e is su (inr h) made =
    let same : h.0 ≡ made.0 = one_at b (n + 1) n u h.0 made.0 is (subst (λ mode. IsShaped mode b.base (n + 1) u) (sym is) su) h.1.0 made.1.0 in
    not_projected law.projections made.0 t n b.limit e (subst (λ v. IsProjectionRefused v n b.limit e) same h.1.1) made.1.1

one_forgetting : StepsExclude → (mode : Mode) (s : Sort) (b : Build) (n : ℕ) (u : Table) (e k : CompileError) → b.mode ≡ mode → IsShaped mode b.base (n + 1) u
    → IsForgettingRefused mode s b n u e → IsForgettingRefused mode s b n u k → e ≡ k
one_forgetting law Whole s b n u e k is su h g = h.0 ∙ sym g.0
one_forgetting law Mixed Real b n u e k is su h g = one_cause law.projections u n b.limit e k h g
one_forgetting law Mixed Int b n u e k is su (inl h) (inl g) = h.0 ∙ sym g.0
one_forgetting law Mixed Int b n u e k is su (inl h) (inr g) = absurd (not_at law.pairs b (n + 1) n u g.0 is h.1 g.1.0)
one_forgetting law Mixed Int b n u e k is su (inr h) (inl g) = absurd (not_at law.pairs b (n + 1) n u h.0 is g.1 h.1.0)
one_forgetting law Mixed Int b n u e k is su (inr h) (inr g) =
    let same : g.0 ≡ h.0 = one_at b (n + 1) n u g.0 h.0 is (subst (λ mode. IsShaped mode b.base (n + 1) u) (sym is) su) g.1.0 h.1.0 in
    one_cause law.projections h.0 n b.limit e k h.1.1 (subst (λ v. IsProjectionRefused v n b.limit k) same g.1.1)

body_shape : (b : Build) (m : ℕ) (f : Formula) (u : Table) → uses m f ≡ true → IsMade b (m + 1) f u → IsShaped b.mode b.base (length (free_places f m) + 1) u
body_shape b m f u used made = subst (λ k. IsShaped b.mode b.base k u) (used_count f m used) (shape_of b (m + 1) f u made)

-- ---- nodes
pub not_made : StepsExclude → (b : Build) (m : ℕ) (f : Formula) (e : CompileError) (t : Table) → IsFirstRefused b m f e → IsMade b m f t → ⊥
not_made law b m (Atom kind a) e t h made = law.atoms b.mode kind (own a) b.base (length (free_places (Atom kind a) m)) b.limit made.1.atom_table h.1 made.1.counts
not_made law b m (Not f) e t h made = not_made law b m f e made.1.0 h made.1.1.0
not_made law b m (And f g) e t (inl h) made = not_made law b m f e made.1.0 h made.1.1.1.0.0
not_made law b m (And f g) e t (inr (inl h)) made = not_made law b m g e made.1.1.0 h.1 made.1.1.1.0.1
not_made law b m (And f g) e t (inr (inr h)) made = no_pairs law.pairs Both b m f g (shared (And f g) f g m) made.1.0 made.1.1.0 t h.1 made.1.1.1.0.0 made.1.1.1.0.1 made.1.1.1.1
not_made law b m (Or f g) e t (inl h) made = not_made law b m f e made.1.0 h made.1.1.1.0.0
not_made law b m (Or f g) e t (inr (inl h)) made = not_made law b m g e made.1.1.0 h.1 made.1.1.1.0.1
not_made law b m (Or f g) e t (inr (inr h)) made = no_pairs law.pairs Either b m f g (shared (Or f g) f g m) made.1.0 made.1.1.0 t h.1 made.1.1.1.0.0 made.1.1.1.0.1 made.1.1.1.1
not_made law b m (Exists s f) e t (inl h) (inl made) = not_made law b (m + 1) f e made.1.1.0 h made.1.1.1.0
not_made law b m (Exists s f) e t (inl h) (inr made) = not_made law b (m + 1) f e t h made.1
not_made law b m (Exists s f) e t (inr h) (inl made) =
    let n : ℕ = length (free_places f m) in
    let same : h.1.0 ≡ made.1.1.0 = one_made b (m + 1) f h.1.0 made.1.1.0 h.1.1.0 made.1.1.1.0 in
    not_forgotten law b.mode s b n made.1.1.0 t e refl (body_shape b m f made.1.1.0 made.0 made.1.1.1.0) (subst (λ v. IsForgettingRefused b.mode s b n v e) same h.1.1.1.0) made.1.1.1.1
not_made law b m (Exists s f) e t (inr h) (inr made) = absurd (false≢true (sym made.0 ∙ h.0))

-- both parts are made, and their pairs refused: one part is not refused
pub one_first : StepsExclude → (b : Build) (m : ℕ) (f : Formula) (e k : CompileError) → IsFirstRefused b m f e → IsFirstRefused b m f k → e ≡ k
one_first law b m (Atom kind a) e k h g = h.0 ∙ sym g.0
one_first law b m (Not f) e k h g = one_first law b m f e k h g
one_first law b m (And f g) e k (inl x) (inl y) = one_first law b m f e k x y
one_first law b m (And f g) e k (inl x) (inr (inl y)) = absurd (not_made law b m f e y.0.0 x y.0.1)
one_first law b m (And f g) e k (inl x) (inr (inr y)) = absurd (not_made law b m f e y.1.0 x y.1.1.1.0.0)
one_first law b m (And f g) e k (inr (inl x)) (inl y) = absurd (not_made law b m f k x.0.0 y x.0.1)
one_first law b m (And f g) e k (inr (inl x)) (inr (inl y)) = one_first law b m g e k x.1 y.1
one_first law b m (And f g) e k (inr (inl x)) (inr (inr y)) = absurd (not_made law b m g e y.1.1.0 x.1 y.1.1.1.0.1)
one_first law b m (And f g) e k (inr (inr x)) (inl y) = absurd (not_made law b m f k x.1.0 y x.1.1.1.0.0)
one_first law b m (And f g) e k (inr (inr x)) (inr (inl y)) = absurd (not_made law b m g k x.1.1.0 y.1 x.1.1.1.0.1)
one_first law b m (And f g) e k (inr (inr x)) (inr (inr y)) = x.0 ∙ sym y.0
one_first law b m (Or f g) e k (inl x) (inl y) = one_first law b m f e k x y
one_first law b m (Or f g) e k (inl x) (inr (inl y)) = absurd (not_made law b m f e y.0.0 x y.0.1)
one_first law b m (Or f g) e k (inl x) (inr (inr y)) = absurd (not_made law b m f e y.1.0 x y.1.1.1.0.0)
one_first law b m (Or f g) e k (inr (inl x)) (inl y) = absurd (not_made law b m f k x.0.0 y x.0.1)
one_first law b m (Or f g) e k (inr (inl x)) (inr (inl y)) = one_first law b m g e k x.1 y.1
one_first law b m (Or f g) e k (inr (inl x)) (inr (inr y)) = absurd (not_made law b m g e y.1.1.0 x.1 y.1.1.1.0.1)
one_first law b m (Or f g) e k (inr (inr x)) (inl y) = absurd (not_made law b m f k x.1.0 y x.1.1.1.0.0)
one_first law b m (Or f g) e k (inr (inr x)) (inr (inl y)) = absurd (not_made law b m g k x.1.1.0 y.1 x.1.1.1.0.1)
one_first law b m (Or f g) e k (inr (inr x)) (inr (inr y)) = x.0 ∙ sym y.0
one_first law b m (Exists s f) e k (inl x) (inl y) = one_first law b (m + 1) f e k x y
one_first law b m (Exists s f) e k (inl x) (inr y) = absurd (not_made law b (m + 1) f e y.1.0 x y.1.1.0)
one_first law b m (Exists s f) e k (inr x) (inl y) = absurd (not_made law b (m + 1) f k x.1.0 y x.1.1.0)
one_first law b m (Exists s f) e k (inr x) (inr y) =
    let n : ℕ = length (free_places f m) in
    let same : y.1.0 ≡ x.1.0 = one_made b (m + 1) f y.1.0 x.1.0 y.1.1.0 x.1.1.0 in
    one_forgetting law b.mode s b n x.1.0 e k refl (body_shape b m f x.1.0 x.0 x.1.1.0) x.1.1.1.0 (subst (λ v. IsForgettingRefused b.mode s b n v k) same y.1.1.1.0)

-- ---- all tracks
pub not_wide : StepsExclude → (b : Build) (m : ℕ) (f : Formula) (e : CompileError) (t : Table) → IsWideRefused b m f e → IsWide b m f t → ⊥
not_wide law b m f e t (inl h) (inl made) = not_made law b m f e t h made.1
not_wide law b m f e t (inl h) (inr made) = not_made law b m f e made.1.part h made.1.part_made
not_wide law b m f e t (inr h) (inl made) = absurd (omega (arith, h.0, made.0))
not_wide law b m f e t (inr h) (inr made) = by h.1
  where
    by : (((u : Table) × IsMade b m f u) × IsFirstRefused b m always e) ⊎ ((e ≡ Heavy) × HasHeavyPairs b m f always (all_tracks f m)) → ⊥
    by (inl x) = not_made law b m always e made.1.whole x.1 made.1.whole_made
    by (inr x) = no_pairs law.pairs Both b m f always (all_tracks f m) made.1.part made.1.whole t x.1 made.1.part_made made.1.whole_made made.1.joins

pub one_wide_cause : StepsExclude → (b : Build) (m : ℕ) (f : Formula) (e k : CompileError) → IsWideRefused b m f e → IsWideRefused b m f k → e ≡ k
one_wide_cause law b m f e k (inl x) (inl y) = one_first law b m f e k x y
one_wide_cause law b m f e k (inl x) (inr (lt, inl y)) = absurd (not_made law b m f e y.0.0 x y.0.1)
one_wide_cause law b m f e k (inl x) (inr (lt, inr y)) = absurd (not_made law b m f e y.1.0 x y.1.1.1.0.0)
one_wide_cause law b m f e k (inr (lt, inl x)) (inl y) = absurd (not_made law b m f k x.0.0 y x.0.1)
one_wide_cause law b m f e k (inr (lt, inr x)) (inl y) = absurd (not_made law b m f k x.1.0 y x.1.1.1.0.0)
one_wide_cause law b m f e k (inr (lt, inl x)) (inr (gt, inl y)) = one_first law b m always e k x.1 y.1
one_wide_cause law b m f e k (inr (lt, inl x)) (inr (gt, inr y)) = absurd (not_made law b m always e y.1.1.0 x.1 y.1.1.1.0.1)
one_wide_cause law b m f e k (inr (lt, inr x)) (inr (gt, inl y)) = absurd (not_made law b m always k x.1.1.0 y.1 x.1.1.1.0.1)
one_wide_cause law b m f e k (inr (lt, inr x)) (inr (gt, inr y)) = x.0 ∙ sym y.0
