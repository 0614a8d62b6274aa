-- A node's table from those of its parts, and its first heavy step from theirs.
use Rattle.std.proofs.Common.{ℕ, ◌≡◌, ◌+◌, ◌^◌, ◌<◌, ◌≤◌, length, true, false, arith, refl, sym, ap, ◌∙◌, subst, IsTrue}
use Rattle.std.proofs.lemmas.Bool.{or_left, or_right}
use Rattle.std.proofs.lemmas.Result.{IfOk-weaker}
use Rattle.std.specs.Prelude.{IfOk, IfErr}
use Rattle.std.specs.declared.result.Result.{Result}
use Rattle.std.specs.declared.result.Result.TheVariants.{Ok, Err}
use mathlib.Core.Logic.{inl, inr}
use Rattle.lash_model.specs.Formulas.{Sort, Linear, IsLinear, Formula, Comparison, Atom, Not, And, Or, Exists}
use Rattle.lash_model.specs.Meaning.{holds}
use Rattle.lash_model.specs.Tables.{Table}
use Rattle.lash_model.specs.Sets.{set_of}
use Rattle.step_tables.specs.Kept.{Kept}
use Rattle.formula_core.specs.Counts.{uses, free_places}
use Rattle.formula_core.specs.FewLetters.{HasFewLetters}
use Rattle.product_ops.specs.Products.{IsHeavyProduct}
use Rattle.product_ops.specs.declared.operation.Op.TheVariants.{And as Both, Or as Either}
use Rattle.subset_build.specs.Projection.{kept}
use Rattle.set_compile.specs.Conditions.{IsTermOver, IsOver, IsNarrow}
use Rattle.set_compile.specs.Kinds.{Stands, AcceptOthers, IsHeavyFor, IsShaped}
use Rattle.set_compile.specs.Positions.{shared, spread}
use Rattle.set_compile.specs.Steps.{own, IsOfAtom, IsOfPairs, IsForgotten, IsForgettingRefused, IsMade, IsFirstRefused}
use Rattle.set_compile.specs.declared.build.Build.{Build}
use Rattle.set_compile.specs.declared.errors.CompileError.{CompileError}
use Rattle.set_compile.specs.declared.errors.CompileError.TheVariants.{Heavy, Memory}
use Rattle.set_compile.proofs.OwnTerms.{free_count, own_stands}
use Rattle.set_compile.proofs.Bodies.{used_count, tells_used, tells_unused}
use Rattle.set_compile.proofs.Forgetting.{forgetting_shows}
use Rattle.set_compile.proofs.Making.{one_more, shape_of}

-- ---- results
pub both_ok : {T E : Type 0} (r : Result T E) (P Q R : T → Type 0) → ((x : T) → P x → Q x → R x) → IfOk r P → IfOk r Q → IfOk r R
both_ok (Ok x) P Q R h p q = h x p q
both_ok (Err e) P Q R h p q = q

pub err_weaker : {T E : Type 0} (r : Result T E) (P Q : E → Type 0) → ((e : E) → P e → Q e) → IfErr r P → IfErr r Q
err_weaker (Ok x) P Q h p = p
err_weaker (Err e) P Q h p = h e p

pub both_err : {T E : Type 0} (r : Result T E) (P Q R : E → Type 0) → ((e : E) → P e → Q e → R e) → IfErr r P → IfErr r Q → IfErr r R
both_err (Ok x) P Q R h p q = q
both_err (Err e) P Q R h p q = h e p q

-- ---- letters
pub is_narrow : (base m : ℕ) (f : Formula) → HasFewLetters base f m → IsNarrow base m f
unfolding HasFewLetters
is_narrow base m (Atom kind a) few = few
is_narrow base m (Not f) few = is_narrow base m f few.1
is_narrow base m (And f g) few = (few.0, (is_narrow base m f few.1, is_narrow base m g few.2))
is_narrow base m (Or f g) few = (few.0, (is_narrow base m f few.1, is_narrow base m g few.2))
is_narrow base m (Exists s f) few = is_narrow base (m + 1) f few.1

-- ---- atoms
pub atom_letters : (kind : Comparison) (base m : ℕ) (a : Linear) → IsNarrow base m (Atom kind a) → IsTermOver m a → IsLinear a → base ^ length a.terms ≤ 4096
atom_letters kind base m a few over h = subst (λ n. base ^ n ≤ 4096) (free_count kind a m h over.places) few

-- the clauses of a node that is an atom, from those of the atom's own table
pub atom_shape : {E : Type 0} (b : Build) (kind : Comparison) (m : ℕ) (a : Linear) (f : Formula) → f ≡ Atom kind a → IsLinear a → IsOver m f → (r : Result Kept E) → IfOk r (λ k. IsShaped b.mode b.base (length a.terms) k.table) → IfOk r (λ k. IsShaped b.mode b.base (length (free_places f m)) k.table)
atom_shape b kind m a f is h over r shape =
    subst (λ n. IfOk r (λ k. IsShaped b.mode b.base n k.table)) (sym (free_count kind a m h (subst (IsOver m) is over).places) ∙ ap (λ f. length (free_places f m)) (sym is)) shape

pub atom_made : {E : Type 0} (b : Build) (kind : Comparison) (m : ℕ) (a : Linear) (f : Formula) → f ≡ Atom kind a → IsLinear a → IsOver m f → (r : Result Kept E) → IfOk r (λ k. IsShaped b.mode b.base (length a.terms) k.table) → IfOk r (λ k. IsOfAtom b kind (own a) (length a.terms) k.table) → IfOk r (λ k. IsMade b m f k.table)
atom_made b kind m a f is h over r shape made =
    subst (λ f. IfOk r (λ k. IsMade b m f k.table)) (sym is)
    (subst (λ n. IfOk r (λ k. IsShaped b.mode b.base n k.table × IsOfAtom b kind (own a) n k.table)) (sym (free_count kind a m h (subst (IsOver m) is over).places)) (both_ok r _ _ _ (λ k s o. (s, o)) shape made))

pub atom_stands : {E : Type 0} (kind : Comparison) (m : ℕ) (a : Linear) (f : Formula) → f ≡ Atom kind a → IsLinear a → IsOver m f → (r : Result Kept E) → IfOk r (λ k. Stands k.table (holds (Atom kind (own a)))) → IfOk r (λ k. Stands k.table (set_of f (spread m (free_places f m))))
atom_stands kind m a f is h over r stands =
    subst (λ f. IfOk r (λ k. Stands k.table (set_of f (spread m (free_places f m))))) (sym is)
    (IfOk-weaker r _ _ (λ k s. own_stands kind k.table a m h (subst (IsOver m) is over) s) stands)

pub atom_refused : {T : Type 0} (b : Build) (kind : Comparison) (m : ℕ) (a : Linear) (f : Formula) → f ≡ Atom kind a → IsLinear a → IsOver m f → (r : Result T CompileError)
    → IfErr r (λ e. e ≡ Heavy → IsHeavyFor b.mode kind (own a) b.base (length a.terms) b.limit) → IfErr r (λ e. (e ≡ Memory → ⊥) → e ≡ Heavy)
    → IfErr r (λ e. (e ≡ Memory → ⊥) → IsFirstRefused b m f e)
atom_refused b kind m a f is h over r heavy plain =
    subst (λ f. IfErr r (λ e. (e ≡ Memory → ⊥) → IsFirstRefused b m f e)) (sym is)
    (both_err r _ _ _ (λ e x y no. (y no, x (y no)))
    (subst (λ n. IfErr r (λ e. e ≡ Heavy → IsHeavyFor b.mode kind (own a) b.base n b.limit)) (sym (free_count kind a m h (subst (IsOver m) is over).places)) heavy) plain)

-- ---- negations
pub not_made : (b : Build) (m : ℕ) (f : Formula) (u t : Table) → IsMade b m f u → IsShaped b.mode u.base u.tracks t → AcceptOthers u t → IsMade b m (Not f) t
not_made b m f u t made shape others =
    let s = shape_of b m f u made in
    (record { canonical = shape.canonical; kind = shape.kind; base_is = shape.base_is ∙ s.base_is; tracks_are = shape.tracks_are ∙ s.tracks_are }, (u, (made, others)))

-- ---- conjunctions and disjunctions
pub left_used : (f g : Formula) (p : ℕ) → IsTrue (uses p f) → IsTrue (uses p (And f g))
left_used f g p used = or_left (uses p f) (uses p g) used

pub right_used : (f g : Formula) (p : ℕ) → IsTrue (uses p g) → IsTrue (uses p (And f g))
right_used f g p used = or_right (uses p f) (uses p g) used

pub and_made : (b : Build) (m : ℕ) (f g : Formula) (u v t : Table) → IsMade b m f u → IsMade b m g v → IsShaped b.mode u.base (length (free_places (And f g) m)) t → IsOfPairs Both u v (shared (And f g) f g m) b.limit t → IsMade b m (And f g) t
and_made b m f g u v t left right shape joins = (record { canonical = shape.canonical; kind = shape.kind; base_is = shape.base_is ∙ (shape_of b m f u left).base_is; tracks_are = shape.tracks_are }, (u, (v, ((left, right), joins))))

pub or_made : (b : Build) (m : ℕ) (f g : Formula) (u v t : Table) → IsMade b m f u → IsMade b m g v → IsShaped b.mode u.base (length (free_places (Or f g) m)) t → IsOfPairs Either u v (shared (Or f g) f g m) b.limit t → IsMade b m (Or f g) t
or_made b m f g u v t left right shape joins = (record { canonical = shape.canonical; kind = shape.kind; base_is = shape.base_is ∙ (shape_of b m f u left).base_is; tracks_are = shape.tracks_are }, (u, (v, ((left, right), joins))))

pub and_pairs_refused : (b : Build) (m : ℕ) (f g : Formula) (u v : Table) (e : CompileError) → IsMade b m f u → IsMade b m g v → e ≡ Heavy
    → IsHeavyProduct u v (shared (And f g) f g m) b.limit → IsFirstRefused b m (And f g) e
and_pairs_refused b m f g u v e left right is h = inr (inr (is, (u, (v, ((left, right), h)))))

pub or_pairs_refused : (b : Build) (m : ℕ) (f g : Formula) (u v : Table) (e : CompileError) → IsMade b m f u → IsMade b m g v → e ≡ Heavy
    → IsHeavyProduct u v (shared (Or f g) f g m) b.limit → IsFirstRefused b m (Or f g) e
or_pairs_refused b m f g u v e left right is h = inr (inr (is, (u, (v, ((left, right), h)))))

-- ---- bound variables
-- whether the body's table has as many tracks as the whole has free places tells whether the body uses the bound variable
pub bound_used : (b : Build) (m : ℕ) (f : Formula) (u : Table) → IsMade b (m + 1) f u → (u.tracks ≡ length (free_places f m) → ⊥) → uses m f ≡ true
bound_used b m f u made other = tells_used f m (λ e. other ((shape_of b (m + 1) f u made).tracks_are ∙ e))

pub bound_unused : (b : Build) (m : ℕ) (f : Formula) (u : Table) → IsMade b (m + 1) f u → u.tracks ≡ length (free_places f m) → uses m f ≡ false
bound_unused b m f u made same = tells_unused f m (sym (shape_of b (m + 1) f u made).tracks_are ∙ same)

pub last_track : (b : Build) (m : ℕ) (f : Formula) (u : Table) → IsMade b (m + 1) f u → uses m f ≡ true → kept u ≡ length (free_places f m)
last_track b m f u made used = one_more b.mode b.base f m u used (shape_of b (m + 1) f u made)

pub track_in : (b : Build) (m : ℕ) (f : Formula) (u : Table) (track : ℕ) → IsMade b (m + 1) f u → uses m f ≡ true → track ≡ length (free_places f m) → track < u.tracks
track_in b m f u track made used e = omega (arith, e, (shape_of b (m + 1) f u made).tracks_are, used_count f m used)

pub unbound_made : (b : Build) (s : Sort) (m : ℕ) (f : Formula) (u : Table) → IsMade b (m + 1) f u → uses m f ≡ false → IsMade b m (Exists s f) u
unbound_made b s m f u made unused = inr (unused, made)

pub body_shape : (b : Build) (m : ℕ) (f : Formula) (u : Table) → IsMade b (m + 1) f u → uses m f ≡ true → IsShaped b.mode b.base (length (free_places f m) + 1) u
body_shape b m f u made used = subst (λ k. IsShaped b.mode b.base k u) (used_count f m used) (shape_of b (m + 1) f u made)

pub bound_made : (b : Build) (s : Sort) (m : ℕ) (f : Formula) (u t : Table) → IsMade b (m + 1) f u → uses m f ≡ true → IsShaped b.mode b.base (length (free_places f m)) t
    → IsForgotten b.mode s b (length (free_places f m)) u t → IsMade b m (Exists s f) t
bound_made b s m f u t made used shape steps = inl (used, (shape, (u, (made, steps))))

pub bound_refused : (b : Build) (s : Sort) (m : ℕ) (f : Formula) (u : Table) (e : CompileError) → IsMade b (m + 1) f u → uses m f ≡ true
    → Stands u (set_of f (spread (m + 1) (free_places f (m + 1)))) → IsForgettingRefused b.mode s b (length (free_places f m)) u e → IsFirstRefused b m (Exists s f) e
bound_refused b s m f u e made used stands h = inr (used, (u, (made, (h, forgetting_shows b.mode s b m f u e refl used (body_shape b m f u made used) h stands))))
