-- From the free variables to all that are declared.
use Rattle.std.proofs.Common.{◌≡◌, ℕ, ◌^◌, ◌<◌, ◌≤◌, [], length, arith, sym, ap, ◌∙◌, subst}
use Rattle.std.proofs.Math.IntN.{pos}
use Rattle.std.proofs.Math.Nat.{pow-zero}
use mathlib.Core.Logic.{◌⊎◌, inl, inr}
use Rattle.lash_model.specs.Formulas.{Linear, Formula, AtMost, coefficient_sum}
use Rattle.lash_model.specs.Tables.{Table}
use Rattle.formula_core.specs.Counts.{uses, free_places}
use Rattle.product_ops.specs.Tracks.{TrackLists}
use Rattle.product_ops.specs.declared.operation.Op.TheVariants.{And as Both}
use Rattle.set_compile.specs.Conditions.{IsTermOver, IsNarrow}
use Rattle.set_compile.specs.Kinds.{IsShaped}
use Rattle.set_compile.specs.Steps.{IsOfPairs, IsMade, IsFirstRefused, HasHeavyPairs, always, all_tracks, IsWidened, IsWideRefused}
use Rattle.set_compile.specs.declared.build.Build.{Build}
use Rattle.set_compile.specs.declared.errors.CompileError.{CompileError}
use Rattle.set_compile.specs.declared.errors.CompileError.TheVariants.{Heavy}
use Rattle.set_compile.proofs.Spreading.{at_most_all}
use Rattle.set_compile.proofs.OwnTerms.{free_heads}
use Rattle.set_compile.proofs.Making.{shape_of}

abbrev nothing : Linear
nothing = record { terms = []; constant = pos 0 }

pub always_over : (m : ℕ) → IsTermOver m nothing
unfolding coefficient_sum
always_over m = record { places = λ i d lt. absurd (omega (arith, lt)); inside = record { coefficients = omega arith; constant = omega arith } }

pub always_free : (m : ℕ) → free_places always m ≡ []
always_free m = free_heads AtMost nothing m (record { rising = λ i j d lt within. absurd (omega (arith, within)); nonzero = λ i d lt. absurd (omega (arith, lt)) }) (always_over m).places

no_letters : (base : ℕ) → base ^ 0 ≤ 4096
no_letters base = omega (arith, pow-zero base)

pub always_narrow : (base m : ℕ) → IsNarrow base m always
always_narrow base m = subst (λ ps. base ^ length ps ≤ 4096) (sym (always_free m)) (no_letters base)

pub no_always_tracks : (b : Build) (m : ℕ) (t : Table) → IsMade b m always t → 0 ≡ t.tracks
no_always_tracks b m t made = sym ((shape_of b m always t made).tracks_are ∙ ap length (always_free m))

pub one_base : (b : Build) (m : ℕ) (f g : Formula) (t u : Table) → IsMade b m f t → IsMade b m g u → t.base ≡ u.base
one_base b m f g t u left right = (shape_of b m f t left).base_is ∙ sym (shape_of b m g u right).base_is

pub is_widened : (b : Build) (m : ℕ) (f : Formula) (u v t : Table) (tracks : TrackLists) → tracks ≡ all_tracks f m → IsMade b m f u → IsMade b m always v → IsShaped b.mode u.base tracks.tracks t → IsOfPairs Both u v tracks b.limit t → IsWidened b m f t
is_widened b m f u v t tracks e left right shape joins = record {
  shape = record { canonical = shape.canonical; kind = shape.kind; base_is = shape.base_is ∙ (shape_of b m f u left).base_is; tracks_are = shape.tracks_are ∙ ap (λ (k : TrackLists). k.tracks) e };
  part = u;
  part_made = left;
  whole = v;
  whole_made = right;
  joins = subst (λ (k : TrackLists). IsOfPairs Both u v k b.limit t) e joins;
}

pub fewer_free : (f : Formula) (m n : ℕ) → n ≡ length (free_places f m) → (n ≡ m → ⊥) → length (free_places f m) < m
fewer_free f m n e other = less (length (free_places f m)) (at_most_all (λ p. uses p f) 0 m) (λ same. other (e ∙ same))
  where
    less : (k : ℕ) → k ≤ m → (k ≡ m → ⊥) → k < m
    less k le not_same = grind arith

pub refused_later : (b : Build) (m : ℕ) (f : Formula) (u : Table) (e : CompileError) → length (free_places f m) < m → IsMade b m f u
    → IsFirstRefused b m always e ⊎ ((e ≡ Heavy) × HasHeavyPairs b m f always (all_tracks f m)) → IsWideRefused b m f e
refused_later b m f u e lt made (inl h) = inr (lt, inl ((u, made), h))
refused_later b m f u e lt made (inr h) = inr (lt, inr h)
