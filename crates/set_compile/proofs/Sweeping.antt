-- The steps of the integer variables, one variable after another.
use Rattle.std.proofs.Common.{◌≡◌, ℕ, ◌+◌, ◌<◌, ◌≤◌, List, ◌∷◌, length, map, drop, get_or, arith, refl, sym, ap, ◌∙◌, subst}
use mathlib.Core.Logic.{inl, inr}
use Rattle.std.proofs.lemmas.List.{drop_more, drop_all, get_or-map, length-map}
use Rattle.lash_model.specs.Formulas.{Sort, Int, Real}
use Rattle.lash_model.specs.Tables.{Table}
use Rattle.set_compile.specs.Compiling.{AreWholeFrom, IsHeavyFrom}
use Rattle.set_compile.specs.Steps.{IsWholeAt, IsHeavyAt}
use Rattle.set_compile.specs.Kinds.{IsShaped}
use Rattle.formula_core.specs.Variables.{sort_of}
use Rattle.formula_core.specs.declared.sort.Sort.{Sort as DeclaredSort}
use Rattle.formula_core.specs.declared.sort.Sort.TheVariants as declared
use Rattle.set_compile.specs.declared.build.Build.{Build}

-- the steps of the variables before the place lead from the first table to the second, and what is left of them goes on from there
pub record IsSwept (b : Build) (place : ℕ) (sorts : List Sort) (first now : Table) : Type 0 where
  pub shape : IsShaped b.mode b.base (length sorts) now
  pub made : (t : Table) → AreWholeFrom b (length sorts) place (drop place sorts) now t → AreWholeFrom b (length sorts) 0 sorts first t
  pub heavy : IsHeavyFrom b (length sorts) place (drop place sorts) now → IsHeavyFrom b (length sorts) 0 sorts first

pub swept_none : (b : Build) (sorts : List Sort) (first : Table) → IsShaped b.mode b.base (length sorts) first → IsSwept b 0 sorts first first
swept_none b sorts first s = record { shape = s; made = λ t h. h; heavy = λ h. h }

front : (place : ℕ) (sorts : List Sort) (sort : Sort) → place < length sorts → get_or sorts place Int ≡ sort → drop place sorts ≡ sort ∷ drop (place + 1) sorts
front place sorts sort lt is = drop_more sorts place Int lt ∙ ap (λ s. s ∷ drop (place + 1) sorts) is

pub swept_int : (b : Build) (place : ℕ) (sorts : List Sort) (first u v : Table) → place < length sorts → get_or sorts place Int ≡ Int → IsSwept b place sorts first u
    → IsWholeAt b (length sorts) place u v → IsSwept b (place + 1) sorts first v
swept_int b place sorts first u v lt is h at = record {
  shape = at.shape;
  made = λ t more. h.made t (subst (λ ss. AreWholeFrom b (length sorts) place ss u t) (sym (front place sorts Int lt is)) (v, (at, more)));
  heavy = λ more. h.heavy (subst (λ ss. IsHeavyFrom b (length sorts) place ss u) (sym (front place sorts Int lt is)) (inr (v, (at, more))));
}

pub swept_real : (b : Build) (place : ℕ) (sorts : List Sort) (first u : Table) → place < length sorts → get_or sorts place Int ≡ Real → IsSwept b place sorts first u
    → IsSwept b (place + 1) sorts first u
swept_real b place sorts first u lt is h = record {
  shape = h.shape;
  made = λ t more. h.made t (subst (λ ss. AreWholeFrom b (length sorts) place ss u t) (sym (front place sorts Real lt is)) more);
  heavy = λ more. h.heavy (subst (λ ss. IsHeavyFrom b (length sorts) place ss u) (sym (front place sorts Real lt is)) more);
}

pub swept_heavy : (b : Build) (place : ℕ) (sorts : List Sort) (first u : Table) → place < length sorts → get_or sorts place Int ≡ Int → IsSwept b place sorts first u
    → IsHeavyAt b (length sorts) place u → IsHeavyFrom b (length sorts) 0 sorts first
swept_heavy b place sorts first u lt is h heavy = h.heavy (subst (λ ss. IsHeavyFrom b (length sorts) place ss u) (sym (front place sorts Int lt is)) (inl heavy))

pub swept_all : (b : Build) (place : ℕ) (sorts : List Sort) (first u : Table) → length sorts ≤ place → IsSwept b place sorts first u
    → AreWholeFrom b (length sorts) 0 sorts first u
swept_all b place sorts first u le h = h.made u (subst (λ ss. AreWholeFrom b (length sorts) place ss u u) (sym (drop_all place sorts le)) refl)

-- the steps of one variable more
pub swept_more : (b : Build) (place : ℕ) (sorts : List DeclaredSort) (first u v : Table) → place < length sorts → IsSwept b place (map sort_of sorts) first u
    → (get_or sorts place declared.Int ≡ declared.Int → IsWholeAt b u.tracks place u v) → (get_or sorts place declared.Int ≡ declared.Real → v ≡ u)
    → IsSwept b (place + 1) (map sort_of sorts) first v
swept_more b place sorts first u v lt h whole same = by (get_or sorts place declared.Int) refl
  where
    inside : place < length (map sort_of sorts)
    inside = omega (arith, lt, length-map sorts sort_of)

    entry : (s : DeclaredSort) → get_or sorts place declared.Int ≡ s → get_or (map sort_of sorts) place Int ≡ sort_of s
    entry s e = get_or-map sort_of sorts place declared.Int Int lt ∙ ap sort_of e

    by : (s : DeclaredSort) → get_or sorts place declared.Int ≡ s → IsSwept b (place + 1) (map sort_of sorts) first v
    by declared.Int e = swept_int b place (map sort_of sorts) first u v inside (entry declared.Int e) h (subst (λ n. IsWholeAt b n place u v) h.shape.tracks_are (whole e))
    by declared.Real e = subst (λ w. IsSwept b (place + 1) (map sort_of sorts) first w) (sym (same e)) (swept_real b place (map sort_of sorts) first u inside (entry declared.Real e) h)

-- a step of one variable more that is heavy
pub swept_too_heavy : (b : Build) (place : ℕ) (sorts : List DeclaredSort) (first u : Table) → place < length sorts → IsSwept b place (map sort_of sorts) first u
    → get_or sorts place declared.Int ≡ declared.Int → IsHeavyAt b u.tracks place u → IsHeavyFrom b (length sorts) 0 (map sort_of sorts) first
swept_too_heavy b place sorts first u lt h e heavy = subst (λ n. IsHeavyFrom b n 0 (map sort_of sorts) first) (length-map sorts sort_of)
    (swept_heavy b place (map sort_of sorts) first u (omega (arith, lt, length-map sorts sort_of)) (get_or-map sort_of sorts place declared.Int Int lt ∙ ap sort_of e) h
    (subst (λ n. IsHeavyAt b n place u) h.shape.tracks_are heavy))
