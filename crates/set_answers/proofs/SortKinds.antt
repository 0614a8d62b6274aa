-- Lists of sorts of two kinds: if all are integers, every table that stands for a set over them is a diagram of it; if one is real, every
-- one has fraction states.
use Rattle.std.proofs.Common.{◌≡◌, ℕ, zero, suc, ◌<◌, List, [], ◌∷◌, length, inl, inr, arith, refl, sym, ap, subst}
use Rattle.std.specs.Prelude.{◌⊎◌}
use Rattle.lash_model.specs.Formulas.{Sort, Int, Real, Formula}
use Rattle.lash_model.specs.Meaning.{Solves}
use Rattle.lash_model.specs.Tables.{Table, fracs, IsDiagram}
use Rattle.lash_model.specs.Standing.{StandsForWhole, StandsForMixed, StandsFor, all_int}

pub record AreWhole (sorts : List Sort) : Type 0 where
  pub sorts_are : sorts ≡ all_int (length sorts)
  pub stands : (t : Table) (f : Formula) → StandsFor t sorts f → StandsForWhole t (Solves sorts f)

pub record AreMixed (sorts : List Sort) : Type 0 where
  pub stands : (t : Table) (f : Formula) → StandsFor t sorts f → StandsForMixed t (Solves sorts f)

-- the first of two statements if all sorts are integers, and else the second
abbrev by_sorts : List Sort → Type 0 → Type 0 → Type 0
by_sorts [] whole mixed = whole
by_sorts (Int ∷ sorts) whole mixed = by_sorts sorts whole mixed
by_sorts (Real ∷ sorts) whole mixed = mixed

either : (sorts : List Sort) → (sorts ≡ all_int (length sorts)) ⊎ by_sorts sorts ⊥ (Unit {0})
either [] = inl refl
either (Int ∷ sorts) = elim (either sorts) [ inl e ↦ inl (ap (λ ss. Int ∷ ss) e) | inr some ↦ inr some ]
either (Real ∷ sorts) = inr tt

counted : (n : ℕ) (W M : Type 0) → by_sorts (all_int n) W M → W
counted zero W M h = h
counted (suc n) W M h = counted n W M h

first : (sorts : List Sort) (W M : Type 0) → sorts ≡ all_int (length sorts) → by_sorts sorts W M → W
first sorts W M e h = counted (length sorts) W M (subst (λ ss. by_sorts ss W M) e h)

second : (sorts : List Sort) (W M : Type 0) → by_sorts sorts ⊥ (Unit {0}) → by_sorts sorts W M → M
second [] W M some h = absurd some
second (Int ∷ sorts) W M some h = second sorts W M some h
second (Real ∷ sorts) W M some h = h

pub kind_of : (sorts : List Sort) → AreWhole sorts ⊎ AreMixed sorts
kind_of sorts = elim (either sorts) [
  | inl e ↦ inl (record { sorts_are = e; stands = λ t f. first sorts (StandsForWhole t (Solves sorts f)) (StandsForMixed t (Solves sorts f)) e })
  | inr some ↦ inr (record { stands = λ t f. second sorts (StandsForWhole t (Solves sorts f)) (StandsForMixed t (Solves sorts f)) some })
]

-- what is so of so many integers is so of the sorts
pub of_sorts : (P : List Sort → Type 0) (sorts : List Sort) → sorts ≡ all_int (length sorts) → P (all_int (length sorts)) → P sorts
of_sorts P sorts e p = subst P (sym e) p

pub length-all_int : (n : ℕ) → length (all_int n) ≡ n
length-all_int zero = refl
length-all_int (suc n) = ap suc (length-all_int n)

-- ---- tables of two kinds
no_colours : (colours : List ℕ) → (colours ≡ []) ⊎ (0 < length colours)
no_colours [] = inl refl
no_colours (c ∷ colours) = inr (omega arith)

pub kind_of_table : (t : Table) → IsDiagram t ⊎ (0 < fracs t)
kind_of_table t = no_colours t.colours
