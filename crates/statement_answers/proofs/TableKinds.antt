-- The kind of a set's automaton: a diagram if all variables are integers, and a table with fraction states if one is real.
use Rattle.std.proofs.Common.{◌≡◌, ℕ, ◌<◌, List, [], ◌∷◌, inl, inr, refl, sym, ap}
use Rattle.std.specs.List.{All, AllByRecursion}
use Rattle.std.specs.Prelude.{◌⊎◌, ◌↔◌}
use Rattle.std.proofs.lemmas.Bool.{true≢false}
use Rattle.std.proofs.lemmas.List.Elements.{recursion_from_All, All-from_recursion}
use Rattle.lash_model.specs.Formulas.{Sort, Int, Real, Formula}
use Rattle.lash_model.specs.Meaning.{Solves}
use Rattle.lash_model.specs.Standing.{StandsForWhole, StandsForMixed, StandsFor}
use Rattle.lash_model.specs.Tables.{Table, fracs, IsDiagram}
use Rattle.part_laws.proofs.BothKinds.{one_kind}
use Rattle.formula_core.specs.Counts.{is_int}
use Rattle.formula_core.specs.Variables.{sorts_of}
use Rattle.product_ops.specs.Products.{HaveSameKind}

-- the first of two statements if all sorts are integers, and else the second
abbrev by_sorts : List Sort → Type 0 → Type 0 → Type 0
by_sorts [] whole mixed = whole
by_sorts (Int ∷ sorts) whole mixed = by_sorts sorts whole mixed
by_sorts (Real ∷ sorts) whole mixed = mixed

abbrev AreIntegers : List (List ℕ × Sort) → Type 0
AreIntegers vars = AllByRecursion (λ v. v.1 ≡ Int) vars

-- all variables are integers and the table is a diagram, or some are not and it has fraction states
abbrev IsOfKind : List (List ℕ × Sort) → Table → Type 0
IsOfKind vars t = (AreIntegers vars × IsDiagram t) ⊎ ((AreIntegers vars → ⊥) × (0 < fracs t))

kind_by : (vars : List (List ℕ × Sort)) (t : Table) (W M : Type 0) → (W → IsDiagram t) → (M → 0 < fracs t) → by_sorts (sorts_of vars) W M → IsOfKind vars t
kind_by [] t W M whole mixed h = inl (tt, whole h)
kind_by ((name, Int) ∷ vars) t W M whole mixed h =
    elim (kind_by vars t W M whole mixed h) [ inl k ↦ inl ((refl, k.0), k.1) | inr k ↦ inr ((λ all. k.0 all.1), k.1) ]
kind_by ((name, Real) ∷ vars) t W M whole mixed h = inr ((λ all. true≢false (sym (ap is_int all.0))), mixed h)

kind : (vars : List (List ℕ × Sort)) (f : Formula) (t : Table) → StandsFor t (sorts_of vars) f → IsOfKind vars t
kind vars f t s =
    kind_by vars t (StandsForWhole t (Solves (sorts_of vars) f)) (StandsForMixed t (Solves (sorts_of vars) f)) (λ w. w.diagram) (λ m. m.fractions) s

-- it is a diagram exactly if all variables are integers
pub diagram_if_whole : (vars : List (List ℕ × Sort)) (f : Formula) (t : Table) → StandsFor t (sorts_of vars) f → IsDiagram t ↔ All (λ v. v.1 ≡ Int) vars
diagram_if_whole vars f t s = by (kind vars f t s)
  where
    by : IsOfKind vars t → IsDiagram t ↔ All (λ v. v.1 ≡ Int) vars
    by (inl k) = ((λ _. All-from_recursion (λ v. v.1 ≡ Int) vars k.0), (λ _. k.1))
    by (inr k) = ((λ d. absurd (one_kind t d k.1)), (λ all. absurd (k.0 (recursion_from_All (λ v. v.1 ≡ Int) vars all))))

-- automata of sets over one list of sorts are of one kind
pub kinds_alike : (vars : List (List ℕ × Sort)) (f g : Formula) (t u : Table) → StandsFor t (sorts_of vars) f → StandsFor u (sorts_of vars) g → HaveSameKind t u
kinds_alike vars f g t u s r = by (kind vars f t s) (kind vars g u r)
  where
    by : IsOfKind vars t → IsOfKind vars u → HaveSameKind t u
    by (inl k) (inl l) = inl (k.1, l.1)
    by (inl k) (inr l) = absurd (l.0 k.0)
    by (inr k) (inl l) = absurd (k.0 l.0)
    by (inr k) (inr l) = inr (k.1, l.1)
