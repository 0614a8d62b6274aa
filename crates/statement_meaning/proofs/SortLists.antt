-- Lists of sorts that are compared one by one.
use Rattle.std.proofs.Common.{◌≡◌, ℕ, List, [], ◌∷◌, length, map, arith, refl, Bool, true, false, sym, ◌∙◌, ap}
use Rattle.std.specs.Prelude.{◌&&◌}
use Rattle.lash_model.specs.Formulas.{Sort, Int, Real}
use Rattle.std.proofs.lemmas.List.{length-map}
use Rattle.formula_core.specs.Variables.{sort_of}
use Rattle.formula_core.specs.declared.sort.Sort.{Sort as DeclaredSort}
use Rattle.statement_meaning.specs.Judging.{same_sort, same_sorts}

and_false : (b : Bool) → (b && false) ≡ false
and_false true = refl
and_false false = refl

others : (ss ts : List Sort) → (length ss ≡ length ts → ⊥) → same_sorts ss ts ≡ false
others [] [] h = absurd (h refl)
others [] (t ∷ ts) h = refl
others (s ∷ ss) [] h = refl
others (s ∷ ss) (t ∷ ts) h = ap (λ b. same_sort s t && b) (others ss ts (λ e. h (omega (arith, e)))) ∙ and_false (same_sort s t)

-- lists of different lengths differ
pub lengths_differ : (left right : List DeclaredSort) → (length left ≡ length right → ⊥) → false ≡ same_sorts (map sort_of left) (map sort_of right)
lengths_differ left right h = sym (others (map sort_of left) (map sort_of right) (λ e. h (omega (arith, e, length-map left sort_of, length-map right sort_of))))
