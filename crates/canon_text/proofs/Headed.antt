-- Headers of one variable.
use Rattle.std.proofs.Common.{◌≡◌, ℕ, List, [], ◌∷◌, length, arith, refl, ap, sym, ◌∙◌, subst}
use Rattle.std.specs.List.{All}
use Rattle.std.proofs.lemmas.List.Elements.{All-from_recursion, recursion_from_All}
use Rattle.lash_model.specs.Formulas.{Sort, Int, Real}
use Rattle.lash_model.specs.Tables.{Table}
use Rattle.canon_text.specs.Heading.{HeadsTable}

pub one_int : (base : ℕ) (vs : List (List ℕ × Sort)) (name : List ℕ) (t : Table) → vs ≡ (name, Int) ∷ [] → base ≡ t.base → t.tracks ≡ 1 → t.colours ≡ [] → HeadsTable base vs t
one_int base vs name t listed same tracks none =
    let P : List (List ℕ × Sort) → Type 0 = All (λ v. v.1 ≡ Int) in
    record {
      same_base = same;
      one_each = ap length listed ∙ sym tracks;
      whole = (λ _. subst P (sym listed) (All-from_recursion (λ v. v.1 ≡ Int) ((name, Int) ∷ []) (refl, tt)), λ _. none);
    }

pub one_real : (base : ℕ) (vs : List (List ℕ × Sort)) (name : List ℕ) (t : Table) → vs ≡ (name, Real) ∷ [] → base ≡ t.base → t.tracks ≡ 1 → length t.colours ≡ 3 → HeadsTable base vs t
one_real base vs name t listed same tracks three =
    let P : List (List ℕ × Sort) → Type 0 = All (λ v. v.1 ≡ Int) in
    record {
      same_base = same;
      one_each = ap length listed ∙ sym tracks;
      whole = (λ none. absurd (omega (arith, ap length none, three)), λ all. let wrong : Real ≡ Int = (recursion_from_All (λ v. v.1 ≡ Int) ((name, Real) ∷ []) (subst P listed all)).0 in absurd (cc));
    }
