-- The text of the variable at a place.
use Rattle.std.proofs.Common.{◌≡◌, ℕ, ◌+◌, ◌<◌, List, [], ◌++◌, map, length, get_or, take, drop, codes, arith, ap, sym, ◌∙◌}
use Rattle.std.proofs.lemmas.List.{length-map, get_or-map}
use Rattle.lash_model.specs.Formulas.{Sort}
use Rattle.automaton_texts.specs.Text.{sort_text, variables_text}
use Rattle.automaton_texts.proofs.Texts.{Fronted, variables_more, variables_parted}
use Rattle.formula_core.specs.Variables.{sort_of, names_of, sorts_of}
use Rattle.formula_core.specs.declared.sort.Sort.{Sort as DeclaredSort}
use Rattle.formula_core.specs.declared.sort.Sort.TheVariants.{Int}

sort_listed : (vs : List (List ℕ × Sort)) (ss : List DeclaredSort) (i : ℕ) → i < length vs → map sort_of ss ≡ sorts_of vs
    → sort_of (get_or ss i Int) ≡ get_or (sorts_of vs) i (sort_of (get_or ss i Int))
sort_listed vs ss i h listed =
    let inside : i < length ss = omega (arith, length-map ss sort_of, length-map vs (λ v. v.1), ap length listed) in
    sym (get_or-map sort_of ss i Int (sort_of (get_or ss i Int)) inside) ∙ ap (λ xs. get_or xs i (sort_of (get_or ss i Int))) listed

-- one variable more
pub variable_more : (vs : List (List ℕ × Sort)) (ss : List DeclaredSort) (name : List ℕ) (i : ℕ) → i < length vs → name ≡ get_or (names_of vs) i []
    → map sort_of ss ≡ sorts_of vs → variables_text (take (i + 1) vs) ≡ variables_text (take i vs) ++ (codes " " ++ (name ++ sort_text (sort_of (get_or ss i Int))))
variable_more vs ss name i h named listed = variables_more vs i name (sort_of (get_or ss i Int)) h named (sort_listed vs ss i h listed)

-- the variable is on the way
pub variable_on_way : (vs : List (List ℕ × Sort)) (ss : List DeclaredSort) (name : List ℕ) (i : ℕ) → i < length vs → name ≡ get_or (names_of vs) i []
    → map sort_of ss ≡ sorts_of vs → Fronted (variables_text vs) (variables_text (take i vs) ++ (codes " " ++ (name ++ sort_text (sort_of (get_or ss i Int)))))
variable_on_way vs ss name i h named listed = record {
  more = variables_text (drop (i + 1) vs);
  is = variables_parted vs (i + 1) ∙ ap (λ xs. xs ++ variables_text (drop (i + 1) vs)) (variable_more vs ss name i h named listed);
}
