-- The copied names hold the same bytes, and the sorts are the same.
use Rattle.std.proofs.Common.{ℕ, List, map, length, ap, ap₂, sym, ◌∙◌, subst}
use Rattle.std.specs.List.{zip}
use Rattle.std.proofs.lemmas.List.{length-map}
use Rattle.formula_core.specs.Variables.{sort_of, AreVariables}
use Rattle.formula_core.proofs.Listing.{same_items}
use Rattle.formula_core.proofs.vars.Vars.copy.Goals as goal

pub invariant_of-result : goal.invariant_of-result
invariant_of-result c =
    let names = same_items c.deref.result.now c.in-Ok.names.items (λ x y e. e) c.in-Ok.ensures.items ∙ ap (map (λ n. n.items)) c.deref.ensures.value in
    let P : List (List ℕ) → Type 0 = AreVariables in
    record {
      same_length = ap length (c.in-Ok-from_slice.ensures.items ∙ c.deref-2.ensures.value) ∙ c.self.invariant.same_length ∙ sym (length-map c.self.inside.names.items (λ n. n.items)) ∙ ap length (sym names) ∙ length-map c.in-Ok.names.items (λ n. n.items);
      variables = subst P (sym names) c.self.invariant.variables;
    }

pub returns-in-Ok-from_slice : goal.returns-in-Ok-from_slice
returns-in-Ok-from_slice c = ap₂ zip (same_items c.deref.result.now c.in-Ok.names.items (λ x y e. e) c.in-Ok.ensures.items ∙ ap (map (λ n. n.items)) c.deref.ensures.value) (ap (map sort_of) (c.in-Ok-from_slice.ensures.items ∙ c.deref-2.ensures.value)) ∙ c.self.view_is
