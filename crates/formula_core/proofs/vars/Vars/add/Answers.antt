-- Both lists have one more at their end.
use Rattle.std.proofs.Common.{◌≡◌, ℕ, List, [], ◌∷◌, ◌++◌, map, length, not, arith, ap, ap₂, sym, ◌∙◌, subst}
use Rattle.std.specs.List.{zip, All}
use Rattle.std.proofs.lemmas.List.{length-map, map-append, length-append}
use Rattle.formula_core.specs.Variables.{sort_of, AreVariables}
use Rattle.formula_core.proofs.Listing.{pushed, zip_push, variables_push, names_seen}
use Rattle.formula_core.proofs.vars.Vars.add.Goals as goal

pub invariant_of-self-else-is_err-2 : goal.invariant_of-self-else-is_err-2
invariant_of-self-else-is_err-2 c =
    let names = pushed _ c.push.new.self.items (c.self.inside.names.items ++ c.in-Ok.copy ∷ []) c.self.inside.names.items (c.is_err.ensures.negation ∙ ap not c.if-is_err.false) c.push.ensures.items in
    let sorts = pushed _ c.push-2.new.self.items (c.self.inside.sorts.items ++ c.args.sort ∷ []) c.self.inside.sorts.items (c.is_err-2.ensures.negation ∙ ap not c.if-is_err-2.false) c.push-2.ensures.items in
    let seen = ap (map (λ n. n.items)) names ∙ map-append (λ n. n.items) c.self.inside.names.items (c.in-Ok.copy ∷ []) ∙ ap (λ name. map (λ n. n.items) c.self.inside.names.items ++ name ∷ []) c.in-Ok.ensures.items in
    let P : List (List ℕ) → Type 0 = AreVariables in
    record {
      same_length = omega (arith, ap length names, ap length sorts, length-append c.self.inside.names.items (c.in-Ok.copy ∷ []), length-append c.self.inside.sorts.items (c.args.sort ∷ []), c.self.invariant.same_length);
      variables = subst P (sym seen) (variables_push (map (λ n. n.items) c.self.inside.names.items) c.args.name.now c.self.invariant.variables c.requires.named (let Q : List (List ℕ) → Type 0 = All (λ old. old ≡ c.args.name.now → ⊥) in subst Q (names_seen c.self.inside.names.items c.self.inside.sorts.items c.args.self.now c.self.view_is c.self.invariant.same_length) c.requires.fresh));
    }

pub returns-clause-appended : goal.returns-clause-appended
returns-clause-appended c =
    let names = pushed _ c.push.new.self.items (c.self.inside.names.items ++ c.in-Ok.copy ∷ []) c.self.inside.names.items (c.is_err.ensures.negation ∙ ap not c.if-is_err.false) c.push.ensures.items in
    let sorts = pushed _ c.push-2.new.self.items (c.self.inside.sorts.items ++ c.args.sort ∷ []) c.self.inside.sorts.items (c.is_err-2.ensures.negation ∙ ap not c.if-is_err-2.false) c.push-2.ensures.items in
    let seen = ap (map (λ n. n.items)) names ∙ map-append (λ n. n.items) c.self.inside.names.items (c.in-Ok.copy ∷ []) ∙ ap (λ name. map (λ n. n.items) c.self.inside.names.items ++ name ∷ []) c.in-Ok.ensures.items in
    let sorted = ap (map sort_of) sorts ∙ map-append sort_of c.self.inside.sorts.items (c.args.sort ∷ []) in
    ap₂ zip seen sorted ∙ zip_push (map (λ n. n.items) c.self.inside.names.items) (map sort_of c.self.inside.sorts.items) c.args.name.now (sort_of c.args.sort) (length-map c.self.inside.sorts.items sort_of ∙ c.self.invariant.same_length ∙ sym (length-map c.self.inside.names.items (λ n. n.items))) ∙ ap (λ vs. vs ++ (c.args.name.now, sort_of c.args.sort) ∷ []) c.self.view_is
