-- The names are the first parts of the pairs.
use Rattle.std.proofs.Common.{ℕ, List, [], get_or, arith, ap, sym, ◌∙◌, subst}
use Rattle.std.proofs.lemmas.List.{get_or-map}
use Rattle.formula_core.specs.Variables.{AreVariables}
use Rattle.formula_core.proofs.Listing.{names_seen, length_seen}
use Rattle.formula_core.proofs.vars.Vars.name.Goals as goal

pub index-requires : goal.index-requires
index-requires c = omega (arith, length_seen c.self.inside.names.items c.self.inside.sorts.items c.args.self.now c.self.view_is c.self.invariant.same_length, c.requires)

pub returns-clause-name : goal.returns-clause-name
returns-clause-name c =
    let seen = names_seen c.self.inside.names.items c.self.inside.sorts.items c.args.self.now c.self.view_is c.self.invariant.same_length in
    c.as_slice.ensures.value ∙ ap (λ n. n.items) c.index.ensures ∙ sym (get_or-map (λ n. n.items) c.self.inside.names.items c.args.at c.index.result.now [] (omega (arith, length_seen c.self.inside.names.items c.self.inside.sorts.items c.args.self.now c.self.view_is c.self.invariant.same_length, c.requires))) ∙ ap (λ ns. get_or ns c.args.at []) (sym seen)

pub returns-clause-variables : goal.returns-clause-variables
returns-clause-variables c = let P : List (List ℕ) → Type 0 = AreVariables in subst P (sym (names_seen c.self.inside.names.items c.self.inside.sorts.items c.args.self.now c.self.view_is c.self.invariant.same_length)) c.self.invariant.variables
