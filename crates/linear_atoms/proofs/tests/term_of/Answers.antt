use Rattle.std.proofs.Common.{rules, ◌≡◌, ◌+◌, ◌^◌, ◌≤◌, ℕ, List, [], ◌∷◌, arith, refl, subst, sym, ap, ◌∙◌, unsigned_abs}
use Rattle.std.proofs.Math.IntN.{ℤ, pos, ◌+ℤ◌}
use mir.Syntax.{w128}
use mir.Val.{to_z, of_z}
use Rattle.formula_core.specs.Terms.{coefficient_at, added}
use Rattle.lash_model.specs.Formulas.{Linear}
use Rattle.linear_atoms.proofs.tests.term_of.Goals as goal

first_coefficient : unsigned_abs (coefficient_at [] 0 +ℤ pos 1) ≤ 2 ^ 113
unfolding coefficient_at
first_coefficient = omega arith

one_term : added [] 0 (pos 1) ≡ (0, pos 1) ∷ []
unfolding added
one_term = refl

pub add-requires : goal.add-requires
add-requires c = subst (λ (a : Linear). unsigned_abs (coefficient_at a.terms 0 +ℤ pos 1) ≤ 2 ^ 113) (sym c.new-term.ensures) first_coefficient

pub returns-in-Ok : goal.returns-in-Ok
returns-in-Ok c =
    let constant : to_z w128 (of_z w128 c.from.result) ≡ pos c.args.constant = search rules in
    c.in-Ok.ensures.terms ∙ ap (λ (a : Linear). let b : Linear = record { terms = added a.terms 0 (pos 1); constant = a.constant } in b) c.new-term.ensures
    ∙ ap (λ (ts : List (ℕ × ℤ)). let b : Linear = record { terms = ts; constant = to_z w128 (of_z w128 c.from.result) } in b) one_term
    ∙ ap (λ (z : ℤ). let b : Linear = record { terms = (0, pos 1) ∷ []; constant = z } in b) constant
