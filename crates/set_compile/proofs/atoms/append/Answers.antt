use Rattle.std.proofs.Common.{rules, ◌≡◌, ◌≤◌, ◌^◌, ℕ, List, ap, sym, ◌∙◌, subst, arith, unsigned_abs}
use Rattle.std.proofs.Math.IntN.{ℤ, pos, ◌+ℤ◌}
use mir.Val.{SFits}
use mir.Syntax.{w128}
use Rattle.std.proofs.lemmas.Int.{ints, to_z-of_z}
use Rattle.std.proofs.lemmas.List.Elements.{recursion_from_All}
use Rattle.lash_model.specs.Formulas.{Linear}
use Rattle.formula_core.specs.Terms.{added}
use Rattle.set_compile.proofs.OwnTerms.{coefficient_behind, added_behind}
use Rattle.set_compile.proofs.atoms.append.Goals as goal

pub add-requires : goal.add-requires
add-requires c =
    let z : ℤ = c.args.coefficient.now in
    let fits : SFits w128 z = search rules in
    let alone : pos 0 +ℤ z ≡ z = omega (arith, ints) in
    let small : unsigned_abs (pos 0 +ℤ z) ≤ 2 ^ 113 = subst (λ x. unsigned_abs x ≤ 2 ^ 113) (sym alone) (omega (arith, c.requires.small)) in
    rw (to_z-of_z w128 z fits) (subst (λ x. unsigned_abs (x +ℤ z) ≤ 2 ^ 113) (sym (coefficient_behind c.args.term.now.terms c.args.place (recursion_from_All _ _ c.requires.behind))) small)

pub returns-in-Ok : goal.returns-in-Ok
returns-in-Ok c =
    let z : ℤ = c.args.coefficient.now in
    let fits : SFits w128 z = search rules in
    c.in-Ok.ensures.terms
    ∙ ap (λ (x : ℤ). let a : Linear = record { terms = added c.args.term.now.terms c.args.place x; constant = c.args.term.now.constant } in a) (to_z-of_z w128 z fits)
    ∙ ap (λ (ts : List (ℕ × ℤ)). let a : Linear = record { terms = ts; constant = c.args.term.now.constant } in a) (added_behind c.args.term.now.terms c.args.place z (recursion_from_All _ _ c.requires.behind) c.requires.some)
