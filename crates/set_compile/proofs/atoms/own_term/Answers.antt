use Rattle.std.proofs.Common.{◌<◌, ℕ, List, [], ◌∷◌, ◌++◌, take, get_or, sym, ap, ◌∙◌, subst, arith}
use Rattle.std.proofs.Math.IntN.{ℤ, pos}
use Rattle.std.specs.Prelude.{All}
use Rattle.std.proofs.lemmas.List.Elements.{All-from_recursion}
use Rattle.lash_model.specs.Formulas.{Linear, coefficient_sum}
use Rattle.set_compile.specs.Steps.{numbered}
use Rattle.set_compile.proofs.OwnTerms.{front_below, front_more, one_inside}
use Rattle.set_compile.proofs.atoms.own_term.Goals as goal

pub append-requires-clause-behind : goal.append-requires-clause-behind
append-requires-clause-behind c =
    let i : ℕ = c.loop-at.at in
    subst (λ (a : Linear). All (λ (t : ℕ × ℤ). t.0 < i) a.terms) (sym c.loop-at.invariant) (All-from_recursion (λ (t : ℕ × ℤ). t.0 < i) (numbered 0 (take i c.terms-terms.result.now)) (front_below c.terms-terms.result.now i c.loop-at.auto.at-end))

pub append-requires-clause-small : goal.append-requires-clause-small
append-requires-clause-small c = omega (arith, one_inside c.terms-terms.result.now c.loop-at.at (0, pos 0) c.loop-at-test.true, ap coefficient_sum c.terms-terms.ensures.terms, c.requires.inside.coefficients)

pub loop-at-preserved : goal.loop-at-preserved
loop-at-preserved c =
    let i : ℕ = c.loop-at.at in
    let ts : List (ℕ × ℤ) = c.terms-terms.result.now in
    let x : ℤ = (get_or ts i (0, pos 0)).1 in
    c.in-Ok.ensures
    ∙ ap (λ (a : Linear). let b : Linear = record { terms = a.terms ++ (i, x) ∷ []; constant = a.constant } in b) c.loop-at.invariant
    ∙ ap (λ (us : List (ℕ × ℤ)). let b : Linear = record { terms = us; constant = c.args.term.now.constant } in b) (front_more ts i (0, pos 0) c.loop-at-test.true)
