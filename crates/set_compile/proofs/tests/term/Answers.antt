use Rattle.std.proofs.Common.{rules, ◌≡◌, [], ◌∷◌, ◌++◌, sym, ap, ◌∙◌, subst}
use Rattle.std.proofs.Math.IntN.{ℤ}
use mir.Val.{SFits}
use mir.Syntax.{w128}
use Rattle.std.proofs.lemmas.Int.{to_z-of_z}
use Rattle.lash_model.specs.Formulas.{Linear}
use Rattle.set_compile.specs.Conditions.{IsTermOver}
use Rattle.set_compile.proofs.SmallTerms.{alone, one_over}
use Rattle.set_compile.proofs.tests.term.Goals as goal

pub returns-in-Ok-clause-is : goal.returns-in-Ok-clause-is
returns-in-Ok-clause-is c =
    let x : ℤ = c.args.coefficient.now in
    let k : ℤ = c.args.constant.now in
    let fits : SFits w128 k = search rules in
    c.in-Ok.ensures
    ∙ ap (λ (a : Linear). let b : Linear = record { terms = a.terms ++ (c.args.place, x) ∷ []; constant = a.constant } in b)
    (c.new-term.ensures ∙ ap (λ (z : ℤ). let b : Linear = record { terms = []; constant = z } in b) (to_z-of_z w128 k fits))

pub returns-in-Ok-clause-over : goal.returns-in-Ok-clause-over
returns-in-Ok-clause-over c = λ m lt.
    let x : ℤ = c.args.coefficient.now in
    let k : ℤ = c.args.constant.now in
    let fits : SFits w128 k = search rules in
    let term : c.append.new.term ≡ alone c.args.place x k =
    c.in-Ok.ensures
    ∙ ap (λ (a : Linear). let b : Linear = record { terms = a.terms ++ (c.args.place, x) ∷ []; constant = a.constant } in b)
    (c.new-term.ensures ∙ ap (λ (z : ℤ). let b : Linear = record { terms = []; constant = z } in b) (to_z-of_z w128 k fits)) in
    subst (IsTermOver m) (sym term) (one_over c.args.place x k c.requires.small c.requires.low m lt)
