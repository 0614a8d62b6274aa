use Rattle.std.proofs.Common.{◌≡◌, sym, ◌∙◌, subst, None}
use Rattle.formula_core.specs.Shape.{formula_of}
use Rattle.term_substitution.specs.Conditions.{IsOver}
use Rattle.term_substitution.specs.Limits.{first_passed}
use Rattle.term_substitution.proofs.FirstLimits.{IsFound, cause, placed, first_found}
use Rattle.term_substitution.proofs.substitution.subst.Goals as goal

pub returns-in-Some-clause-cause : goal.returns-in-Some-clause-cause
returns-in-Some-clause-cause c =
    let found : IsFound c.in-Ok.passed (formula_of c.args.formula.now) c.args.terms.now c.args.places = record { atoms = c.in-Ok.ensures; nodes = c.requires.nodes; depth = c.requires.depth } in
    cause c.in-Ok.passed (formula_of c.args.formula.now) c.args.terms.now c.args.places c.in-Some.error found (sym c.in-Some.is ∙ c.first.ensures)

pub returns-in-Ok-replace-clause-within : goal.returns-in-Ok-replace-clause-within
returns-in-Ok-replace-clause-within c =
    let found : IsFound c.in-Ok.passed (formula_of c.args.formula.now) c.args.terms.now c.args.places = record { atoms = c.in-Ok.ensures; nodes = c.requires.nodes; depth = c.requires.depth } in
    subst (λ g. first_passed g ≡ None) (sym c.in-Ok-replace.ensures) (first_found c.in-Ok.passed (formula_of c.args.formula.now) c.args.terms.now c.args.places found ∙ sym c.first.ensures ∙ c.in-None.is)

pub returns-in-Ok-replace-clause-over : goal.returns-in-Ok-replace-clause-over
returns-in-Ok-replace-clause-over c =
    let found : IsFound c.in-Ok.passed (formula_of c.args.formula.now) c.args.terms.now c.args.places = record { atoms = c.in-Ok.ensures; nodes = c.requires.nodes; depth = c.requires.depth } in
    subst (IsOver c.args.places) (sym c.in-Ok-replace.ensures) (placed c.in-Ok.passed (formula_of c.args.formula.now) c.args.terms.now c.args.places found (sym c.in-None.is ∙ c.first.ensures) c.requires.terms c.requires.over)
