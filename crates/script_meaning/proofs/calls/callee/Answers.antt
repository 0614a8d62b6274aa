use Rattle.std.proofs.Common.{◌≡◌, arith, ap, sym, subst, length}
use Rattle.std.proofs.lemmas.List.{length-map}
use Rattle.formula_core.specs.Counts.{depth_of}
use Rattle.formula_core.specs.Variables.{sort_of}
use Rattle.term_substitution.specs.Conditions.{IsOver}
use Rattle.term_substitution.specs.Limits.{depth_limit}
use Rattle.std.specs.Prelude.{◌≤◌}
use Rattle.script_names.specs.Kept.{set_of, sets_of}
use Rattle.script_meaning.proofs.Calling.{here}
use Rattle.script_meaning.proofs.calls.callee.Goals as goal

pub returns-then-count-sorts-clause-few : goal.returns-then-count-sorts-clause-few
returns-then-count-sorts-clause-few c =
    let h = here (sets_of c.args.defs.now) c.in-Some.at (omega (arith, c.in-Some.ensures.within, length-map c.args.defs.now set_of)) c.vars.ensures.kept in
    let vars = c.vars.ensures.vars h.set h.got in
    omega (arith, h.is.few, c.if-count-sorts.true, ap length c.sorts.ensures, ap length vars, length-map c.sorts.result.now sort_of, length-map c.vars.result.now (λ v. v.1))

pub returns-then-count-sorts-clause-over : goal.returns-then-count-sorts-clause-over
returns-then-count-sorts-clause-over c =
    let h = here (sets_of c.args.defs.now) c.in-Some.at (omega (arith, c.in-Some.ensures.within, length-map c.args.defs.now set_of)) c.vars.ensures.kept in
    let vars = c.vars.ensures.vars h.set h.got in
    let count : c.args.count ≡ length h.set.vars = omega (arith, c.if-count-sorts.true, ap length c.sorts.ensures, ap length vars, length-map c.sorts.result.now sort_of, length-map c.vars.result.now (λ v. v.1)) in
    subst (λ f. IsOver c.args.count f) (sym (c.formula.ensures.formula h.set h.got)) (subst (λ n. IsOver n h.set.formula) (sym count) h.is.over)

pub returns-then-count-sorts-clause-depth : goal.returns-then-count-sorts-clause-depth
returns-then-count-sorts-clause-depth c =
    let h = here (sets_of c.args.defs.now) c.in-Some.at (omega (arith, c.in-Some.ensures.within, length-map c.args.defs.now set_of)) c.vars.ensures.kept in
    subst (λ f. depth_of f ≤ depth_limit) (sym (c.formula.ensures.formula h.set h.got)) h.is.depth
