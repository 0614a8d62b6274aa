use Rattle.std.proofs.Common.{◌≡◌, sym, ap, ap₂, ◌∙◌, subst, map, false}
use Rattle.std.specs.Prelude.{IfOk}
use Rattle.script_syntax.specs.Trees.{declaration_of, quantifier_of, tree_of}
use Rattle.script_names.specs.Kept.{sets_of}
use Rattle.script_meaning.specs.Core.{core}
use Rattle.term_substitution.specs.Passing.{AreAtomsJudged}
use Rattle.script_names.specs.Scopes.{with_declared}
use Rattle.script_meaning.proofs.Judging.{none_of_truth, bound_answered}
use Rattle.script_meaning.proofs.atoms.+atoms.Goals as goal
use Rattle.script_meaning.proofs.atoms.+atoms.Goals.{judge_unit-in-Ok-declare_all, judge_unit-in-Err-declare_all}

pub judge_unit-returns-in-Truth-clause-judged : goal.judge_unit-returns-in-Truth-clause-judged
judge_unit-returns-in-Truth-clause-judged t c = subst (λ x. AreAtomsJudged (record { coefficients = false; constant = false }) (core (sets_of c.args.defs.now) c.args.scope.now (tree_of x))) (sym c.in-Truth.is) (none_of_truth c.in-Truth.field-0)

pub judge_unit-returns-after-declare_all-clause-judged : goal.judge_unit-returns-after-declare_all-clause-judged
judge_unit-returns-after-declare_all-clause-judged t c = elim c.match-declare_all.branch [
  | judge_unit-in-Ok-declare_all w ↦
      let scope = c.args.scope.now in
      let ds = map declaration_of c.in-Quantified.declarations.items in
      let body = core (sets_of c.args.defs.now) (with_declared scope ds) (tree_of c.in-Quantified.inner.value) in
      let same : core (sets_of c.args.defs.now) c.declare_all.new.scope (tree_of w.deref-in-Ok-declare_all.result.now) ≡ body = ap₂ (λ s x. core (sets_of c.args.defs.now) s (tree_of x)) (w.in-Ok-declare_all.ensures.1 ∙ ap (λ xs. with_declared scope (map declaration_of xs)) c.deref-in-Quantified.ensures.value) w.deref-in-Ok-declare_all.ensures in
      subst (λ r. IfOk r (λ p. AreAtomsJudged p (core (sets_of c.args.defs.now) scope (tree_of c.args.tree.now)))) (sym w.answer-is)
      (subst (λ x. IfOk w.judge_atoms-answer.result (λ p. AreAtomsJudged p (core (sets_of c.args.defs.now) scope (tree_of x)))) (sym c.in-Quantified.is)
      (bound_answered w.judge_atoms-answer.result (quantifier_of c.in-Quantified.field-0) ds body (subst (λ f. IfOk w.judge_atoms-answer.result (λ p. AreAtomsJudged p f)) same w.judge_atoms-answer.ensures.judged)))
  | judge_unit-in-Err-declare_all w ↦ rw w.answer-is tt
]
