use Rattle.std.proofs.Common.{ap, sym, ◌∙◌, subst, map}
use Rattle.script_names.specs.Kept.{sets_of}
use Rattle.script_statements.specs.Statements.{statement_of, Test}
use Rattle.script_statements.specs.Values.{rational_of}
use Rattle.script_syntax.specs.Trees.{named_of}
use Rattle.statement_meaning.specs.Judging.{IsJudgement}
use Rattle.statement_meaning.proofs.judging.judge.Goals as goal

pub returns-in-Test : goal.returns-in-Test
returns-in-Test c = subst (λ s. IsJudgement c.args.base (sets_of c.args.defs.now) s c.tested.result) (ap (λ xs. Test (named_of c.in-Test.name) (map rational_of xs)) c.deref.ensures.value ∙ sym (ap statement_of c.in-Test.is)) (c.tested.ensures c.args.base)

pub returns-in-Loop : goal.returns-in-Loop
returns-in-Loop c = subst (λ s. IsJudgement c.args.base (sets_of c.args.defs.now) s c.loop_to_keep.result) (sym (ap statement_of c.in-Loop.is)) (c.loop_to_keep.ensures c.args.base)
