use Rattle.std.proofs.Common.{ap, sym, ◌∙◌, map}
use Rattle.std.specs.Prelude.{min}
use Rattle.std.proofs.lemmas.List.{length-map}
use Rattle.formula_core.specs.Counts.{count_limit}
use Rattle.formula_core.specs.Shape.{formula_of}
use Rattle.script_syntax.specs.Trees.{term_of}
use Rattle.script_names.specs.Kept.{kept_set, sets_of}
use Rattle.script_meaning.specs.Core.{callee}
use Rattle.script_meaning.proofs.Calling.{called_depth}
use Rattle.script_meaning.proofs.calls.call_depth.Goals as goal

pub returns-in-Some : goal.returns-in-Some
returns-in-Some c = λ scope. c.depth.ensures ∙ ap (λ n. min n count_limit) (sym (called_depth _ scope (map term_of c.args.terms.now) (formula_of c.in-Some.formula.now) (ap (callee (kept_set (sets_of c.args.defs.now) c.args.name.now.bytes.now)) (length-map c.args.terms.now term_of) ∙ sym c.in-Some.ensures.callee)))
