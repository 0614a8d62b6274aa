use Rattle.std.proofs.Common.{ap, sym, ◌∙◌, map}
use Rattle.std.proofs.lemmas.List.{length-map}
use Rattle.script_syntax.specs.Trees.{term_of}
use Rattle.script_names.specs.Kept.{kept_set, sets_of}
use Rattle.script_meaning.specs.Core.{callee}
use Rattle.script_meaning.proofs.Judging.{uncalled_judged}
use Rattle.script_meaning.proofs.calls.call_atoms.Goals as goal

pub returns-in-None : goal.returns-in-None
returns-in-None c = uncalled_judged _ c.args.scope.now (map term_of c.args.terms.now) (ap (callee (kept_set (sets_of c.args.defs.now) c.args.name.now.bytes.now)) (length-map c.args.terms.now term_of) ∙ sym c.in-None.ensures.callee)
