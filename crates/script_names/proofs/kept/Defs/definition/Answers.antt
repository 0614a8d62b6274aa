use Rattle.std.proofs.Common.{◌≡◌, ap, sym, ◌∙◌, subst}
use Rattle.std.specs.Prelude.{slice_get}
use Rattle.script_names.specs.Kept.{sets_of, kept_place}
use Rattle.script_names.proofs.Keeping.{entry_is}
use Rattle.script_names.proofs.kept.Defs.definition.Goals as goal

pub returns-clause-vars : goal.returns-clause-vars
returns-clause-vars c = λ k got. ap (λ s. s.vars) (entry_is c.self.inside.sets.entries c.args.at _ k c.in-Some.ensures.entry (ap (λ s. slice_get (sets_of s) c.args.at) c.self.view_is ∙ got))

pub returns-clause-formula : goal.returns-clause-formula
returns-clause-formula c = λ k got. ap (λ s. s.formula) (entry_is c.self.inside.sets.entries c.args.at _ k c.in-Some.ensures.entry (ap (λ s. slice_get (sets_of s) c.args.at) c.self.view_is ∙ got))
