use Rattle.std.proofs.Common.{◌≡◌, ap, sym, ◌∙◌, subst}
use Rattle.std.specs.Prelude.{slice_get}
use Rattle.script_names.specs.Kept.{sets_of, kept_place}
use Rattle.script_names.proofs.Keeping.{entry_is}
use Rattle.script_names.proofs.kept.Defs.name.Goals as goal

pub returns : goal.returns
returns c = λ k got. c.as_slice.ensures.value ∙ ap (λ s. s.name) (entry_is c.self.inside.sets.entries c.args.at _ k c.in-Some.ensures.entry (ap (λ s. slice_get (sets_of s) c.args.at) c.self.view_is ∙ got))
