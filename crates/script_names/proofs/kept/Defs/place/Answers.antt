use Rattle.std.proofs.Common.{◌≡◌, ap, sym, ◌∙◌, subst}
use Rattle.std.specs.Prelude.{slice_get}
use Rattle.script_names.specs.Kept.{sets_of, kept_place}
use Rattle.script_names.proofs.Keeping.{kept_places_agree}
use Rattle.script_names.proofs.kept.Defs.place.Goals as goal

pub returns-in-Some-clause-place : goal.returns-in-Some-clause-place
returns-in-Some-clause-place c = c.in-Some.ensures.index ∙ kept_places_agree c.args.name.now c.self.inside.sets.entries ∙ ap (λ s. kept_place (sets_of s) c.args.name.now) c.self.view_is

pub returns-in-None-clause-place : goal.returns-in-None-clause-place
returns-in-None-clause-place c = c.in-None.ensures.index ∙ kept_places_agree c.args.name.now c.self.inside.sets.entries ∙ ap (λ s. kept_place (sets_of s) c.args.name.now) c.self.view_is
