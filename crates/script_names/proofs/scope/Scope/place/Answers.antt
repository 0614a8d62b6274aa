use Rattle.std.proofs.Common.{◌∙◌, ap}
use Rattle.script_names.specs.Scopes.{place_of}
use Rattle.script_names.proofs.Lists.{places_agree}
use Rattle.script_names.proofs.scope.Scope.place.Goals as goal

pub returns-clause-place : goal.returns-clause-place
returns-clause-place c = c.get_index_of.ensures.index ∙ places_agree c.args.name.now c.self.inside.names.entries ∙ ap (λ s. place_of s c.args.name.now) c.self.view_is
