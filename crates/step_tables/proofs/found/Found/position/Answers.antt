use Rattle.std.proofs.Common.{◌∙◌}
use Rattle.step_tables.proofs.Keys.{placed_if, list_any-map}
use Rattle.step_tables.proofs.found.Found.position.Goals as goal

pub returns-clause-place : goal.returns-clause-place
returns-clause-place c = rw (← c.self.view_is) (placed_if (λ k. k.items) c.self.inside.keys.keys c.args.key.now c.get_index_of.result c.get_index_of.ensures.index)

pub returns-clause-known : goal.returns-clause-known
returns-clause-known c = rw (← c.self.view_is) (c.get_index_of.ensures.found ∙ list_any-map (λ k. k.items) c.args.key.now c.self.inside.keys.keys)
