use Rattle.std.proofs.Common.{◌≡◌, ◌+◌, true, false, map, rules, refl, sym, ◌∙◌}
use Rattle.std.specs.List.{list_any}
use Rattle.step_tables.specs.Gathering.{same_list}
use Rattle.step_tables.proofs.Keys.{map-insert_key, stored_key, list_any-map, fresh, seen}
use Rattle.step_tables.proofs.found.Found.insert.Goals as goal

pub returns-else-self-limit-clause-keys : goal.returns-else-self-limit-clause-keys
returns-else-self-limit-clause-keys c = rw (c.in-Ok.ensures.keys, ← c.self.view_is) (map-insert_key (λ k. k.items) c.self.inside.keys.keys c.args.key)

pub returns-else-self-limit-clause-place : goal.returns-else-self-limit-clause-place
returns-else-self-limit-clause-place c =
    let stored = c.in-Ok.ensures.stored in
    stored_key (λ k. k.items) c.insert_full.new.self.keys c.in-Ok.found.0 c.args.key stored.0 stored.1 stored.2

pub returns-else-self-limit-clause-cells : goal.returns-else-self-limit-clause-cells
returns-else-self-limit-clause-cells c =
    let tested : list_any (same_list c.args.key.items) (map (λ k. k.items) c.self.inside.keys.keys) ≡ false =
    sym (list_any-map (λ k. k.items) c.args.key c.self.inside.keys.keys) ∙ fresh _ _ c.in-Ok.ensures.added c.if-new.true in
    let sum : c.saturating_add-self-inside.result ≡ c.self.inside.cells + c.args.cells = search rules in
    rw (← c.self.view_is, tested) sum

pub returns-else-new-clause-keys : goal.returns-else-new-clause-keys
returns-else-new-clause-keys c = rw (c.in-Ok.ensures.keys, ← c.self.view_is) (map-insert_key (λ k. k.items) c.self.inside.keys.keys c.args.key)

pub returns-else-new-clause-place : goal.returns-else-new-clause-place
returns-else-new-clause-place c =
    let stored = c.in-Ok.ensures.stored in
    stored_key (λ k. k.items) c.insert_full.new.self.keys c.in-Ok.found.0 c.args.key stored.0 stored.1 stored.2

pub returns-else-new-clause-cells : goal.returns-else-new-clause-cells
returns-else-new-clause-cells c =
    let tested : list_any (same_list c.args.key.items) (map (λ k. k.items) c.self.inside.keys.keys) ≡ true =
    sym (list_any-map (λ k. k.items) c.args.key c.self.inside.keys.keys) ∙ seen _ _ c.in-Ok.ensures.added c.if-new.false in
    rw (← c.self.view_is, tested) refl

pub returns-then-self-limit-clause-new : goal.returns-then-self-limit-clause-new
returns-then-self-limit-clause-new c = λ e.
    let tested : list_any (same_list c.args.key.items) (map (λ k. k.items) c.self.inside.keys.keys) ≡ false =
    sym (list_any-map (λ k. k.items) c.args.key c.self.inside.keys.keys) ∙ fresh _ _ c.in-Ok.ensures.added c.if-new.true in
    rw (← c.self.view_is) tested
