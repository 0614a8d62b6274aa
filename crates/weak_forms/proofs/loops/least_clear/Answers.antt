use Rattle.std.proofs.Common.{◌≡◌, ℕ, ◌∷◌, Bool, List, sym, ap, subst, ◌∙◌}
use Rattle.std.specs.Prelude.{IfNone, IfSome}
use Rattle.least_paths.specs.Nets.{Net}
use Rattle.least_paths.specs.declared.walking.Trail.{Trail}
use Rattle.weak_forms.specs.Ways.{IsLeastWay, LeadsToNone}
use Rattle.weak_forms.specs.Marking.{IsOnlyGoal}
use Rattle.weak_forms.specs.Words.{IsLeastClear}
use Rattle.weak_forms.proofs.LoopWords.{path, doubled_net, net_is, some_clear, least_clear}
use Rattle.weak_forms.proofs.loops.least_clear.Goals as goal

pub unreachable-requires : goal.unreachable-requires
unreachable-requires c =
    let table = c.args.table.now.table in
    let targets = c.in-Ok.targets.items in
    let goals = c.in-Ok-only_goal.goals.items in
    let net : c.new-graph.result ≡ doubled_net table c.args.rows.now targets =
    net_is table c.new-graph.result _ targets c.args.rows.now _ _ c.new-graph.ensures.value c.as_slice.ensures.value c.letters.ensures.value c.copies-2.ensures in
    let none : LeadsToNone c.new-graph.result c.as_slice-2.result.now =
    subst (λ found. IfNone found (LeadsToNone c.new-graph.result c.as_slice-2.result.now)) c.in-None.is c.in-Ok-least_way.ensures.none in
    some_clear table c.letters.ensures.table c.args.rows.now c.requires.rows c.args.state c.requires.state c.requires.torn targets c.in-Ok.ensures.targets goals
    (subst (λ n. IsOnlyGoal n c.args.state goals) c.copies.ensures c.in-Ok-only_goal.ensures)
    (subst (λ (g : Net). LeadsToNone g goals) net (subst (LeadsToNone c.new-graph.result) c.as_slice-2.ensures.value none))

pub returns-in-Ok-with_front : goal.returns-in-Ok-with_front
returns-in-Ok-with_front c =
    let table = c.args.table.now.table in
    let targets = c.in-Ok.targets.items in
    let goals = c.in-Ok-only_goal.goals.items in
    let way = c.in-Some.way in
    let net : c.new-graph.result ≡ doubled_net table c.args.rows.now targets =
    net_is table c.new-graph.result _ targets c.args.rows.now _ _ c.new-graph.ensures.value c.as_slice.ensures.value c.letters.ensures.value c.copies-2.ensures in
    let least : IsLeastWay c.new-graph.result c.as_slice-2.result.now (path way.start way.letters.items) =
    subst (λ found. IfSome found (λ (x : Trail). IsLeastWay c.new-graph.result c.as_slice-2.result.now (path x.start x.letters.items)))
    c.in-Some.is c.in-Ok-least_way.ensures.some in
    subst (λ (w : List ℕ). IsLeastClear table c.args.state w) (sym (c.in-Ok-with_front.ensures ∙ ap (λ (w : List ℕ). way.start ∷ w) c.as_slice-3.ensures.value))
    (least_clear table c.letters.ensures.table c.args.rows.now c.requires.rows c.args.state c.requires.state c.requires.torn targets c.in-Ok.ensures.targets goals
    (subst (λ n. IsOnlyGoal n c.args.state goals) c.copies.ensures c.in-Ok-only_goal.ensures) way.start way.letters.items
    (subst (λ (g : Net). IsLeastWay g goals (path way.start way.letters.items)) net
    (subst (λ (xs : List Bool). IsLeastWay c.new-graph.result xs (path way.start way.letters.items)) c.as_slice-2.ensures.value least)))
