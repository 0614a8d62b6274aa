use Rattle.std.proofs.Common.{◌≡◌, ◌+◌, [], ◌∷◌, Bool, List, subst}
use Rattle.std.specs.Prelude.{IfNone, IfSome}
use Rattle.lash_model.specs.Tables.{fracs}
use Rattle.least_paths.specs.Nets.{Net}
use Rattle.least_paths.specs.declared.walking.Trail.{Trail}
use Rattle.weak_forms.specs.Ways.{IsLeastWay, LeadsToNone}
use Rattle.weak_forms.specs.Marking.{IsOnlyGoal}
use Rattle.weak_forms.proofs.LoopWords.{path, doubled_net, net_is, some_marked, least_marked}
use Rattle.weak_forms.proofs.loops.least_marked.Goals as goal

pub unreachable-requires : goal.unreachable-requires
unreachable-requires c =
    let table = c.args.table.now.table in
    let goals = c.in-Ok.goals.items in
    let net : c.new-graph.result ≡ doubled_net table c.args.rows.now (c.args.state ∷ []) =
    net_is table c.new-graph.result _ (c.args.state ∷ []) c.args.rows.now _ _ c.new-graph.ensures.value c.as_slice.ensures c.letters.ensures.value c.copies-all.ensures in
    let none : LeadsToNone c.new-graph.result c.as_slice-2.result.now =
    subst (λ found. IfNone found (LeadsToNone c.new-graph.result c.as_slice-2.result.now)) c.in-None.is c.in-Ok-least_way.ensures.none in
    some_marked table c.letters.ensures.table c.args.rows.now c.requires.rows c.args.state c.requires.state c.requires.torn goals
    (subst (λ n. IsOnlyGoal n (c.args.state + fracs table) goals) c.copies-all.ensures
    (subst (λ n. IsOnlyGoal c.copies-all.result (c.args.state + n) goals) c.fracs.ensures c.in-Ok.ensures))
    (subst (λ (g : Net). LeadsToNone g goals) net (subst (LeadsToNone c.new-graph.result) c.as_slice-2.ensures.value none))

pub returns : goal.returns
returns c =
    let table = c.args.table.now.table in
    let goals = c.in-Ok.goals.items in
    let way = c.in-Some.way in
    let net : c.new-graph.result ≡ doubled_net table c.args.rows.now (c.args.state ∷ []) =
    net_is table c.new-graph.result _ (c.args.state ∷ []) c.args.rows.now _ _ c.new-graph.ensures.value c.as_slice.ensures c.letters.ensures.value c.copies-all.ensures in
    let least : IsLeastWay c.new-graph.result c.as_slice-2.result.now (path way.start way.letters.items) =
    subst (λ found. IfSome found (λ (x : Trail). IsLeastWay c.new-graph.result c.as_slice-2.result.now (path x.start x.letters.items)))
    c.in-Some.is c.in-Ok-least_way.ensures.some in
    least_marked table c.letters.ensures.table c.args.rows.now c.requires.rows c.args.state c.requires.state c.requires.torn goals
    (subst (λ n. IsOnlyGoal n (c.args.state + fracs table) goals) c.copies-all.ensures
    (subst (λ n. IsOnlyGoal c.copies-all.result (c.args.state + n) goals) c.fracs.ensures c.in-Ok.ensures)) way.start way.letters.items
    (subst (λ (g : Net). IsLeastWay g goals (path way.start way.letters.items)) net
    (subst (λ (xs : List Bool). IsLeastWay c.new-graph.result xs (path way.start way.letters.items)) c.as_slice-2.ensures.value least))
