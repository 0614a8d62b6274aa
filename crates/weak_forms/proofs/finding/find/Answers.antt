use Rattle.std.proofs.Common.{◌<◌, ◌^◌, arith, length}
use Rattle.weak_forms.proofs.Meeting.{few_found}
use Rattle.weak_forms.proofs.Following.{begun_none, all_found, all_read}
use Rattle.weak_forms.proofs.finding.find.Goals as goal

pub returns-in-Ok-follow_all-clause-found : goal.returns-in-Ok-follow_all-clause-found
returns-in-Ok-follow_all-clause-found g c = all_found (g.G.Graph.net c.args.graph.now) c.follow_all.new.found c.in-Ok-follow_all.ensures.followed

pub returns-in-Ok-follow_all-clause-read : goal.returns-in-Ok-follow_all-clause-read
returns-in-Ok-follow_all-clause-read g c =
    let few : length c.follow_all.new.found.order < 2 ^ 32 = omega (
      arith,
      few_found c.follow_all.new.found.order c.follow_all.new.places.items c.in-Ok-follow_all.ensures.places,
      c.in-Ok-follow_all.ensures.places.few,
    ) in
    all_read (g.G.Graph.net c.args.graph.now) c.follow_all.new.found c.in-Ok-follow_all.ensures.followed few (omega (arith, c.start_count-starts.ensures))

pub begin_all-requires-clause-begun : goal.begin_all-requires-clause-begun
begin_all-requires-clause-begun g c =
    begun_none (g.G.Graph.net c.args.graph.now) _ c.width.ensures c.new.ensures.items c.new-2.ensures.items c.new-3.ensures.items
