use Rattle.std.proofs.Common.{◌<◌, length, arith}
use Rattle.std.proofs.lemmas.List.{get_or_read}
use Rattle.components.proofs.Colouring.{put_more}
use Rattle.components.proofs.ranking.put_parities.Goals as goal

pub loop-at-preserved : goal.loop-at-preserved
loop-at-preserved c =
    let inside : c.loop-at.at < length c.args.ranks.now.items = omega (arith, c.loop-at-test.true, c.len-at-end.ensures) in
    let still : c.loop-at.at < length c.loop-at.ranks.items = omega (arith, c.loop-at-test.true, c.len-at-end.ensures, c.loop-at.invariant.count) in
    put_more c.args.ranks.now.items c.loop-at.ranks.items c.loop-at.at c.index.result.now inside
    (get_or_read c.loop-at.ranks.items c.loop-at.at _ still c.index.ensures 0) c.loop-at.invariant
