use Rattle.std.proofs.Common.{◌≤◌, slice_index, arith, sym, ap, subst}
use Rattle.std.proofs.lemmas.List.{get_or_read}
use Rattle.components.specs.Walking.{layout, Layout, IsWalk}
use Rattle.components.proofs.Ending.{none_reach}
use Rattle.components.proofs.Seeing.{seen_walk, seen_kept, seen_held}
use Rattle.components.proofs.search.search.Goals as goal

pub loop-walk-init : goal.loop-walk-init
loop-walk-init c =
    let n = c.args.states in
    let rows = c.args.rows.now in
    let width = c.args.letters in
    let x = layout c.args.walk.now in
    let walk = c.requires.walk in
    let root = c.args.root in
    let place_is = get_or_read c.args.walk.now.place.items root _ (omega (arith, c.requires.root, walk.sized.place)) c.index.ensures 0 in
    let unseen : n ≤ slice_index x.place root = omega (arith, place_is, c.if-index-states.false) in
    let unnumbered = walk.placed.unseen root c.requires.root unseen in
    let reached = none_reach n rows width x walk c.requires.ended root in
    let same = c.see.ensures in
    record {
      walk = subst (λ new. IsWalk n rows width new) (sym same) (seen_walk n rows width x root walk c.requires.root unseen unnumbered reached);
      kept = λ q lt. omega (
        arith,
        ap (λ (new : Layout). slice_index new.place q) same,
        seen_kept n rows width x root walk c.requires.root unseen unnumbered reached q lt,
      );
      root = omega (
        arith,
        ap (λ (new : Layout). slice_index new.place root) same,
        (seen_held n rows width x root walk c.requires.root unseen unnumbered reached).placed,
      );
    }
