use Rattle.std.proofs.Common.{◌≡◌, ◌-◌, ◌<◌, ◌∙◌, slice_index, arith, sym, ap, subst}
use Rattle.std.proofs.lemmas.List.{get_or_read}
use Rattle.components.specs.Walking.{layout, IsWalk, IsListing}
use Rattle.components.proofs.Ending.{steps_in}
use Rattle.components.proofs.Following.{top_below, left_walk}
use Rattle.components.proofs.Closing.{closed_walk}
use Rattle.components.proofs.Readying.{last_bound_in, path_in}
use Rattle.components.proofs.search.advance.Goals as goal

pub returns-then-index-place-clause-walk : goal.returns-then-index-place-clause-walk
returns-then-index-place-clause-walk c =
    let n = c.args.states in
    let rows = c.args.rows.now in
    let width = c.args.letters in
    let x = layout c.args.walk.now in
    let walk = c.requires.walk in
    let state_is = get_or_read c.args.walk.now.path.items (c.args.walk.now.depth - 1) _
    (path_in n rows width x walk c.requires.depth) c.index-state.ensures 0 in
    let inside : c.index-state.result.now < n = omega (arith, state_is, top_below n rows width x walk c.requires.depth) in
    let letter_is = get_or_read c.args.walk.now.next.items c.index-state.result.now _ (omega (arith, inside, walk.sized.next)) c.index-letter.ensures 0 in
    let place_is = get_or_read c.args.walk.now.place.items c.index-state.result.now _ (omega (arith, inside, walk.sized.place)) c.index-place.ensures 0 in
    let bound_is = get_or_read c.args.walk.now.bounds.items (c.args.walk.now.groups - 1) _
    (last_bound_in n rows width x walk c.requires.depth) c.index.ensures 0 in
    let listing = subst (λ k. IsListing k x.part x.place c.index-place.result.now x.held x.count x.done c.close.new.walk.part.items
    c.close.new.walk.finished.items c.close.new.walk.done) walk.sized.order c.close.ensures.listing in
    subst (λ new. IsWalk n rows width new) (sym c.close.ensures.rest)
    (closed_walk n rows width x walk c.requires.depth c.index-state.result.now state_is
    (omega (arith, letter_is, c.if-letter-letters.false, walk.followed.letters c.index-state.result.now inside)) c.index-place.result.now place_is
    (omega (arith, bound_is, c.if-index-place.true)) c.close.new.walk.part.items listing.numbering c.close.new.walk.finished.items listing.long
    c.close.new.walk.done listing.done_is listing.listed (steps_in n rows width c.requires.rows c.requires.targets))

pub returns-else-index-place-clause-walk : goal.returns-else-index-place-clause-walk
returns-else-index-place-clause-walk c =
    let n = c.args.states in
    let rows = c.args.rows.now in
    let width = c.args.letters in
    let x = layout c.args.walk.now in
    let walk = c.requires.walk in
    let state_is = get_or_read c.args.walk.now.path.items (c.args.walk.now.depth - 1) _
    (path_in n rows width x walk c.requires.depth) c.index-state.ensures 0 in
    let inside : c.index-state.result.now < n = omega (arith, state_is, top_below n rows width x walk c.requires.depth) in
    let letter_is = get_or_read c.args.walk.now.next.items c.index-state.result.now _ (omega (arith, inside, walk.sized.next)) c.index-letter.ensures 0 in
    let place_is = get_or_read c.args.walk.now.place.items c.index-state.result.now _ (omega (arith, inside, walk.sized.place)) c.index-place.ensures 0 in
    let bound_is = get_or_read c.args.walk.now.bounds.items (c.args.walk.now.groups - 1) _
    (last_bound_in n rows width x walk c.requires.depth) c.index.ensures 0 in
    let full : slice_index x.next c.index-state.result.now ≡ width =
    omega (arith, letter_is, c.if-letter-letters.false, walk.followed.letters c.index-state.result.now inside) in
    left_walk n rows width x walk c.requires.depth (ap (slice_index x.next) (sym state_is) ∙ full)
    (λ e. c.if-index-place.false (bound_is ∙ (e ∙ (ap (slice_index x.place) (sym state_is) ∙ sym place_is))))
