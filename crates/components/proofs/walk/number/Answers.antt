use Rattle.std.proofs.Common.{◌≡◌, ◌+◌, ◌<◌, ◌≤◌, ◌∙◌, ℕ, List, length, slice_index, slice_set, arith, rules, sym, ap, subst}
use Rattle.std.proofs.lemmas.List.{get_or_read}
use Rattle.components.specs.Walking.{layout, Layout, IsListing}
use Rattle.components.proofs.Numbering.{listing_more}
use Rattle.components.proofs.walk.number.Goals as goal

pub loop-at-preserved : goal.loop-at-preserved
loop-at-preserved c =
    let old = layout c.args.walk.now in
    let n = length c.args.walk.now.order.items in
    let now = layout c.loop-at.walk in
    let state = c.index-state.result.now in
    let rest = c.loop-at.invariant.rest in
    let order_is : now.order ≡ old.order = ap (λ (x : Layout). x.order) rest in
    let count_is : now.count ≡ old.count = ap (λ (x : Layout). x.count) rest in
    let low : c.loop-at.at < old.held = search rules in
    let above : c.args.from ≤ c.loop-at.at = search rules in
    let state_is : state ≡ slice_index old.order c.loop-at.at = get_or_read c.loop-at.walk.order.items c.loop-at.at _
    (omega (arith, low, ap length order_is, c.requires.placed.few)) c.index-state.ensures 0 ∙ ap (λ (xs : List ℕ). slice_index xs c.loop-at.at) order_is in
    record {
      rest = ap (λ (x : Layout). record x {
        part = slice_set now.part state now.count;
        finished = slice_set now.finished now.done state;
        done =
            now.done + 1;
      }) rest;
      listing = subst (λ v. IsListing n old.part old.place c.args.from (c.loop-at.at + 1) old.count old.done (slice_set now.part state v)
          (slice_set now.finished now.done state) (now.done + 1)) (sym count_is)
          (listing_more n old.part old.place old.order old.held c.args.from c.loop-at.at old.count old.done state now.part now.finished now.done
          c.requires.placed c.requires.room c.requires.count above low state_is c.loop-at.invariant.listing);
    }
