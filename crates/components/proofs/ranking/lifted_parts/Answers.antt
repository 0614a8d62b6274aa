use Rattle.std.proofs.Common.{◌≡◌, ◌+◌, ◌<◌, ℕ, List, length, slice_index, slice_set, arith, sym, ap, subst}
use Rattle.components.specs.Rankings.{IsRisen, AreLifting}
use Rattle.components.proofs.Lifting.{lifting_more, lifting_whole}
use Rattle.components.proofs.ranking.lifted_parts.Goals as goal

pub loop-state-preserved : goal.loop-state-preserved
loop-state-preserved c =
    let rows = c.args.rows.now in
    let width = c.args.letters in
    let colours = c.args.colours.now in
    let p = c.args.parts.now in
    let n = length colours in
    let ranks = c.loop-state.ranks.items in
    let i = c.loop-state.state-index in
    let q = slice_index c.states-state-items.result.now i in
    let listed : c.states-state-items.result.now ≡ p.order = c.states-state-items.ensures in
    let inside : i < n = omega (arith, c.loop-state-test.true, ap length listed, c.requires.parts.order.long) in
    let risen = subst (λ (xs : List ℕ). IsRisen rows width colours p xs q width c.risen-rank.result) c.as_slice.ensures.value c.risen-rank.ensures in
    subst (λ j. AreLifting n rows width colours p (slice_set ranks j c.risen-rank.result) (i + 1)) (sym c.part_of-part.ensures)
    (lifting_more n rows width colours p c.requires.parts ranks i q c.risen-rank.result inside
    (ap (λ (xs : List ℕ). slice_index xs i) listed) c.loop-state.invariant risen)

pub returns : goal.returns
returns c =
    let p = c.args.parts.now in
    let n = length c.args.colours.now in
    let all : c.loop-state.state-index ≡ n =
    omega (arith, c.loop-state-test.false, c.loop-state.auto.state-index-end, ap length c.states-state-items.ensures, c.requires.parts.order.long) in
    lifting_whole n c.args.rows.now c.args.letters c.args.colours.now p c.loop-state.ranks.items c.requires.parts
    (subst (λ k. AreLifting n c.args.rows.now c.args.letters c.args.colours.now p c.loop-state.ranks.items k) all c.loop-state.invariant)
