use Rattle.std.proofs.Common.{◌+◌, ◌-◌, ◌*◌, ◌<◌, slice_index, arith, refl, sym, ap, subst, ◌∙◌}
use Rattle.std.proofs.lemmas.List.{get_or_read}
use Rattle.components.specs.Walking.{layout, Layout}
use Rattle.components.proofs.Ending.{steps_in}
use Rattle.components.proofs.Seeing.{HasRoom, room_left}
use Rattle.components.proofs.Readying.{IsReady, state_in, target_in, earlier_joined, ready_numbered, ready_held, ready_seen, ready_walk, ready_less, last_bound_in}
use Rattle.components.proofs.search.follow.Goals as goal
use Rattle.components.proofs.search.follow.Goals.{then-index-states+then-place-states, then-index-states+else-place-states+else-place-index, else-index-states}

room : (c : goal.After-see-arg-1) → HasRoom c.args.states (layout c.args.walk.now)
room c =
    let y = slice_index c.args.rows.now (c.args.state * c.args.letters + c.args.letter) in
    let inside = target_in c.args.states c.args.rows.now c.args.letters (layout c.args.walk.now) c.requires.walk c.requires.depth
    (steps_in c.args.states c.args.rows.now c.args.letters c.requires.rows c.requires.targets) c.args.state c.requires.state c.args.letter
    c.requires.within y refl in
    let place_is = get_or_read c.args.walk.now.place.items y _ (omega (arith, inside, c.requires.walk.sized.place)) c.index-place.ensures 0 in
    room_left c.args.states c.args.rows.now c.args.letters (layout c.args.walk.now) y c.requires.walk inside (omega (arith, place_is, c.if-place-states.true))

pub see-requires-clause-held : goal.see-requires-clause-held
see-requires-clause-held c = omega (arith, (room c).held, c.requires.walk.sized.order)

pub see-requires-clause-groups : goal.see-requires-clause-groups
see-requires-clause-groups c = omega (arith, (room c).groups, c.requires.walk.sized.order)

pub see-requires-clause-depth : goal.see-requires-clause-depth
see-requires-clause-depth c = omega (arith, (room c).path, c.requires.walk.sized.order)

pub returns-then-place-index-clause-walk : goal.returns-then-place-index-clause-walk
returns-then-place-index-clause-walk c =
    let x = layout c.args.walk.now in
    let n = c.args.states in
    let y = slice_index c.args.rows.now (c.args.state * c.args.letters + c.args.letter) in
    let steps = steps_in n c.args.rows.now c.args.letters c.requires.rows c.requires.targets in
    let inside = target_in n c.args.rows.now c.args.letters x c.requires.walk c.requires.depth steps c.args.state c.requires.state c.args.letter
    c.requires.within y refl in
    let place_is = get_or_read c.args.walk.now.place.items y _ (omega (arith, inside, c.requires.walk.sized.place)) c.index-place.ensures 0 in
    let part_is = get_or_read c.args.walk.now.part.items y _ (omega (arith, inside, c.requires.walk.sized.part)) c.index.ensures 0 in
    let bound_is = get_or_read c.args.walk.now.bounds.items (c.args.walk.now.groups - 1) _
    (last_bound_in n c.args.rows.now c.args.letters x c.requires.walk c.requires.depth) c.index-else-place-states.ensures 0 in
    earlier_joined n c.args.rows.now c.args.letters x c.requires.walk c.requires.depth steps c.args.state c.requires.state c.args.letter c.requires.within y
    refl (omega (arith, part_is, c.if-index-states.true)) (omega (arith, place_is, c.if-place-states.false))
    (omega (arith, place_is, bound_is, c.if-place-index.true))

ready : (c : goal.After-walk-2-1) → IsReady c.args.states c.args.rows.now c.args.letters (layout c.args.walk.now)
    (layout c.if-index-states.walk) c.args.state (slice_index c.args.rows.now (c.args.state * c.args.letters + c.args.letter))
ready c =
    let x = layout c.args.walk.now in
    let n = c.args.states in
    let y = slice_index c.args.rows.now (c.args.state * c.args.letters + c.args.letter) in
    let steps = steps_in n c.args.rows.now c.args.letters c.requires.rows c.requires.targets in
    let inside = target_in n c.args.rows.now c.args.letters x c.requires.walk c.requires.depth steps c.args.state c.requires.state c.args.letter
    c.requires.within y refl in
    let place_is = get_or_read c.args.walk.now.place.items y _ (omega (arith, inside, c.requires.walk.sized.place)) c.index-place.ensures 0 in
    let part_is = get_or_read c.args.walk.now.part.items y _ (omega (arith, inside, c.requires.walk.sized.part)) c.index.ensures 0 in
    let Ready : Layout → Type 0 = λ new. IsReady n c.args.rows.now c.args.letters x new c.args.state y in
    elim c.if-index-states.branch [
      | then-index-states+then-place-states w ↦
          subst Ready (sym (ap layout w.walk-is ∙ w.see.ensures))
          (ready_seen n c.args.rows.now c.args.letters x c.requires.walk c.requires.depth steps c.args.state c.requires.state c.args.letter
          c.requires.within y refl (omega (arith, part_is, w.if-index-states.true)) (omega (arith, place_is, w.if-place-states.true)))
      | then-index-states+else-place-states+else-place-index w ↦
          (let bound_is = get_or_read c.args.walk.now.bounds.items (c.args.walk.now.groups - 1) _
          (last_bound_in n c.args.rows.now c.args.letters x c.requires.walk c.requires.depth) w.index-else-place-states.ensures 0 in
          subst Ready (sym (ap layout w.walk-is))
          (ready_held n c.args.rows.now c.args.letters x c.requires.walk c.requires.depth steps c.args.state c.requires.state c.args.letter
          c.requires.within y refl (omega (arith, part_is, w.if-index-states.true)) (omega (arith, place_is, w.if-place-states.false))
          (omega (arith, place_is, bound_is, w.if-place-index.false))))
      | else-index-states w ↦
          subst Ready (sym (ap layout w.walk-is))
          (ready_numbered n c.args.rows.now c.args.letters x c.requires.walk c.requires.depth steps c.args.state c.requires.state c.args.letter
          c.requires.within y refl (omega (arith, part_is, w.if-index-states.false)))
    ]

inside : (c : goal.After-walk-2-1) → c.args.state < c.args.states
inside c = state_in c.args.states c.args.rows.now c.args.letters (layout c.args.walk.now) c.requires.walk c.requires.depth
    (steps_in c.args.states c.args.rows.now c.args.letters c.requires.rows c.requires.targets) c.args.state c.requires.state c.args.letter c.requires.within
    _ refl

pub returns-clause-walk : goal.returns-clause-walk
returns-clause-walk c = ready_walk c.args.states c.args.rows.now c.args.letters (layout c.args.walk.now)
    (layout c.if-index-states.walk) c.args.state _ c.args.letter (ready c) (inside c) c.requires.letter c.requires.within refl

pub returns-clause-less : goal.returns-clause-less
returns-clause-less c = ready_less c.args.states c.args.rows.now c.args.letters (layout c.args.walk.now)
    (layout c.if-index-states.walk) c.args.state _ c.args.letter (ready c) (inside c) c.requires.letter c.requires.within refl
