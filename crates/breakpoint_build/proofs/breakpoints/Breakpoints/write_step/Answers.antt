use Rattle.std.proofs.Common.{◌∙◌, sym, ap, subst}
use Rattle.std.specs.Prelude.{All, ◌<◌}
use Rattle.lash_model.specs.Tables.{fracs}
use Rattle.breakpoint_build.proofs.KeyLists.{room_few, room_states}
use Rattle.breakpoint_build.proofs.breakpoints.Breakpoints.write_step.Goals as goal
use Rattle.breakpoint_build.proofs.breakpoints.Breakpoints.write_step.Goals.{then-not-is_empty+in-Ok-step, else-not-is_empty}

pub begin_key-requires : goal.begin_key-requires
begin_key-requires g c = room_few c.self.inside.steps.moves c.self.inside.table.now.table c.step.new.into.items c.as_slice.result.now
    c.self.invariant.moves_are c.self.invariant.table_in c.in-Ok.ensures.rising c.as_slice.ensures

pub push_yes-requires : goal.push_yes-requires
push_yes-requires g c = elim c.if-not-is_empty.branch [
  | then-not-is_empty+in-Ok-step w ↦ subst (λ z. All (λ q. q < fracs z.table.now.table) c.as_slice-2.result.now) (sym w.self-inside-is)
      (room_states c.self.inside.steps.moves c.self.inside.table.now.table w.step-then-not-is_empty.new.into.items c.as_slice-2.result.now
      c.self.invariant.moves_are w.in-Ok-step.ensures.rising (c.as_slice-2.ensures ∙ ap (λ z. z.room.items) w.self-inside-is))
  | else-not-is_empty w ↦ subst (λ z. All (λ q. q < fracs z.table.now.table) c.as_slice-2.result.now) (sym w.self-inside-is)
      (room_states c.self.inside.steps.moves c.self.inside.table.now.table c.step.new.into.items c.as_slice-2.result.now
      c.self.invariant.moves_are c.in-Ok.ensures.rising (c.as_slice-2.ensures ∙ ap (λ z. z.room.items) w.self-inside-is))
]
