use Rattle.std.proofs.Common.{◌≡◌, Bool, true, false, if◌then◌else◌, ◌∙◌, ap, refl, arith, slice_index}
use Rattle.std.specs.Prelude.{nat_eq}
use mir.Val.{bool_byte}
use Rattle.weak_min.proofs.FractionTables.{colour_more}
use Rattle.weak_min.proofs.copies.colours_of.Goals as goal

byte_is : (b : Bool) → bool_byte b ≡ (if b then 1 else 0)
byte_is true = refl
byte_is false = refl

pub loop-state-preserved : goal.loop-state-preserved
loop-state-preserved g c = c.in-Ok-push.ensures.items ∙ colour_more c.args.table.now.table.colours c.loop-state.colours.items c.loop-state.state c.from.result c.requires.colours_in
    (omega (arith, c.loop-state-test.true, c.fracs-state-end.ensures)) c.loop-state.invariant
    (c.from.ensures ∙ ap bool_byte c.colour.ensures ∙ byte_is (nat_eq (slice_index c.args.table.now.table.colours c.loop-state.state) 1))
