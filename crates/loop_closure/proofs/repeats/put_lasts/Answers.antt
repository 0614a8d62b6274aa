use Rattle.std.proofs.Common.{◌+◌, [], ◌∷◌}
use Rattle.lash_model.specs.Formulas.{And}
use Rattle.loop_laws.specs.Closures.{early_term, guarded, late_term}
use Rattle.loop_closure.specs.Builders.{body_in, whole_of}
use Rattle.loop_closure.proofs.Joining.{joined_none, joined_more}
use Rattle.loop_closure.proofs.repeats.put_lasts.Goals as goal

pub loop-remainder-init : goal.loop-remainder-init
loop-remainder-init c = joined_none And (λ j. guarded (body_in c.args.builder.now) (early_term (body_in c.args.builder.now) (c.args.builder.now.orbit.power + j)) (c.args.place + 1) ∷ guarded (body_in c.args.builder.now) (late_term (body_in c.args.builder.now) c.args.builder.now.orbit.power j c.args.place 1) (c.args.place + 1) ∷ []) (whole_of c.args.whole)

pub loop-remainder-preserved : goal.loop-remainder-preserved
loop-remainder-preserved c = joined_more And (λ j. guarded (body_in c.args.builder.now) (early_term (body_in c.args.builder.now) (c.args.builder.now.orbit.power + j)) (c.args.place + 1) ∷ guarded (body_in c.args.builder.now) (late_term (body_in c.args.builder.now) c.args.builder.now.orbit.power j c.args.place 1) (c.args.place + 1) ∷ []) (whole_of c.args.whole) (whole_of c.loop-remainder.members) (whole_of c.in-Ok.more) c.loop-remainder.remainder c.loop-remainder.invariant c.in-Ok.ensures
