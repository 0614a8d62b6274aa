use Rattle.std.proofs.Common.{[], ◌∷◌}
use Rattle.lash_model.specs.Formulas.{And}
use Rattle.loop_laws.specs.Closures.{early_term, guarded}
use Rattle.loop_closure.specs.Builders.{body_in, whole_of}
use Rattle.loop_closure.proofs.Joining.{joined_none, joined_more}
use Rattle.loop_closure.proofs.parts.put_first_guards.Goals as goal

pub loop-turns-init : goal.loop-turns-init
loop-turns-init c = joined_none And (λ j. guarded (body_in c.args.builder.now) (early_term (body_in c.args.builder.now) j) c.args.places ∷ []) (whole_of c.args.whole)

pub loop-turns-preserved : goal.loop-turns-preserved
loop-turns-preserved c = joined_more And (λ j. guarded (body_in c.args.builder.now) (early_term (body_in c.args.builder.now) j) c.args.places ∷ []) (whole_of c.args.whole) (whole_of c.loop-turns.members) (whole_of c.in-Ok.more) c.loop-turns.turns c.loop-turns.invariant c.in-Ok.ensures
