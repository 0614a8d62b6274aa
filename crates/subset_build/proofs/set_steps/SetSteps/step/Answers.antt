use Rattle.std.proofs.Common.{subst}
use Rattle.subset_build.specs.Subsets.{IsForgetting}
use Rattle.subset_build.proofs.Targets.{below_from_proper, ordered_step, ordered_proper}
use Rattle.subset_build.proofs.set_steps.SetSteps.step.Goals as goal

pub write_targets-requires-clause-set : goal.write_targets-requires-clause-set
write_targets-requires-clause-set g c = below_from_proper 0 c.args.self.now.moves.states c.args.set.now c.requires.set

pub returns-clause-set : goal.returns-clause-set
returns-clause-set g c =
    let f : IsForgetting c.self.inside.letters c.args.self.now = subst (IsForgetting c.self.inside.letters) c.self.view_is c.self.invariant in
    ordered_step c.args.self.now.moves c.args.self.now.track c.args.letter c.args.set.now c.write_targets.new.into.items c.put_in_order.new.list.items f.moves f.track_in c.requires.letter (below_from_proper 0 c.args.self.now.moves.states c.args.set.now c.requires.set) c.in-Ok.ensures c.put_in_order.ensures

pub returns-clause-rising : goal.returns-clause-rising
returns-clause-rising g c =
    let f : IsForgetting c.self.inside.letters c.args.self.now = subst (IsForgetting c.self.inside.letters) c.self.view_is c.self.invariant in
    ordered_proper c.args.self.now.moves c.args.self.now.track c.args.letter c.args.set.now c.write_targets.new.into.items c.put_in_order.new.list.items f.moves f.track_in c.requires.letter (below_from_proper 0 c.args.self.now.moves.states c.args.set.now c.requires.set) c.in-Ok.ensures c.put_in_order.ensures
