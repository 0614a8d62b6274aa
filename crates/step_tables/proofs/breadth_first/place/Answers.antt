use Rattle.std.proofs.Common.{refl}
use Rattle.step_tables.proofs.Placing.{found_at}
use Rattle.step_tables.proofs.breadth_first.place.Goals as goal

pub returns-in-Some-clause-keys : goal.returns-in-Some-clause-keys
returns-in-Some-clause-keys g c = rw (found_at c.args.key.now.items c.args.found.now.keys c.in-Some.place c.in-Some.ensures.place) refl

pub returns-in-Some-clause-cells : goal.returns-in-Some-clause-cells
returns-in-Some-clause-cells g c = rw (found_at c.args.key.now.items c.args.found.now.keys c.in-Some.place c.in-Some.ensures.place) refl
