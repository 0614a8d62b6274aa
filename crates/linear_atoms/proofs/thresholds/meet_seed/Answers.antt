use Rattle.std.proofs.Common.{rules, ◌≡◌, ◌∙◌, ℕ, ℤ, List, length}
use Rattle.linear_atoms.specs.Closing.{entry}
use Rattle.linear_atoms.proofs.Searching.{starting_more, starting_overfull, small_met}
use Rattle.linear_atoms.proofs.thresholds.meet_seed.Goals as goal

pub returns-in-Ok-clause-starting : goal.returns-in-Ok-clause-starting
returns-in-Ok-clause-starting c = λ base totals s. starting_more base totals c.args.seeds.now c.args.found.now.keys c.meet.new.found.keys c.args.at s c.requires.at (search rules) c.in-Ok.ensures.met

pub returns-in-Ok-clause-small : goal.returns-in-Ok-clause-small
returns-in-Ok-clause-small c = small_met c.args.found.now.keys c.meet.new.found.keys (entry c.args.seeds.now c.args.at) c.requires.small (search rules) c.in-Ok.ensures.met

pub returns-in-Err-clause-heavy : goal.returns-in-Err-clause-heavy
returns-in-Err-clause-heavy c = λ e base totals s. starting_overfull base totals c.args.seeds.now c.args.found.now.keys c.args.at c.args.room s c.requires.at (c.in-Err.ensures.fresh e) (c.in-Err.ensures.full e)
