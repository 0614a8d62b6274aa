use Rattle.std.proofs.Common.{rules}
use Rattle.breakpoint_build.proofs.keys.begin_key.Goals as goal

pub overflow_cast-states : goal.overflow_cast-states
overflow_cast-states c = search (rules, c.requires)
