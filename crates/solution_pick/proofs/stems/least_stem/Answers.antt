-- The least path to the first position of a looping state of colour yes has the least stem.
use Rattle.std.proofs.Common.{sym, subst}
use Rattle.graph_laws.specs.Exploring.{KeyTable}
use Rattle.least_paths.specs.Nets.{IsOrdered, found_net}
use Rattle.least_paths.specs.Arrivals.{IsLeastTo}
use Rattle.least_paths.proofs.StateWalks.{found_ordered}
use Rattle.solution_pick.proofs.FixedSolutions.{path, from_one, no_stem, least_stem}
use Rattle.solution_pick.proofs.stems.least_stem.Goals as goal

pub returns-in-None-clause-none : goal.returns-in-None-clause-none
returns-in-None-clause-none c = no_stem c.args.table.now.table c.args.state c.in-Ok.found c.in-Ok.ensures c.in-None.ensures.none

pub least_path-requires-clause-ordered : goal.least_path-requires-clause-ordered
least_path-requires-clause-ordered c = subst (λ (k : KeyTable). IsOrdered (found_net k)) (sym c.new.ensures)
    (found_ordered (from_one c.args.table.now.table c.args.state) 16777216 c.in-Ok.found c.in-Ok.ensures)

pub returns-in-Ok-least_path-clause-least : goal.returns-in-Ok-least_path-clause-least
returns-in-Ok-least_path-clause-least c =
    let trail = c.in-Ok-least_path.trail in
    least_stem c.args.table.now.table c.args.state c.in-Ok.found c.in-Ok.ensures c.in-Some.at trail.start trail.letters.items c.in-Some.ensures.some
    (subst (λ (k : KeyTable). IsLeastTo (found_net k) c.in-Some.at (path trail.start trail.letters.items)) c.new.ensures c.in-Ok-least_path.ensures)
