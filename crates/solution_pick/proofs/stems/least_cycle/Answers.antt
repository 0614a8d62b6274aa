-- The least path from the targets of the state to its first position is the least cycle without its first letter.
use Rattle.std.proofs.Common.{ℕ, List, ◌∷◌, length, arith, ◌∙◌, sym, ap, subst}
use Rattle.graph_laws.specs.Exploring.{KeyTable, IsExplored}
use Rattle.least_paths.specs.Nets.{IsOrdered, found_net}
use Rattle.least_paths.specs.Arrivals.{IsLeastTo}
use Rattle.solution_pick.specs.FractionSolutions.{IsLeastCycle}
use Rattle.least_paths.specs.Searches.{row_steps}
use Rattle.solution_pick.specs.FractionSearches.{frac_net}
use Rattle.least_paths.proofs.StateWalks.{found_ordered}
use Rattle.solution_pick.proofs.FixedSolutions.{path, cycle_somewhere, least_cycle}
use Rattle.solution_pick.proofs.stems.least_cycle.Goals as goal

pub explored_from-requires-clause-few : goal.explored_from-requires-clause-few
explored_from-requires-clause-few c =
    omega (arith, ap length c.as_slice.ensures.value, c.in-Ok.ensures.targets.count, c.letters-width.ensures.table.shape.few_letters)

pub unreachable-requires : goal.unreachable-requires
unreachable-requires c =
    let table = c.args.table.now.table in
    let found = c.in-Ok-explored_from.found in
    let explored : IsExplored (row_steps (frac_net table c.in-Ok.targets.items)) 16777216 found =
    subst (λ (xs : List ℕ). IsExplored (row_steps (frac_net table xs)) 16777216 found) c.as_slice.ensures.value
    c.in-Ok-explored_from.ensures in
    cycle_somewhere table c.args.state c.in-Ok.targets.items found explored c.in-Ok.ensures.targets c.requires.looping c.in-None.ensures.none

pub least_path-requires-clause-ordered : goal.least_path-requires-clause-ordered
least_path-requires-clause-ordered c = subst (λ (k : KeyTable). IsOrdered (found_net k)) (sym c.new.ensures)
    (found_ordered (frac_net c.args.table.now.table c.as_slice.result.now) 16777216 c.in-Ok-explored_from.found
    c.in-Ok-explored_from.ensures)

pub returns-in-Ok-with_front : goal.returns-in-Ok-with_front
returns-in-Ok-with_front c =
    let table = c.args.table.now.table in
    let found = c.in-Ok-explored_from.found in
    let trail = c.in-Ok-least_path.trail in
    let explored : IsExplored (row_steps (frac_net table c.in-Ok.targets.items)) 16777216 found =
    subst (λ (xs : List ℕ). IsExplored (row_steps (frac_net table xs)) 16777216 found) c.as_slice.ensures.value
    c.in-Ok-explored_from.ensures in
    subst (λ (w : List ℕ). IsLeastCycle table c.args.state w)
    (sym (c.in-Ok-with_front.ensures ∙ ap (λ (w : List ℕ). trail.start ∷ w) c.as_slice-2.ensures.value))
    (least_cycle table c.args.state c.in-Ok.targets.items found explored c.in-Ok.ensures.targets c.in-Some.at trail.start trail.letters.items
    c.in-Some.ensures.some
    (subst (λ (k : KeyTable). IsLeastTo (found_net k) c.in-Some.at (path trail.start trail.letters.items)) c.new.ensures c.in-Ok-least_path.ensures))
