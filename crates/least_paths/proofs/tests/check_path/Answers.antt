use Rattle.std.proofs.Common.{[], ◌∷◌, sym, subst}
use Rattle.graph_laws.specs.Exploring.{KeyTable}
use Rattle.least_paths.specs.Nets.{IsOrdered, found_net}
use Rattle.least_paths.proofs.StateWalks.{found_ordered}
use Rattle.least_paths.proofs.tests.check_path.Goals as goal

pub least_path-requires-clause-ordered : goal.least_path-requires-clause-ordered
least_path-requires-clause-ordered g c = subst (λ (k : KeyTable). IsOrdered (found_net k)) (sym c.new.ensures)
    (found_ordered (record { starts = 2 ∷ 0 ∷ []; rows = 1 ∷ 2 ∷ 3 ∷ 1 ∷ 3 ∷ 4 ∷ 0 ∷ 3 ∷ 4 ∷ 4 ∷ 5 ∷ 5 ∷ []; width = 2; states = 6 }) 16777216
    c.in_ok-found.found c.in_ok-found.ensures)
