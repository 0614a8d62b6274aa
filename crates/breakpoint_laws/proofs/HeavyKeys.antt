-- Too heavy and within the limit exclude each other.
use Rattle.std.proofs.Common.{ℕ, subst}
use Rattle.graph_laws.specs.Exploring.{IsHeavyInTwo}
use Rattle.graph_laws.proofs.Weighing.{not_in_two}
use Rattle.lash_model.specs.Tables.{Table}
use Rattle.subset_build.specs.Projection.{int_transitions, subsets}
use Rattle.subset_build.proofs.Uniqueness.{one_list_of_starts}
use Rattle.breakpoint_laws.specs.Breakpoints.{breakpoints, entry_key, IsBreakpointTable, IsHeavyRealProjection}

pub not_heavy_with_keys : (t u : Table) (track limit : ℕ) → IsHeavyRealProjection t track limit → IsBreakpointTable t track limit u → ⊥
not_heavy_with_keys t u track limit h e =
    not_in_two (subsets (int_transitions t) track e.sets) (entry_key t) (breakpoints t track) limit e.found e.keys
    (subst (λ xs. IsHeavyInTwo (subsets (int_transitions t) track xs) (entry_key t) (breakpoints t track) limit)
    (one_list_of_starts t track h.sets e.sets h.are_starts e.are_starts) h.heavy) e.explored
