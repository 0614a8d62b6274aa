use Rattle.std.proofs.Common.{◌-◌, ◌∙◌, IsTrue, ap, sym, subst}
use Rattle.std.specs.Prelude.{All}
use Rattle.lash_model.specs.Tables.{fracs}
use Rattle.subset_build.proofs.Closings.{few_kept_letters}
use Rattle.breakpoint_laws.specs.Breakpoints.{is_key}
use Rattle.breakpoint_build.specs.BreakpointMachines.{Breaking}
use Rattle.breakpoint_build.proofs.MarkedTables.{explored_keys, heavy_keys, some_marks, marked_is}
use Rattle.breakpoint_build.proofs.marked.marked_table.Goals as goal

pub returns-in-Err-Heavy-clause-heavy : goal.returns-in-Err-Heavy-clause-heavy
returns-in-Err-Heavy-clause-heavy g c = λ _. heavy_keys c.new-machine.result c.args.table.now.table c.args.track c.args.limit c.cells.result c.in-Ok.starts
    c.in-Ok-explored_subsets.sets (c.new-machine.ensures ∙ ap (λ s. record { table = c.args.table.now.table; track = s.track; sets = c.in-Ok-explored_subsets.sets }) c.new-steps.ensures) c.cells.ensures
    c.in-Ok.ensures c.in-Ok-explored_subsets.ensures.explored (c.in-Err-Heavy.ensures.heavy c.in-Err-Heavy.field-0-is)

pub of_two_explored-requires-clause-few : goal.of_two_explored-requires-clause-few
of_two_explored-requires-clause-few g c = rw (c.base-2.ensures, c.tracks-tracks.ensures) (few_kept_letters c.args.table.now.table c.letters-letters.ensures.table)

pub of_two_explored-requires-clause-proper : goal.of_two_explored-requires-clause-proper
of_two_explored-requires-clause-proper g c = subst (λ n. All (λ k. IsTrue (is_key n k)) c.in-Ok-explore.keys.keys) (sym c.fracs-states.ensures)
    (subst (λ (b : Breaking). All (λ k. IsTrue (is_key (fracs b.table) k)) c.in-Ok-explore.keys.keys) c.new-machine.ensures c.in-Ok-explore.ensures.explored.proper)

pub returns-in-Ok-of_two_explored-clause-fractions : goal.returns-in-Ok-of_two_explored-clause-fractions
returns-in-Ok-of_two_explored-clause-fractions g c = some_marks c.args.table.now.table c.args.track c.args.limit c.base-2.result (c.tracks-tracks.result - 1)
    c.in-Ok.starts c.in-Ok-explored_subsets.sets c.in-Ok-explore.keys c.in-Ok-of_two_explored.made c.in-Ok.ensures c.in-Ok-explored_subsets.ensures.explored
    (explored_keys c.new-machine.result c.args.table.now.table c.args.track c.args.limit c.cells.result c.in-Ok-explored_subsets.sets c.in-Ok-explore.keys
    (c.new-machine.ensures ∙ ap (λ s. record { table = c.args.table.now.table; track = s.track; sets = c.in-Ok-explored_subsets.sets }) c.new-steps.ensures) c.cells.ensures c.in-Ok-explore.ensures.explored)
    c.in-Ok-of_two_explored.ensures.laid

pub returns-in-Ok-of_two_explored-clause-breakpoints : goal.returns-in-Ok-of_two_explored-clause-breakpoints
returns-in-Ok-of_two_explored-clause-breakpoints g c = marked_is c.args.table.now.table c.args.track c.args.limit c.base-2.result (c.tracks-tracks.result - 1)
    c.in-Ok.starts c.in-Ok-explored_subsets.sets c.in-Ok-explore.keys c.in-Ok-of_two_explored.made c.in-Ok.ensures c.in-Ok-explored_subsets.ensures.explored
    (explored_keys c.new-machine.result c.args.table.now.table c.args.track c.args.limit c.cells.result c.in-Ok-explored_subsets.sets c.in-Ok-explore.keys
    (c.new-machine.ensures ∙ ap (λ s. record { table = c.args.table.now.table; track = s.track; sets = c.in-Ok-explored_subsets.sets }) c.new-steps.ensures) c.cells.ensures c.in-Ok-explore.ensures.explored)
    c.base-2.ensures (ap (λ n. n - 1) c.tracks-tracks.ensures) c.in-Ok-of_two_explored.ensures.laid
