use Rattle.std.proofs.Common.{arith, ◌-◌, ◌∙◌, ap}
use Rattle.step_tables.specs.Kept.{Kept}
use Rattle.lash_model.specs.Sets.{set_of}
use Rattle.subset_build.proofs.Closings.{few_kept_letters}
use Rattle.subset_build.proofs.LayingOut.{starts_of, set_table}
use Rattle.subset_build.proofs.SetRuns.{accepts_some}
use Rattle.subset_build.proofs.Binding.{projection_stands}
use Rattle.subset_build.proofs.projection.project_int.Goals as goal

pub of_explored-requires-clause-few : goal.of_explored-requires-clause-few
of_explored-requires-clause-few g c = rw (c.base.ensures, c.tracks.ensures) (few_kept_letters c.args.table.now.table c.letters-letters.ensures.table)

pub of_explored-requires-clause-width : goal.of_explored-requires-clause-width
of_explored-requires-clause-width g c = rw (c.base.ensures, c.tracks.ensures) c.in-Ok-explored_subsets.ensures.explored.width

pub of_explored-requires-clause-starts : goal.of_explored-requires-clause-starts
of_explored-requires-clause-starts g c = rw c.tracks.ensures (starts_of c.args.table.now.table c.args.track c.args.limit c.in-Ok.starts c.in-Ok-explored_subsets.found c.in-Ok.ensures c.in-Ok-explored_subsets.ensures.explored)

pub of_explored-requires-clause-cells : goal.of_explored-requires-clause-cells
of_explored-requires-clause-cells g c = omega (arith, c.in-Ok-explored_subsets.ensures.explored.within, c.requires.limit)

pub returns-in-Ok-of_explored-clause-subsets : goal.returns-in-Ok-of_explored-clause-subsets
returns-in-Ok-of_explored-clause-subsets g c = set_table c.args.table.now.table c.args.track c.args.limit c.base.result (c.tracks.result - 1) c.in-Ok.starts c.in-Ok-explored_subsets.found c.in-Ok-of_explored.made c.in-Ok.ensures c.in-Ok-explored_subsets.ensures.explored c.in-Ok-of_explored.ensures.laid

pub returns-in-Ok-of_explored-clause-words : goal.returns-in-Ok-of_explored-clause-words
returns-in-Ok-of_explored-clause-words g c =
    accepts_some c.args.table.now.table c.args.track c.args.limit c.in-Ok-of_explored.made.table c.letters-letters.ensures.table c.requires.track
    (set_table c.args.table.now.table c.args.track c.args.limit c.base.result (c.tracks.result - 1) c.in-Ok.starts c.in-Ok-explored_subsets.found c.in-Ok-of_explored.made c.in-Ok.ensures c.in-Ok-explored_subsets.ensures.explored c.in-Ok-of_explored.ensures.laid)
    (ap (λ (v : Kept). v.table.base) c.in-Ok-of_explored.ensures.laid ∙ c.base.ensures)
    (ap (λ (v : Kept). v.table.tracks) c.in-Ok-of_explored.ensures.laid ∙ ap (λ n. n - 1) c.tracks.ensures)

pub returns-in-Ok-of_explored-clause-stands : goal.returns-in-Ok-of_explored-clause-stands
returns-in-Ok-of_explored-clause-stands g c = λ f s.
    let base = ap (λ (v : Kept). v.table.base) c.in-Ok-of_explored.ensures.laid ∙ c.base.ensures in
    let tracks = ap (λ (v : Kept). v.table.tracks) c.in-Ok-of_explored.ensures.laid ∙ ap (λ n. n - 1) c.tracks.ensures in
    projection_stands c.args.table.now.table c.args.track c.in-Ok-of_explored.made.table (set_of f s) c.letters-letters.ensures.table c.requires.track
    (ap (λ (v : Kept). v.table.colours) c.in-Ok-of_explored.ensures.laid)
    base
    tracks
    (accepts_some c.args.table.now.table c.args.track c.args.limit c.in-Ok-of_explored.made.table c.letters-letters.ensures.table c.requires.track
    (set_table c.args.table.now.table c.args.track c.args.limit c.base.result (c.tracks.result - 1) c.in-Ok.starts c.in-Ok-explored_subsets.found c.in-Ok-of_explored.made c.in-Ok.ensures c.in-Ok-explored_subsets.ensures.explored c.in-Ok-of_explored.ensures.laid)
    base
    tracks)
