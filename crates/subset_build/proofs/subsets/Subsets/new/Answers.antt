use Rattle.std.proofs.Common.{◌^◌, ◌-◌, ◌∙◌, ap}
use Rattle.subset_build.proofs.Closings.{projected}
use Rattle.subset_build.proofs.subsets.Subsets.new.Goals as goal

pub invariant_of-result : goal.invariant_of-result
invariant_of-result g c = projected c.args.table.now.table c.args.track c.args.starts.now c.pow.result c.base-base.result c.tracks-tracks.result c.ints.result (g.C.Cells.items c.rows.result.now) c.new.result
    c.letters-letters.ensures.table
    c.requires.track
    c.requires.starts
    c.new.ensures
    (c.pow.ensures ∙ ap (λ r. r ^ (c.tracks-tracks.result - 1)) c.radix.ensures.value)
    c.base-base.ensures
    c.tracks-tracks.ensures
    c.rows.ensures
    c.ints.ensures
