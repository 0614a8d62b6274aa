use Rattle.std.proofs.Common.{ℕ, ◌<◌, List, length, slice_index}
use Rattle.std.proofs.lemmas.Result.{IfOk-weaker}
use Rattle.part_laws.specs.Graphs.{Graph}
use Rattle.part_laws.specs.Ranks.{IsRank}
use Rattle.part_laws.specs.Parts.{AreRanks}
use Rattle.components.proofs.Colouring.{each_rank}
use Rattle.components.proofs.ranking.ranks_of.Goals as goal

pub returns-clause-each : goal.returns-clause-each
returns-clause-each c =
    let g : Graph = record { rows = c.args.rows.now; colours = c.args.colours.now } in
    let By : List ℕ → Type 0 = λ ranks. AreRanks c.args.letters g c.args.parts.now.numbers ranks in
    let Each : List ℕ → Type 0 = λ ranks. (q : ℕ) → q < length c.args.colours.now → IsRank c.args.letters g q (slice_index ranks q) in
    IfOk-weaker c.ranks_by_parts.result (λ v. By v.items) (λ v. Each v.items)
    (λ v by. each_rank c.args.rows.now c.args.letters c.args.colours.now c.requires.rows c.requires.targets c.requires.colours c.args.parts.now
    c.requires.parts v.items by) c.ranks_by_parts.ensures
