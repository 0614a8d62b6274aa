use Rattle.components.proofs.Colouring.{recoloured_by_rank}
use Rattle.components.proofs.ranking.rank_colours.Goals as goal

pub returns : goal.returns
returns c = recoloured_by_rank c.args.rows.now c.args.letters c.args.colours.now c.requires.rows c.requires.targets c.requires.colours c.args.parts.now
    c.requires.parts c.in_ok-ranks.ranks.items c.in_ok-ranks.ensures c.put_parities.new.ranks.items c.put_parities.ensures
