use Rattle.components.proofs.tests.are_ranks.Goals as goal

pub ranks_of-requires-clause-weak : goal.ranks_of-requires-clause-weak
ranks_of-requires-clause-weak c = (c.is_weak.ensures c.args.rows.now c.args.letters c.in_ok-found.ensures).0 c.if-not-is_weak.false

pub rank_colours-requires-clause-weak : goal.rank_colours-requires-clause-weak
rank_colours-requires-clause-weak c = (c.is_weak.ensures c.args.rows.now c.args.letters c.in_ok-found.ensures).0 c.if-not-is_weak.false
