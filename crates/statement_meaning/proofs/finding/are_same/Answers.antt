use Rattle.statement_meaning.proofs.SortLists.{lengths_differ}
use Rattle.statement_meaning.proofs.finding.are_same.Goals as goal

pub returns-then-left-right : goal.returns-then-left-right
returns-then-left-right c = lengths_differ c.args.left.now c.args.right.now c.if-left-right.true
