use Rattle.integer_laws.proofs.Reading.{gain-unroll}
use Rattle.integer_laws.proofs.Reading.{gain-rotate}
use Rattle.integer_laws.proofs.cycles_turn.Goals as goal

pub returns-clause-unroll : goal.returns-clause-unroll
returns-clause-unroll c = gain-unroll

pub returns-clause-rotate : goal.returns-clause-rotate
returns-clause-rotate c = gain-rotate
