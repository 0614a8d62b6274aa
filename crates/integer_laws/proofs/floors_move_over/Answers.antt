use Rattle.integer_laws.proofs.Ring.{floor_below}
use Rattle.integer_laws.proofs.Ring.{below_floor}
use Rattle.integer_laws.proofs.floors_move_over.Goals as goal

pub returns-clause-to_product : goal.returns-clause-to_product
returns-clause-to_product c = floor_below

pub returns-clause-to_floor : goal.returns-clause-to_floor
returns-clause-to_floor c = below_floor
