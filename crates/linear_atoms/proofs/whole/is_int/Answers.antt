use Rattle.std.proofs.Common.{arith, subst}
use Rattle.lasso_laws.proofs.WholeTables.{whole_stands, whole_weak}
use Rattle.part_laws.specs.Graphs.{IsWeak}
use Rattle.part_laws.specs.CanonicalMixed.{fraction_graph}
use Rattle.linear_atoms.proofs.WholeFilling.{whole_shape, whole_letters}
use Rattle.linear_atoms.proofs.whole.is_int.Goals as goal

pub blank-requires : goal.blank-requires
blank-requires c = record { shape = whole_shape c.args.base c.radix.ensures.low c.radix.ensures.high }

pub returns-clause-stands : goal.returns-clause-stands
returns-clause-stands c = whole_stands c.args.base 1 0 c.colour.new.table.table c.radix.ensures.low (omega arith) c.colour.ensures.whole

pub returns-clause-weak : goal.returns-clause-weak
returns-clause-weak c = subst (λ w. IsWeak w (fraction_graph c.colour.new.table.table)) (whole_letters c.args.base c.colour.new.table.table c.colour.ensures.whole)
    (whole_weak c.args.base 1 0 c.colour.new.table.table c.colour.ensures.whole)
