use Rattle.std.proofs.Common.{arith}
use Rattle.packed_cells.proofs.Leading.{leading-holds, leading-least}
use Rattle.packed_cells.proofs.least.least_bits.Goals as goal

pub returns-clause-holds : goal.returns-clause-holds
returns-clause-holds c = leading-holds c.args.number (omega (arith, c.if-number-eq0.false)) c.ranges.number.fits

pub returns-clause-least : goal.returns-clause-least
returns-clause-least c = λ bits some below. leading-least c.args.number (omega (arith, c.if-number-eq0.false)) c.ranges.number.fits bits below
