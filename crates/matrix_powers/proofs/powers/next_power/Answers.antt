use Rattle.std.proofs.Common.{arith}
use Rattle.matrix_powers.proofs.Searching.{next_of_powers}
use Rattle.matrix_powers.proofs.powers.next_power.Goals as goal

pub returns-in-Ok : goal.returns-in-Ok
returns-in-Ok c = next_of_powers _ c.index-powers-powers.result _ c.args.powers.now _ c.requires (omega (arith, c.requires.some)) c.index-powers-powers.is c.in-Ok.ensures
