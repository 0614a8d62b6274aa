use Rattle.matrix_powers.proofs.Raising.{base_small}
use Rattle.matrix_powers.proofs.orbit.powers_upto.Goals as goal

pub first_power-requires : goal.first_power-requires
first_power-requires c = base_small c.args.matrix.now c.args.power c.requires.some c.requires.power
