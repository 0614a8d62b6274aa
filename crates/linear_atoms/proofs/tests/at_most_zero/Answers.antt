use Rattle.std.proofs.Common.{[], ◌∷◌, arith, subst, sym}
use Rattle.std.proofs.Math.IntN.{pos}
use Rattle.lash_model.specs.Formulas.{IsInside, coefficient_sum}
use Rattle.linear_atoms.proofs.tests.at_most_zero.Goals as goal

small : IsInside (record { terms = (0, pos 1) ∷ []; constant = pos 0 })
unfolding coefficient_sum
small = record { coefficients = omega arith; constant = omega arith }

pub atom_real-requires-clause-inside : goal.atom_real-requires-clause-inside
atom_real-requires-clause-inside g c = subst IsInside (sym c.in-Ok.ensures) small
