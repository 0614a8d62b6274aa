use Rattle.std.proofs.Common.{◌≡◌, ◌^◌, ◌<◌, ℕ, zero, suc, List, [], ◌∷◌, length, arith, subst, sym}
use Rattle.std.proofs.Math.IntN.{ℤ, pos}
use Rattle.std.specs.Prelude.{All}
use Rattle.lash_model.specs.Formulas.{Linear, IsInside, coefficient_sum}
use Rattle.linear_atoms.proofs.tests.at_most_three.Goals as goal

small : IsInside (record { terms = (0, pos 1) ∷ []; constant = pos 3 })
unfolding coefficient_sum
small = record { coefficients = omega arith; constant = omega arith }

one_place : All (λ (t : ℕ × ℤ). t.0 < 1) ((0, pos 1) ∷ [])
one_place zero d lt = omega arith
one_place (suc k) d lt = absurd (omega (arith, lt))

pub atom_int-requires-clause-places : goal.atom_int-requires-clause-places
atom_int-requires-clause-places g c = subst (λ (a : Linear). All (λ (t : ℕ × ℤ). t.0 < 1) a.terms) (sym c.in-Ok.ensures) one_place

pub atom_int-requires-clause-inside : goal.atom_int-requires-clause-inside
atom_int-requires-clause-inside g c = subst IsInside (sym c.in-Ok.ensures) small

pub atom_int-requires-2-clause-places : goal.atom_int-requires-2-clause-places
atom_int-requires-2-clause-places g c = subst (λ (a : Linear). All (λ (t : ℕ × ℤ). t.0 < 1) a.terms) (sym c.in-Ok.ensures) one_place

pub atom_int-requires-2-clause-inside : goal.atom_int-requires-2-clause-inside
atom_int-requires-2-clause-inside g c = subst IsInside (sym c.in-Ok.ensures) small
