-- The set of all values of its variables can be kept.
use Rattle.std.proofs.Common.{◌≡◌, ℕ, ◌≤◌, List, [], length, arith, subst, sym}
use Rattle.std.proofs.Math.IntN.{ℤ, pos}
use Rattle.lash_model.specs.Formulas.{Sort, Linear, Formula, AtMost, Atom, coefficient_sum}
use Rattle.script_names.specs.Kept.{KeptSet, IsKept}

all_kept : (name : List ℕ) (vars : List (List ℕ × Sort)) → length vars ≤ 1 → IsKept (record { name = name; vars = vars; formula = Atom AtMost (record { terms = []; constant = pos 0 }) })
unfolding coefficient_sum
all_kept name vars few = record {
  few = omega (arith, few);
  over = record { places = λ k d lt. absurd (omega (arith, lt)); inside = record { coefficients = omega arith; constant = omega arith } };
  nodes = omega arith;
  depth = omega arith;
}

pub truth_kept : (name : List ℕ) (vars : List (List ℕ × Sort)) (a : Linear) → a ≡ record { terms = []; constant = pos 0 } → length vars ≤ 1 → IsKept (record { name = name; vars = vars; formula = Atom AtMost a })
truth_kept name vars a is few = subst (λ b. IsKept (record { name = name; vars = vars; formula = Atom AtMost b })) (sym is) (all_kept name vars few)
