use Rattle.std.proofs.Common.{◌≡◌, ◌≤◌, ◌<◌, ◌^◌, ℕ, List, length, arith, subst, sym, ◌∙◌, unsigned_abs}
use Rattle.std.proofs.Math.IntN.{ℤ, pos}
use Rattle.std.proofs.lemmas.List.{get_or_default}
use Rattle.matrix_powers.specs.Orbits.{IsShift, at_row}
use Rattle.loop_closure.proofs.tests.is_shift.Goals as goal

small_shift : (side : ℕ) (shift : List ℤ) → length shift ≡ side → ((row : ℕ) → row < side → unsigned_abs (at_row shift row) ≤ 2 ^ 40) → IsShift side shift
small_shift side shift e h = record {
  whole = e;
  small = λ k d lt. subst (λ b. unsigned_abs b ≤ 2 ^ 40) (get_or_default shift k (pos 0) d lt) (h k (omega (arith, lt, e)));
}

pub returns : goal.returns
returns c = λ _. small_shift c.args.side c.args.shift.now (sym c.side.ensures.value ∙ c.if-side.false) (λ row lt. c.loop-row.invariant row (omega (arith, lt, c.loop-row-test.false)))
