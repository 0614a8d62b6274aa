use Rattle.std.proofs.Common.{rules, arith}
use Rattle.weak_min.proofs.Comparing.{equal_fraction_rows}
use Rattle.weak_min.proofs.comparison.same_fraction_rows.Goals as goal

pub returns : goal.returns
returns c = (
  λ _. equal_fraction_rows c.args.left.now.table c.args.right.now.table c.requires.left c.requires.right c.requires.letters c.requires.states (λ q lt l l_in. c.loop-state.invariant q (omega (arith, lt, c.loop-state-test.false, c.fracs-state-end.ensures)) l l_in),
  λ _. search rules,
)
