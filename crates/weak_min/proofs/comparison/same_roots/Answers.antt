use Rattle.std.proofs.Common.{rules, arith, ap, ◌^◌}
use Rattle.weak_min.proofs.ClassRuns.{few_signs}
use Rattle.weak_min.proofs.Comparing.{equal_roots}
use Rattle.weak_min.proofs.comparison.same_roots.Goals as goal

pub pow-sign-end-requires : goal.pow-sign-end-requires
pow-sign-end-requires c = omega (arith, few_signs c.args.left.now.table.base c.args.left.now.table.tracks c.requires.left.shape.base_low c.requires.left.shape.few_letters, ap (λ n. 2 ^ n) c.tracks.ensures)

pub returns : goal.returns
returns c = (
  λ _. equal_roots c.args.left.now.table c.args.right.now.table c.requires.left c.requires.right c.requires.tracks (λ j lt. c.loop-sign.invariant j (omega (arith, lt, c.loop-sign-test.false, c.pow-sign-end.ensures, ap (λ n. 2 ^ n) c.tracks.ensures))),
  λ _. search rules,
)
