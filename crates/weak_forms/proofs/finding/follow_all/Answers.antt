use Rattle.std.proofs.Common.{ap, length, arith}
use Rattle.weak_forms.specs.Finding.{Placement}
use Rattle.weak_forms.proofs.Meeting.{few_found}
use Rattle.weak_forms.proofs.finding.follow_all.Goals as goal

pub loop-at-smaller : goal.loop-at-smaller
loop-at-smaller g c = omega (
  arith,
  few_found c.loop-at.found.order c.loop-at.places.items c.loop-at.invariant.2,
  c.loop-at.invariant.1,
  c.loop-at-test.true,
  c.len.ensures,
  ap (λ (p : Placement). length p.order) c.found.view_is,
)
