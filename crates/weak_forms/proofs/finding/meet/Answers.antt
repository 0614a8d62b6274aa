use Rattle.std.proofs.Common.{length, ap, arith, refl}
use Rattle.weak_forms.specs.Finding.{Placement}
use Rattle.weak_forms.proofs.Meeting.{few_found, meets_known, meets_new}
use Rattle.weak_forms.proofs.finding.meet.Goals as goal

pub returns-in-Some-clause-met : goal.returns-in-Some-clause-met
returns-in-Some-clause-met c = meets_known c.args.found.now c.args.state c.in-Some.place c.in-Some.ensures.inside c.in-Some.ensures.here

pub overflow_cast-place : goal.overflow_cast-place
overflow_cast-place c = omega (
  arith,
  few_found c.args.found.now.order c.args.places.now.items c.requires.places,
  c.requires.places.few,
  c.len-place.ensures,
  ap (λ (p : Placement). length p.order) c.found.view_is,
)

pub returns-clause-met : goal.returns-clause-met
returns-clause-met c =
    let none = rw (← c.found.view_is) at c.in-None.ensures.none in
    rw (← c.found.view_is) (meets_new _ _ c.args.state c.len-place.result none (omega (arith, c.len-place.ensures)) c.in-Ok.ensures.items refl refl refl)
