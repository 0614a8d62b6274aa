-- A place that is below the bound and not in the set is put behind the others.
use Rattle.std.proofs.Common.{arith, sym, ap, ◌∙◌, nat_eq}
use Rattle.std.specs.List.{list_any}
use Rattle.formula_core.proofs.Gathering.{with_fresh, member_turned}
use Rattle.formula_core.proofs.place_set.PlaceSet.with_place.Goals as goal

pub returns : goal.returns
returns c test n e h = with_fresh test n c.args.place c.args.self c.pushed.result h (omega (arith, e)) (sym (member_turned c.args.place c.args.self) ∙ ap (list_any (λ y. nat_eq y c.args.place)) (sym c.as_slice.ensures) ∙ sym c.contains.ensures.value ∙ c.if-contains.false) c.pushed.ensures
