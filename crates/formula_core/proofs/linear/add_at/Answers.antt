-- The edit at the place that was found is the addition.
use Rattle.std.proofs.Common.{◌≡◌, ◌<◌, ℕ, ℤ, List, length, sym, ◌∙◌, ap, subst, get_or, pos}
use Rattle.std.proofs.lemmas.Int.{to_z-of_z}
use Rattle.std.proofs.lemmas.Bool.{iff_false}
use mir.Syntax.{w128}
use Rattle.formula_core.specs.Terms.{with_sum, IsPlaceOf}
use Rattle.formula_core.proofs.Adding.{added_new, added_there, coefficient_there}
use Rattle.formula_core.proofs.linear.add_at.Goals as goal

-- the term at a place of the list has the variable's place
HasPlace : ℕ → ℕ → List (ℕ × ℤ) → Type 0
HasPlace at place ts = (at < length ts) × ((get_or ts at (0, pos 0)).0 ≡ place)

pub put_sum-requires-clause-fits : goal.put_sum-requires-clause-fits
unfolding HasPlace
put_sum-requires-clause-fits c =
    let here : IsPlaceOf c.args.terms.now.items c.args.place c.find_place-at.result = subst (λ ts. IsPlaceOf ts c.args.place c.find_place-at.result) c.deref.ensures.value c.find_place-at.ensures in
    let has : HasPlace c.find_place-at.result c.args.place c.args.terms.now.items = subst (HasPlace c.find_place-at.result c.args.place) c.deref-2.ensures.value (c.has_place.ensures.0 c.if-has_place.true) in
    let same = to_z-of_z w128 c.args.coefficient c.ranges.coefficient in
    let there = coefficient_there _ _ _ here has.0 has.1 in
    rw same (rw there at c.requires.fits)

pub returns-then-has_place-clause-added : goal.returns-then-has_place-clause-added
unfolding HasPlace
returns-then-has_place-clause-added c =
    let here : IsPlaceOf c.args.terms.now.items c.args.place c.find_place-at.result = subst (λ ts. IsPlaceOf ts c.args.place c.find_place-at.result) c.deref.ensures.value c.find_place-at.ensures in
    let has : HasPlace c.find_place-at.result c.args.place c.args.terms.now.items = subst (HasPlace c.find_place-at.result c.args.place) c.deref-2.ensures.value (c.has_place.ensures.0 c.if-has_place.true) in
    c.put_sum.ensures ∙ ap (with_sum c.args.terms.now.items c.find_place-at.result) (to_z-of_z w128 c.args.coefficient c.ranges.coefficient) ∙ sym (added_there _ _ _ c.args.coefficient here has.0 has.1)

pub returns-else-has_place-clause-added : goal.returns-else-has_place-clause-added
unfolding HasPlace
returns-else-has_place-clause-added c =
    let here : IsPlaceOf c.args.terms.now.items c.args.place c.find_place-at.result = subst (λ ts. IsPlaceOf ts c.args.place c.find_place-at.result) c.deref.ensures.value c.find_place-at.ensures in
    let free : HasPlace c.find_place-at.result c.args.place c.args.terms.now.items → ⊥ = subst (λ ts. HasPlace c.find_place-at.result c.args.place ts → ⊥) c.deref-2.ensures.value (iff_false c.has_place.ensures c.if-has_place.false) in
    rw (added_new c.args.terms.now.items c.args.place c.find_place-at.result c.args.coefficient here free) (rw (to_z-of_z w128 c.args.coefficient c.ranges.coefficient) at c.put_new.ensures.put)
