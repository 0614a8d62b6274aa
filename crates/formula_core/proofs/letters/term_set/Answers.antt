-- The places of the terms are put in one by one.
use Rattle.std.proofs.Common.{ℕ, ℤ, List, ◌+◌, None, Some, take, length, pos, arith, false, sym, ap, subst}
use Rattle.formula_core.specs.Marks.{appears}
use Rattle.formula_core.specs.PlaceSets.{IsSetOf, Gathers}
use Rattle.formula_core.proofs.Gathering.{no_places}
use Rattle.formula_core.proofs.Walking.{terms_more, terms_none, terms_all}
use Rattle.formula_core.proofs.letters.term_set.Goals as goal

pub loop-place-init : goal.loop-place-init
loop-place-init c n e = subst (IsSetOf (λ k. false) n) (sym c.empty-set.ensures) (no_places n)

pub returns-in-None : goal.returns-in-None
returns-in-None c n e =
    let ts = c.terms-place-items.result.now in
    let more = terms_more n ts c.loop-place.place-index (0, pos 0) None c.loop-place-test.true (c.in-None.ensures (λ k. appears k (take c.loop-place.place-index ts)) n e (c.loop-place.invariant n e)) in
    let P : List (ℕ × ℤ) → Type 0 = λ ts. Gathers (λ k. appears k (take (c.loop-place.place-index + 1) ts)) n None in
    terms_none c.args.term.now n (c.loop-place.place-index + 1) c.terms-place-items.ensures.linear (subst P c.terms-place-items.ensures.terms more)

pub loop-place-preserved : goal.loop-place-preserved
loop-place-preserved c n e =
    let ts = c.terms-place-items.result.now in
    terms_more n ts c.loop-place.place-index (0, pos 0) (Some c.in-Some.more) c.loop-place-test.true (c.in-Some.ensures (λ k. appears k (take c.loop-place.place-index ts)) n e (c.loop-place.invariant n e))

pub returns : goal.returns
returns c n e =
    let P : List (ℕ × ℤ) → Type 0 = λ ts. IsSetOf (λ k. appears k (take c.loop-place.place-index ts)) n c.loop-place.set in
    terms_all c.args.term.now n c.loop-place.place-index c.loop-place.set c.terms-place-items.ensures.linear (omega (arith, ap length c.terms-place-items.ensures.terms)) (subst P c.terms-place-items.ensures.terms (c.loop-place.invariant n e))
