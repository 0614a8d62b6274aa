use Rattle.std.proofs.Common.{◌-◌, ◌<◌, ◌≤◌, ℕ, List, length, slice_index, arith, refl, sym, ap, subst}
use Rattle.std.proofs.lemmas.Bool.{false≢true}
use Rattle.components.specs.Rankings.{DoAgree}
use Rattle.components.proofs.Weakness.{weak_agree, agree_more, agree_weak}
use Rattle.components.proofs.ranking.is_weak.Goals as goal

pub returns-then-not-agree : goal.returns-then-not-agree
returns-then-not-agree c = λ rows width parts.
    let n = length c.args.colours.now in
    let p = c.args.parts.now in
    let listed = c.states-states.ensures in
    let i = c.loop-at.at in
    let low : i < n = omega (arith, c.loop-at-test.true, ap length listed, c.requires.order.long) in (
      (λ e. absurd (false≢true e)),
      (λ weak. absurd (c.agree.ensures.differ c.if-not-agree.true
          (subst (λ (xs : List ℕ). DoAgree c.args.colours.now p (slice_index xs (i - 1)) (slice_index xs i)) (sym listed)
          (weak_agree rows width c.args.colours.now p parts weak (slice_index p.order (i - 1)) (slice_index p.order i)
          (c.requires.order.below (i - 1) (omega (arith, low))) (c.requires.order.below i low))))),
    )

pub loop-at-preserved : goal.loop-at-preserved
loop-at-preserved c =
    let n = length c.args.colours.now in
    let p = c.args.parts.now in
    let listed = c.states-states.ensures in
    let i = c.loop-at.at in
    let low : i < n = omega (arith, c.loop-at-test.true, ap length listed, c.requires.order.long) in
    agree_more n c.args.colours.now p i c.requires.order (omega (arith, c.loop-at.auto.at)) low
    (subst (λ (xs : List ℕ). DoAgree c.args.colours.now p (slice_index xs (i - 1)) (slice_index xs i)) listed (c.agree.ensures.agree c.if-not-agree.false))
    c.loop-at.invariant

pub returns : goal.returns
returns c = λ rows width parts.
    let n = length c.args.colours.now in
    let whole : n ≤ c.loop-at.at = omega (arith, c.loop-at-test.false, ap length c.states-states.ensures, c.requires.order.long) in (
      (λ e. agree_weak rows width c.args.colours.now c.args.parts.now parts (λ j k less lt. c.loop-at.invariant j k less (omega (arith, lt, whole)))),
      (λ weak. refl),
    )
