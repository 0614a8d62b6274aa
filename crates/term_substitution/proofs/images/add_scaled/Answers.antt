use Rattle.std.proofs.Common.{rules, pos, refl, sym, ap, ◌∙◌, subst, ◌≤◌, ◌<◌, ◌^◌, ◌≡◌, ◌+◌, drop, get_or, unsigned_abs}
use Rattle.std.specs.List.{All, AllPairs}
use Rattle.std.proofs.Math.IntN.{◌*ℤ◌}
use Rattle.std.proofs.lemmas.Int.{to_z-of_z}
use mir.Val.{SFits}
use mir.Syntax.{w128}
use Rattle.formula_core.specs.Terms.{added}
use Rattle.term_substitution.proofs.Adding.{IsAdding, adding_begins, adding_fits, adding_next}
use Rattle.term_substitution.proofs.images.add_scaled.Goals as goal

pub loop-part-init : goal.loop-part-init
loop-part-init c =
    let is = c.terms-part-items.ensures.terms in (
      adding_begins c.args.variable.now.1 c.args.atom.now.terms c.terms-part-items.result.now
          (subst (AllPairs (λ s t. s.0 < t.0)) (sym is) c.terms-part-items.ensures.linear.rising)
          (subst (All (λ t. unsigned_abs t.1 ≤ 2 ^ 88)) (sym is) c.requires.coefficients),
      refl,
    )

pub add-requires : goal.add-requires
add-requires c =
    let fits : SFits w128 c.product.result = search rules in
    rw (to_z-of_z w128 c.product.result fits) (rw c.product.ensures.value
    (adding_fits c.args.variable.now.1 c.args.atom.now.terms c.terms-part-items.result.now c.loop-part.atom.terms c.loop-part.part-index (0, pos 0) c.loop-part-test.true c.loop-part.invariant.0 c.requires.light))

pub loop-part-preserved : goal.loop-part-preserved
loop-part-preserved c =
    let fits : SFits w128 c.product.result = search rules in
    let part = get_or c.terms-part-items.result.now c.loop-part.part-index (0, pos 0) in
    let is : c.add.new.self.terms ≡ added c.loop-part.atom.terms part.0 (c.args.variable.now.1 *ℤ part.1) =
    ap (λ a. a.terms) c.in-Ok.ensures.terms ∙ ap (λ x. added c.loop-part.atom.terms part.0 x) (to_z-of_z w128 c.product.result fits ∙ c.product.ensures.value) in (
      subst (λ us. IsAdding c.args.variable.now.1 c.args.atom.now.terms c.terms-part-items.result.now us (drop (c.loop-part.part-index + 1) c.terms-part-items.result.now)) (sym is)
          (adding_next c.args.variable.now.1 c.args.atom.now.terms c.terms-part-items.result.now c.loop-part.atom.terms c.loop-part.part-index (0, pos 0) c.loop-part-test.true c.loop-part.invariant.0),
      ap (λ a. a.constant) c.in-Ok.ensures.terms ∙ c.loop-part.invariant.1,
    )
