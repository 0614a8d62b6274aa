use Rattle.std.proofs.Common.{pos, refl, sym, ap, ◌∙◌, subst}
use Rattle.term_substitution.proofs.Adding.{IsPutting, putting_begins, putting_first, putting_next}
use Rattle.term_substitution.proofs.images.add_images.Goals as goal

pub loop-variable-init : goal.loop-variable-init
loop-variable-init c = (subst (λ us. IsPutting c.args.terms.now c.args.places c.args.variables.now us c.args.variables.now) (sym c.requires.none) (putting_begins c.args.terms.now c.args.places c.args.variables.now c.requires.few), refl)

pub add_image-requires-clause-variable : goal.add_image-requires-clause-variable
add_image-requires-clause-variable c = (putting_first c.args.terms.now c.args.places c.args.variables.now c.loop-variable.atom.terms c.loop-variable.variable-index (0, pos 0) c.loop-variable-test.true c.loop-variable.invariant.0).small

pub add_image-requires-clause-light : goal.add_image-requires-clause-light
add_image-requires-clause-light c = (putting_first c.args.terms.now c.args.places c.args.variables.now c.loop-variable.atom.terms c.loop-variable.variable-index (0, pos 0) c.loop-variable-test.true c.loop-variable.invariant.0).room

pub loop-variable-preserved : goal.loop-variable-preserved
loop-variable-preserved c = (
  putting_next c.args.terms.now c.args.places c.args.variables.now c.loop-variable.atom.terms c.loop-variable.variable-index (0, pos 0) c.add_image.new.atom.terms c.loop-variable-test.true c.loop-variable.invariant.0 (ap (λ a. a.terms) c.in-Ok.ensures.added) c.in-Ok.ensures.light,
  ap (λ a. a.constant) c.in-Ok.ensures.added ∙ c.loop-variable.invariant.1,
)
