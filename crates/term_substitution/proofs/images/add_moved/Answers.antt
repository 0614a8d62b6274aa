use Rattle.std.proofs.Common.{ap, ◌∙◌}
use Rattle.formula_core.specs.Terms.{added}
use Rattle.term_substitution.proofs.Wrapping.{unwrapped}
use Rattle.term_substitution.proofs.Adding.{moved_fits, moved_small, moved_weight}
use Rattle.term_substitution.proofs.images.add_moved.Goals as goal

pub add-requires : goal.add-requires
add-requires c = rw (unwrapped c.args.variable.now.1 (moved_small c.args.atom.now.terms c.args.variable.now.1 c.requires.light)) (moved_fits c.args.atom.now.terms c.args.place c.args.variable.now.1 c.requires.light)

pub returns-in-Ok-clause-light : goal.returns-in-Ok-clause-light
returns-in-Ok-clause-light c =
    moved_weight c.args.atom.now.terms c.add.new.self.terms c.args.place c.args.variable.now.1
    (ap (λ a. a.terms) c.in-Ok.ensures.terms ∙ ap (λ x. added c.args.atom.now.terms c.args.place x) (unwrapped c.args.variable.now.1 (moved_small c.args.atom.now.terms c.args.variable.now.1 c.requires.light)))
