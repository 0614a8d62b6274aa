use Rattle.std.proofs.Common.{ap, ◌∙◌, ap₂}
use Rattle.std.proofs.lemmas.Int.{to_z-of_z}
use mir.Syntax.{w128}
use Rattle.formula_core.specs.Terms.{added}
use Rattle.term_substitution.proofs.Beginning.{first_fits, second_fits}
use Rattle.term_substitution.proofs.tests.two.Goals as goal

pub add-requires : goal.add-requires
add-requires c = rw (to_z-of_z w128 c.args.first c.ranges.first) (first_fits c.new-term.result.terms 0 c.args.first (ap (λ a. a.terms) c.new-term.ensures) c.requires.first)

pub add-requires-2 : goal.add-requires-2
add-requires-2 c =
    rw (to_z-of_z w128 c.args.second c.ranges.second)
    (second_fits c.add.new.self.terms 0 1 c.args.first c.args.second (ap (λ a. a.terms) c.in-Ok.ensures.terms ∙ ap₂ (λ ts x. added ts 0 x) (ap (λ a. a.terms) c.new-term.ensures) (to_z-of_z w128 c.args.first c.ranges.first)) c.requires.first c.requires.second)
