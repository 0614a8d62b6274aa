use Rattle.std.proofs.Common.{ap}
use Rattle.std.proofs.lemmas.Int.{to_z-of_z}
use mir.Syntax.{w128}
use Rattle.term_substitution.proofs.Beginning.{first_fits}
use Rattle.term_substitution.proofs.tests.one.Goals as goal

pub add-requires : goal.add-requires
add-requires c = rw (to_z-of_z w128 c.args.coefficient c.ranges.coefficient) (first_fits c.new-term.result.terms c.args.place c.args.coefficient (ap (λ a. a.terms) c.new-term.ensures) c.requires)
