use Rattle.std.proofs.Common.{pos, ap, arith}
use Rattle.term_substitution.proofs.Beginning.{first_fits}
use Rattle.script_meaning.proofs.tests.small_atom.Goals as goal

pub add-requires : goal.add-requires
add-requires c = first_fits c.new-atom.result.terms 0 (pos 2) (ap (λ a. a.terms) c.new-atom.ensures) (omega arith)
