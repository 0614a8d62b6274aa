use Rattle.term_substitution.proofs.Valuing.{replaces_values}
use Rattle.term_substitution.proofs.laws.substitution_replaces_values.Goals as goal

pub returns : goal.returns
returns c = replaces_values
