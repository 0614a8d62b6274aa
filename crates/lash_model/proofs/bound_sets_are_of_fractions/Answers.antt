use Rattle.lash_model.specs.Sets.{set_of}
use Rattle.lash_model.proofs.FractionSets.{whole_bound_fractions, fraction_bound_fractions}
use Rattle.lash_model.proofs.bound_sets_are_of_fractions.Goals as goal

pub returns-clause-whole : goal.returns-clause-whole
returns-clause-whole c = λ f placed track. whole_bound_fractions track (set_of f placed)

pub returns-clause-fraction : goal.returns-clause-fraction
returns-clause-fraction c = λ f placed track. fraction_bound_fractions track (set_of f placed)
