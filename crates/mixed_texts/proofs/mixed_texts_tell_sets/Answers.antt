use Rattle.lash_model.specs.Meaning.{Solves}
use Rattle.mixed_texts.proofs.TextsOfMixedSets.{one_mixed_text, mixed_text_agrees}
use Rattle.mixed_texts.proofs.mixed_texts_tell_sets.Goals as goal

pub returns-clause-equal : goal.returns-clause-equal
returns-clause-equal c = λ vs t u sorts f g. one_mixed_text vs t u (Solves sorts f) (Solves sorts g)

pub returns-clause-agree : goal.returns-clause-agree
returns-clause-agree c = λ vs t u sorts f g. mixed_text_agrees vs t u (Solves sorts f) (Solves sorts g)
