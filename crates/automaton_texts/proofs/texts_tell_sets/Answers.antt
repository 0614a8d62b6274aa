use Rattle.lash_model.specs.Meaning.{Solves}
use Rattle.automaton_texts.proofs.TextsOfSets.{same_text, text_agrees}
use Rattle.automaton_texts.proofs.texts_tell_sets.Goals as goal

pub returns-clause-equal : goal.returns-clause-equal
returns-clause-equal c = λ vs t u sorts f g. same_text vs t u (Solves sorts f) (Solves sorts g)

pub returns-clause-agree : goal.returns-clause-agree
returns-clause-agree c = λ vs t u sorts f g. text_agrees vs t u (Solves sorts f) (Solves sorts g)
