use Rattle.lash_model.proofs.Numbers.{word_for_natural, word_for_negative}
use Rattle.lash_model.proofs.numbers_have_words.Goals as goal

pub returns-clause-natural : goal.returns-clause-natural
returns-clause-natural c = word_for_natural

pub returns-clause-negative : goal.returns-clause-negative
returns-clause-negative c = word_for_negative
