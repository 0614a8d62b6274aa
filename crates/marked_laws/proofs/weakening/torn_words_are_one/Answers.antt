use Rattle.marked_laws.proofs.LeastWords.{least_words}
use Rattle.marked_laws.proofs.weakening.torn_words_are_one.Goals as goal

pub returns : goal.returns
returns c = least_words
