use Rattle.automaton_texts.proofs.TextReading.{texts_tell}
use Rattle.automaton_texts.proofs.texts_tell_diagrams.Goals as goal

pub returns : goal.returns
returns c = texts_tell
