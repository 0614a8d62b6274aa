use Rattle.mixed_texts.proofs.MixedTexts.{mixed_texts_tell}
use Rattle.mixed_texts.proofs.mixed_texts_tell_tables.Goals as goal

pub returns : goal.returns
returns c = mixed_texts_tell
