use Rattle.term_substitution.proofs.Reaching.{reached_of}
use Rattle.term_substitution.proofs.substitution.replace.Goals as goal

pub replaced-requires-clause-formula : goal.replaced-requires-clause-formula
replaced-requires-clause-formula c = reached_of _ _ c.requires.depth c.requires.over
