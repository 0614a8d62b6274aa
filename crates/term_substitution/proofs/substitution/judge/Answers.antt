use Rattle.term_substitution.proofs.Reaching.{reached_of}
use Rattle.term_substitution.proofs.substitution.judge.Goals as goal

pub judge_atoms-requires-clause-formula : goal.judge_atoms-requires-clause-formula
judge_atoms-requires-clause-formula c = reached_of _ _ c.requires.depth c.requires.over
