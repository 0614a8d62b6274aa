use Rattle.std.proofs.Common.{subst}
use Rattle.std.specs.List.{All}
use Rattle.statement_answers.specs.Automata.{IsGiven}
use Rattle.statement_answers.specs.Keeping.{Library, sets_kept}
use Rattle.statement_answers.proofs.Shelving.{all_given}
use Rattle.statement_answers.proofs.library.Library.defs.Goals as goal

pub returns-clause-given : goal.returns-clause-given
returns-clause-given c = subst (λ (l : Library). All (λ k. IsGiven l.settings.base k.vars k.formula) (sets_kept l)) c.self.view_is (all_given _ _ _ c.self.invariant.each)
