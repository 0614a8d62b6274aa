use Rattle.std.specs.Prelude.{IsTrue}
use Rattle.canonical_laws.proofs.Uniqueness.{same_states, same_starts, same_targets}
use Rattle.canonical_laws.proofs.minimal_parts_are_unique.Goals as goal

pub returns-clause-states : goal.returns-clause-states
returns-clause-states c = λ width rel. same_states width (λ x y. IsTrue (rel x y))

pub returns-clause-starts : goal.returns-clause-starts
returns-clause-starts c = λ width rel. same_starts width (λ x y. IsTrue (rel x y))

pub returns-clause-targets : goal.returns-clause-targets
returns-clause-targets c = λ width rel. same_targets width (λ x y. IsTrue (rel x y))
