use Rattle.canonical_laws.proofs.Diagrams.{diagrams_unique}
use Rattle.canonical_laws.proofs.canonical_diagrams_are_unique.Goals as goal

pub returns : goal.returns
returns c = diagrams_unique
