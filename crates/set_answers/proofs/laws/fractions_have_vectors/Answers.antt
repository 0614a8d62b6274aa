use Rattle.set_answers.proofs.CommonVectors.{have_vectors}
use Rattle.set_answers.proofs.laws.fractions_have_vectors.Goals as goal

pub returns : goal.returns
returns c = have_vectors
