use Rattle.integer_laws.proofs.Entries.{scale-product}
use Rattle.integer_laws.proofs.vectors_scale.Goals as goal

pub returns : goal.returns
returns c = scale-product
