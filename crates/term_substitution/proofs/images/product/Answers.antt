use Rattle.term_substitution.proofs.Wrapping.{product_unwrapped}
use Rattle.term_substitution.proofs.images.product.Goals as goal

pub returns : goal.returns
returns c = record { value = product_unwrapped c.args.variable.now.1 c.args.part.now.1 c.requires.variable c.requires.part }
