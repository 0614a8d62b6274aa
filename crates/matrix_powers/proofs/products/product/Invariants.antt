use Rattle.std.proofs.Common.{◌/◌, ◌%◌}
use Rattle.matrix_powers.specs.Products.{product_entry}
use Rattle.matrix_powers.proofs.Filling.{IsFilled}
use Rattle.matrix_powers.proofs.products.product.Given as goal

abbrev pub invariant-loop-at : goal.invariant-loop-at
invariant-loop-at l = IsFilled (λ j. product_entry l.left l.right (j / l.side) (j % l.side)) l.at l.entries.items
