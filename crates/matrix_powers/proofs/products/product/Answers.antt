use Rattle.std.proofs.Common.{arith, sym, subst}
use Rattle.matrix_powers.specs.Products.{IsProduct}
use Rattle.matrix_powers.proofs.Filling.{filled_product}
use Rattle.matrix_powers.proofs.products.product.Goals as goal

pub returns : goal.returns
returns c =
    let side_is = c.side-side.ensures.value in
    subst (IsProduct c.args.left.now c.args.right.now) (sym c.of_rows.ensures)
    (filled_product c.args.left.now c.args.right.now c.side-side.result c.loop-at.at c.loop-at.entries.items side_is (omega arith) c.loop-at.invariant)
