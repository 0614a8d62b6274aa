use Rattle.std.proofs.Common.{ap, ap₂, arith, ◌∙◌, ◌≤◌, ◌^◌, unsigned_abs}
use Rattle.std.proofs.Math.IntN.{◌*ℤ◌}
use Rattle.matrix_powers.proofs.Wrapping.{product_fits, product_unwrapped, product_small}
use Rattle.matrix_powers.proofs.sums.part.Goals as goal

pub overflow_mul-result : goal.overflow_mul-result
overflow_mul-result c =
    let first : unsigned_abs c.get.result ≤ 2 ^ 40 = omega (arith, c.requires.matrix.within c.args.row c.args.at c.requires.row c.requires.at, ap unsigned_abs c.get.ensures) in
    let second : unsigned_abs c.get-2.result ≤ 2 ^ 40 = omega (arith, c.requires.shift.within c.args.at (omega (arith, c.requires.at, c.requires.side)), ap unsigned_abs c.get-2.ensures) in
    product_fits c.get.result c.get-2.result first second

pub returns : goal.returns
returns c =
    let first : unsigned_abs c.get.result ≤ 2 ^ 40 = omega (arith, c.requires.matrix.within c.args.row c.args.at c.requires.row c.requires.at, ap unsigned_abs c.get.ensures) in
    let second : unsigned_abs c.get-2.result ≤ 2 ^ 40 = omega (arith, c.requires.shift.within c.args.at (omega (arith, c.requires.at, c.requires.side)), ap unsigned_abs c.get-2.ensures) in
    record {
      value = product_unwrapped c.get.result c.get-2.result first second ∙ ap₂ (λ x y. x *ℤ y) c.get.ensures c.get-2.ensures;
      small = rw (product_unwrapped c.get.result c.get-2.result first second) (product_small c.get.result c.get-2.result first second);
    }
