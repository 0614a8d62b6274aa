use Rattle.std.proofs.Common.{ℕ, ◌^◌, ◌≤◌, ◌<◌, arith}
use Rattle.std.proofs.Math.Nat.{pow-le-pow_left, pow-le-pow_right}
use Rattle.step_tables.proofs.table.packing.pack.Goals as goal

pub of_cells-requires : goal.of_cells-requires
of_cells-requires c = omega (arith, pow-le-pow_left c.table.invariant.table.shape.base_low c.table.inside.tracks, c.table.invariant.table.shape.few_letters, c.table.invariant.table.roots_count)

two_values : (bits : ℕ) → 1 ≤ bits → 2 ≤ 2 ^ bits
two_values bits some = pow-le-pow_right {n = 2} two {i = 1} {j = bits} some
  where
    two : 0 < 2
    two = omega arith

pub invariant_of-result : goal.invariant_of-result
invariant_of-result c =
    rw (c.in_ok-roots.ensures.items, c.in_ok-rows.ensures.items, c.in_ok-outs.ensures.items, c.in_ok-frac_rows.ensures.items, c.in_ok-colours.ensures.items)
    (record {
      table = c.table.invariant.table;
      letters_count = c.table.invariant.letters_count;
      ints_count = c.table.invariant.ints_count;
      fracs_count = c.table.invariant.fracs_count;
      two_colours = two_values c.in_ok-colours.colours.bits c.in_ok-colours.ensures.bits.some;
      two_answers = two_values c.in_ok-outs.outs.bits c.in_ok-outs.ensures.bits.some;
    })
