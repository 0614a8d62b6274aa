use Rattle.std.proofs.Common.{arith, ◌≡◌, ◌*◌, ◌∙◌, ap, sym, subst, length}
use Rattle.std.proofs.lemmas.List.{take_at}
use Rattle.lash_model.specs.Tables.{letters}
use Rattle.product_ops.specs.Restriction.{AreEnds}
use Rattle.product_ops.proofs.restriction.ends_of_zeros.Goals as goal

pub loop-zeros-preserved : goal.loop-zeros-preserved
loop-zeros-preserved g c =
    let count : length c.double.new.ends ≡ c.loop-zeros.ends.len = omega (arith, c.double.ensures.count, ap length c.as_mut_slice.ensures.value, c.as_mut_slice.ensures.len) in
    let is = take_at c.double.new.ends _ c.loop-zeros.ends.len count in
    let twice : 2 * c.loop-zeros.zeros ≡ c.loop-zeros.zeros * 2 = omega arith in
    record {
      count = ap length is ∙ c.double.ensures.count ∙ ap length c.as_mut_slice.ensures.value ∙ c.loop-zeros.invariant.count;
      some = omega (arith, c.loop-zeros.invariant.some);
      ends = subst (λ xs. AreEnds c.args.table.now.table.frac_rows (letters c.args.table.now.table) (c.loop-zeros.zeros * 2) xs) (sym is)
          (subst (λ n. AreEnds c.args.table.now.table.frac_rows (letters c.args.table.now.table) n c.double.new.ends) twice
          (c.double.ensures.ends c.args.table.now.table.frac_rows (letters c.args.table.now.table) c.loop-zeros.zeros
          (subst (λ xs. AreEnds c.args.table.now.table.frac_rows (letters c.args.table.now.table) c.loop-zeros.zeros xs) (sym c.as_mut_slice.ensures.value) c.loop-zeros.invariant.ends)));
    }
