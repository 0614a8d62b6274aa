use Rattle.std.proofs.Common.{rules, arith, ◌≡◌, ◌+◌, [], sym, subst}
use Rattle.lash_model.specs.Tables.{letters, fracs}
use Rattle.product_ops.specs.Restriction.{AreFirstEnds}
use Rattle.product_ops.proofs.Doubling.{none_found, one_found, all_found}
use Rattle.product_ops.proofs.Zeros.{some_letter}
use Rattle.product_ops.proofs.restriction.after_one_zero.Goals as goal

pub loop-state-init : goal.loop-state-init
loop-state-init g c = let empty : c.new-ends.result.items ≡ [] = search rules in
    subst (λ xs. AreFirstEnds c.args.table.now.table.frac_rows (letters c.args.table.now.table) (fracs c.args.table.now.table) 0 xs) (sym empty)
    (none_found c.args.table.now.table.frac_rows (letters c.args.table.now.table) (fracs c.args.table.now.table))

pub frac_step-requires-clause-letter : goal.frac_step-requires-clause-letter
frac_step-requires-clause-letter g c = some_letter c.args.table.now.table c.letters-letters.ensures.table

pub loop-state-preserved : goal.loop-state-preserved
loop-state-preserved g c = subst (λ xs. AreFirstEnds c.args.table.now.table.frac_rows (letters c.args.table.now.table) (fracs c.args.table.now.table) (c.loop-state.state + 1) xs)
    (search rules)
    (one_found c.args.table.now.table.frac_rows (letters c.args.table.now.table) (fracs c.args.table.now.table) c.loop-state.state c.frac_step.result c.loop-state.ends.items
    c.loop-state.invariant c.frac_step.ensures.below c.frac_step.ensures.value)

pub returns-clause-count : goal.returns-clause-count
returns-clause-count g c = omega (arith, c.loop-state.invariant.counted, c.loop-state-test.false, c.loop-state.auto.state-end, c.fracs-state-end.ensures)

pub returns-clause-ends : goal.returns-clause-ends
returns-clause-ends g c = all_found c.args.table.now.table.frac_rows (letters c.args.table.now.table) (fracs c.args.table.now.table) c.loop-state.state c.loop-state.ends.items
    c.loop-state.invariant (omega (arith, c.loop-state-test.false, c.loop-state.auto.state-end, c.fracs-state-end.ensures))
