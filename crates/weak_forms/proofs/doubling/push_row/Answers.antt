use Rattle.std.proofs.Common.{rules, ◌+◌, ◌*◌, List, ℕ, sym, subst}
use Rattle.lash_model.specs.Tables.{letters, fracs}
use Rattle.weak_forms.specs.Doubling.{doubled, AreDoubled}
use Rattle.weak_forms.proofs.Doubled.{written_more}
use Rattle.weak_forms.proofs.doubling.push_row.Goals as goal

pub loop-letter-preserved : goal.loop-letter-preserved
loop-letter-preserved c =
    let table = c.args.table.now.table in (
      c.letters-letter-end.ensures.value,
      subst (λ (rows : List ℕ). AreDoubled table c.args.state (c.loop-letter.letter + 1) rows) (sym c.in-Ok.ensures.items)
          (written_more (doubled table) (letters table) (2 * fracs table) c.args.state c.loop-letter.letter c.loop-letter.rows.items c.doubled_step.result
          (search rules) c.doubled_step.ensures.value c.doubled_step.ensures.below c.loop-letter.invariant.1),
    )
