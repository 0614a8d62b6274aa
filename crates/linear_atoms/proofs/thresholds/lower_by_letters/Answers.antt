use Rattle.std.proofs.Common.{rules, ◌≡◌, ℕ, ℤ, List, length, subst}
use Rattle.linear_atoms.specs.Closing.{IsClosing}
use Rattle.linear_atoms.proofs.Searching.{closing_next}
use Rattle.linear_atoms.proofs.thresholds.lower_by_letters.Goals as goal

pub returns-in-Err-clause-heavy : goal.returns-in-Err-clause-heavy
returns-in-Err-clause-heavy c = λ e seeds closing. c.in-Err.ensures.heavy e seeds (c.loop-letter.invariant.closing seeds closing)

pub loop-letter-preserved : goal.loop-letter-preserved
loop-letter-preserved c = record {
  small = c.in-Ok.ensures.small;
  grown = search rules;
  within = c.in-Ok.ensures.within;
  closing = λ seeds closing. c.in-Ok.ensures.closing seeds (c.loop-letter.invariant.closing seeds closing);
}

pub returns-clause-closing : goal.returns-clause-closing
returns-clause-closing c = λ seeds closing.
    let done : c.loop-letter.letter ≡ length c.args.totals.now = search rules in
    closing_next c.args.base c.args.totals.now seeds c.loop-letter.found.keys c.args.at (subst (λ k. IsClosing c.args.base c.args.totals.now seeds c.loop-letter.found.keys c.args.at k) done (c.loop-letter.invariant.closing seeds closing)) (search rules)
