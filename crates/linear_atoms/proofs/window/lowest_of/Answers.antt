use Rattle.std.proofs.Common.{rules, arith, ◌≡◌, ◌∙◌, ◌+◌, ◌<◌, ℕ, ℤ, List, length, ap, sym, subst, unsigned_abs, to_z}
use Rattle.std.proofs.Math.IntN.{pos, ◌+ℤ◌}
use mir.Syntax.{w128}
use mir.Val.{SFits}
use Rattle.std.proofs.lemmas.Int.{to_z-of_z}
use Rattle.lasso_laws.specs.Windows.{negative_part}
use Rattle.linear_atoms.specs.Totals.{term_at}
use Rattle.linear_atoms.specs.Bounds.{AreNegativesSummed}
use Rattle.linear_atoms.proofs.Summing.{coefficient_within}
use Rattle.linear_atoms.proofs.WindowSums.{negatives_more, negatives_all}
use Rattle.linear_atoms.proofs.window.lowest_of.Goals as goal

pub with_negative-sum-requires-clause-coefficient : goal.with_negative-sum-requires-clause-coefficient
with_negative-sum-requires-clause-coefficient c =
    let items : c.terms-term-items.result.now ≡ c.args.atom.now.terms = c.terms-term-items.ensures.terms in
    let inside : c.loop-term.term-index < length c.args.atom.now.terms = subst (λ (ts : List (ℕ × ℤ)). c.loop-term.term-index < length ts) items (search rules) in
    omega (arith, ap (λ (ts : List (ℕ × ℤ)). unsigned_abs (term_at ts c.loop-term.term-index).1) items, coefficient_within c.args.atom.now.terms c.loop-term.term-index (0, pos 0) inside, c.requires)

pub loop-term-preserved : goal.loop-term-preserved
loop-term-preserved c =
    let items : c.terms-term-items.result.now ≡ c.args.atom.now.terms = c.terms-term-items.ensures.terms in
    let inside : c.loop-term.term-index < length c.args.atom.now.terms = subst (λ (ts : List (ℕ × ℤ)). c.loop-term.term-index < length ts) items (search rules) in
    let fits : SFits w128 c.with_negative-sum.result = search rules in
    let sum : ℤ = to_z w128 c.loop-term.sum-bits in
    subst (λ x. AreNegativesSummed c.args.atom.now.terms (c.loop-term.term-index + 1) x)
    (ap (λ (ts : List (ℕ × ℤ)). sum +ℤ negative_part (term_at ts c.loop-term.term-index).1) (sym items) ∙ sym c.with_negative-sum.ensures ∙ sym (to_z-of_z w128 c.with_negative-sum.result fits))
    (negatives_more c.args.atom.now.terms c.loop-term.term-index sum (0, pos 0) c.loop-term.invariant inside)

pub returns-clause-value : goal.returns-clause-value
returns-clause-value c =
    let items : c.terms-term-items.result.now ≡ c.args.atom.now.terms = c.terms-term-items.ensures.terms in
    let done : c.loop-term.term-index ≡ length c.args.atom.now.terms = subst (λ (ts : List (ℕ × ℤ)). c.loop-term.term-index ≡ length ts) items (search rules) in
    negatives_all c.args.atom.now.terms c.loop-term.term-index (to_z w128 c.loop-term.sum-bits) c.loop-term.invariant done
