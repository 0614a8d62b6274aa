use Rattle.std.proofs.Common.{rules, arith, ◌≡◌, ◌∙◌, ◌+◌, ◌<◌, ◌≤◌, ◌^◌, ℕ, ℤ, List, length, ap, sym, subst, unsigned_abs}
use Rattle.std.proofs.Math.IntN.{pos}
use Rattle.linear_atoms.specs.Totals.{term_at}
use Rattle.linear_atoms.specs.Bounds.{AreMagnitudesSummed}
use Rattle.linear_atoms.proofs.Summing.{coefficient_within}
use Rattle.linear_atoms.proofs.WindowSums.{magnitudes_more, magnitudes_all, magnitude_within}
use Rattle.linear_atoms.proofs.window.sum_of.Goals as goal

pub magnitude-sum-requires : goal.magnitude-sum-requires
magnitude-sum-requires c =
    let items : c.terms-term-items.result.now ≡ c.args.atom.now.terms = c.terms-term-items.ensures.terms in
    let inside : c.loop-term.term-index < length c.args.atom.now.terms = subst (λ (ts : List (ℕ × ℤ)). c.loop-term.term-index < length ts) items (search rules) in
    omega (arith, ap (λ (ts : List (ℕ × ℤ)). unsigned_abs (term_at ts c.loop-term.term-index).1) items, coefficient_within c.args.atom.now.terms c.loop-term.term-index (0, pos 0) inside, c.requires)

pub overflow_add-sum : goal.overflow_add-sum
overflow_add-sum c =
    let items : c.terms-term-items.result.now ≡ c.args.atom.now.terms = c.terms-term-items.ensures.terms in
    let inside : c.loop-term.term-index < length c.args.atom.now.terms = subst (λ (ts : List (ℕ × ℤ)). c.loop-term.term-index < length ts) items (search rules) in
    let within : c.loop-term.sum + c.magnitude-sum.result ≤ 2 ^ 24 =
    omega (arith, c.magnitude-sum.ensures, ap (λ (ts : List (ℕ × ℤ)). unsigned_abs (term_at ts c.loop-term.term-index).1) items, magnitude_within c.args.atom.now.terms c.loop-term.term-index c.loop-term.sum (0, pos 0) c.loop-term.invariant inside, c.requires) in
    search rules

pub loop-term-preserved : goal.loop-term-preserved
loop-term-preserved c =
    let items : c.terms-term-items.result.now ≡ c.args.atom.now.terms = c.terms-term-items.ensures.terms in
    let inside : c.loop-term.term-index < length c.args.atom.now.terms = subst (λ (ts : List (ℕ × ℤ)). c.loop-term.term-index < length ts) items (search rules) in
    subst (λ x. AreMagnitudesSummed c.args.atom.now.terms (c.loop-term.term-index + 1) (c.loop-term.sum + x))
    (ap (λ (ts : List (ℕ × ℤ)). unsigned_abs (term_at ts c.loop-term.term-index).1) (sym items) ∙ sym c.magnitude-sum.ensures)
    (magnitudes_more c.args.atom.now.terms c.loop-term.term-index c.loop-term.sum (0, pos 0) c.loop-term.invariant inside)

pub returns : goal.returns
returns c =
    let items : c.terms-term-items.result.now ≡ c.args.atom.now.terms = c.terms-term-items.ensures.terms in
    let done : c.loop-term.term-index ≡ length c.args.atom.now.terms = subst (λ (ts : List (ℕ × ℤ)). c.loop-term.term-index ≡ length ts) items (search rules) in
    magnitudes_all c.args.atom.now.terms c.loop-term.term-index c.loop-term.sum c.loop-term.invariant done
