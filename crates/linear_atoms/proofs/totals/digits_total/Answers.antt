use Rattle.std.proofs.Common.{rules, arith, ◌≡◌, ◌∙◌, ◌+◌, ◌-◌, ◌*◌, ◌<◌, ◌≤◌, ℕ, ℤ, List, length, ap, sym, subst, unsigned_abs, to_z}
use Rattle.std.proofs.Math.IntN.{pos, ◌+ℤ◌, ◌*ℤ◌}
use mir.Syntax.{w128}
use mir.Val.{SFits}
use Rattle.std.proofs.lemmas.Int.{to_z-of_z}
use Rattle.lash_model.specs.Letters.{digit}
use Rattle.linear_atoms.specs.Totals.{IsSumming, letter_digits, term_at}
use Rattle.linear_atoms.proofs.Summing.{summing_more, summing_all, summing_small, coefficient_within, entry-letter_digits, total-letter_digits, digit_below, small_total, window_total}
use Rattle.linear_atoms.proofs.totals.digits_total.Goals as goal

pub loop-term-preserved : goal.loop-term-preserved
loop-term-preserved c =
    let items : c.terms-term-items.result.now ≡ c.args.atom.now.terms = c.terms-term-items.ensures.terms in
    let inside : c.loop-term.term-index < length c.args.atom.now.terms = subst (λ (ts : List (ℕ × ℤ)). c.loop-term.term-index < length ts) items (search rules) in
    let place : (term_at c.args.atom.now.terms c.loop-term.term-index).0 < c.args.tracks = c.requires.places c.loop-term.term-index (0, pos 0) inside in
    let is : c.letter_digit-digit.result ≡ digit c.args.base c.args.tracks (term_at c.args.atom.now.terms c.loop-term.term-index).0 c.args.letter = c.letter_digit-digit.ensures ∙ ap (λ (ts : List (ℕ × ℤ)). digit c.args.base c.args.tracks (term_at ts c.loop-term.term-index).0 c.args.letter) items in
    let fits : SFits w128 c.with_product-sum.result = search rules in
    let sum : ℤ = to_z w128 c.loop-term.sum-bits in
    let more : IsSumming c.args.atom.now.terms (letter_digits c.args.base c.args.tracks c.args.letter) (c.args.base - 1) (c.loop-term.term-index + 1) (sum +ℤ ((term_at c.args.atom.now.terms c.loop-term.term-index).1 *ℤ pos c.letter_digit-digit.result)) =
    summing_more c.args.atom.now.terms (letter_digits c.args.base c.args.tracks c.args.letter) (c.args.base - 1) c.loop-term.term-index sum (0, pos 0) c.letter_digit-digit.result c.loop-term.invariant inside
    (entry-letter_digits c.args.base c.args.tracks c.args.letter (term_at c.args.atom.now.terms c.loop-term.term-index).0 place ∙ ap pos (sym is))
    (omega (arith, is, digit_below c.args.base c.args.tracks c.args.letter (term_at c.args.atom.now.terms c.loop-term.term-index).0 (omega arith) place c.requires.letter)) in
    subst (λ x. IsSumming c.args.atom.now.terms (letter_digits c.args.base c.args.tracks c.args.letter) (c.args.base - 1) (c.loop-term.term-index + 1) x)
    (ap (λ (ts : List (ℕ × ℤ)). sum +ℤ ((term_at ts c.loop-term.term-index).1 *ℤ pos c.letter_digit-digit.result)) (sym items) ∙ sym c.with_product-sum.ensures ∙ sym (to_z-of_z w128 c.with_product-sum.result fits))
    more

pub with_product-sum-requires-clause-coefficient : goal.with_product-sum-requires-clause-coefficient
with_product-sum-requires-clause-coefficient c =
    let items : c.terms-term-items.result.now ≡ c.args.atom.now.terms = c.terms-term-items.ensures.terms in
    let inside : c.loop-term.term-index < length c.args.atom.now.terms = subst (λ (ts : List (ℕ × ℤ)). c.loop-term.term-index < length ts) items (search rules) in
    omega (arith, ap (λ (ts : List (ℕ × ℤ)). unsigned_abs (term_at ts c.loop-term.term-index).1) items, coefficient_within c.args.atom.now.terms c.loop-term.term-index (0, pos 0) inside, c.requires.coefficients)

pub with_product-sum-requires-clause-digit : goal.with_product-sum-requires-clause-digit
with_product-sum-requires-clause-digit c =
    let items : c.terms-term-items.result.now ≡ c.args.atom.now.terms = c.terms-term-items.ensures.terms in
    let inside : c.loop-term.term-index < length c.args.atom.now.terms = subst (λ (ts : List (ℕ × ℤ)). c.loop-term.term-index < length ts) items (search rules) in
    let place : (term_at c.args.atom.now.terms c.loop-term.term-index).0 < c.args.tracks = c.requires.places c.loop-term.term-index (0, pos 0) inside in
    let is : c.letter_digit-digit.result ≡ digit c.args.base c.args.tracks (term_at c.args.atom.now.terms c.loop-term.term-index).0 c.args.letter = c.letter_digit-digit.ensures ∙ ap (λ (ts : List (ℕ × ℤ)). digit c.args.base c.args.tracks (term_at ts c.loop-term.term-index).0 c.args.letter) items in
    omega (arith, is, digit_below c.args.base c.args.tracks c.args.letter (term_at c.args.atom.now.terms c.loop-term.term-index).0 (omega arith) place c.requires.letter)

pub with_product-sum-requires-clause-sum : goal.with_product-sum-requires-clause-sum
with_product-sum-requires-clause-sum c = small_total c.args.atom.now.terms c.args.tracks c.args.base (to_z w128 c.loop-term.sum-bits) (summing_small c.args.atom.now.terms (letter_digits c.args.base c.args.tracks c.args.letter) (c.args.base - 1) c.loop-term.term-index (to_z w128 c.loop-term.sum-bits) c.loop-term.invariant) c.requires.coefficients c.requires.high

pub returns-clause-total : goal.returns-clause-total
returns-clause-total c =
    let items : c.terms-term-items.result.now ≡ c.args.atom.now.terms = c.terms-term-items.ensures.terms in
    let done : c.loop-term.term-index ≡ length c.args.atom.now.terms = subst (λ (ts : List (ℕ × ℤ)). c.loop-term.term-index ≡ length ts) items (search rules) in
    summing_all c.args.atom.now.terms (letter_digits c.args.base c.args.tracks c.args.letter) (c.args.base - 1) c.loop-term.term-index (to_z w128 c.loop-term.sum-bits) c.loop-term.invariant done ∙ total-letter_digits c.args.atom.now.terms c.args.base c.args.tracks c.args.letter

pub returns-clause-small : goal.returns-clause-small
returns-clause-small c = window_total c.args.atom.now.terms c.args.base (to_z w128 c.loop-term.sum-bits) (summing_small c.args.atom.now.terms (letter_digits c.args.base c.args.tracks c.args.letter) (c.args.base - 1) c.loop-term.term-index (to_z w128 c.loop-term.sum-bits) c.loop-term.invariant) c.requires.coefficients c.requires.low
