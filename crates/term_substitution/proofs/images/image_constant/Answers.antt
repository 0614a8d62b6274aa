use Rattle.std.proofs.Common.{rules, ap, ◌∙◌, ◌≡◌, ◌≤◌, ◌^◌, unsigned_abs}
use Rattle.std.proofs.Math.IntN.{◌*ℤ◌}
use Rattle.term_substitution.specs.Substitution.{image}
use Rattle.term_substitution.proofs.Wrapping.{product_unwrapped, product_abs}
use Rattle.term_substitution.proofs.images.image_constant.Goals as goal

pub returns-in-Some-clause-value : goal.returns-in-Some-clause-value
returns-in-Some-clause-value c =
    let small : unsigned_abs c.constant.result ≤ 2 ^ 88 = search rules in
    λ places.
    let is : c.constant.result ≡ (image c.args.terms.now places c.args.variable.now.0).constant = search rules in
    product_unwrapped c.args.variable.now.1 c.constant.result c.requires.variable small ∙ ap (λ x. c.args.variable.now.1 *ℤ x) is

pub returns-in-Some-clause-small : goal.returns-in-Some-clause-small
returns-in-Some-clause-small c =
    let small : unsigned_abs c.constant.result ≤ 2 ^ 88 = search rules in
    rw (product_unwrapped c.args.variable.now.1 c.constant.result c.requires.variable small) (product_abs c.args.variable.now.1 c.constant.result (2 ^ 88) small)
