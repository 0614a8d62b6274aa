use Rattle.std.proofs.Common.{◌<◌, ◌++◌, ◌∷◌, [], sym, ap, ◌∙◌, subst}
use Rattle.matrix_powers.specs.Products.{ArePowers, IsPowerOf}
use Rattle.matrix_powers.proofs.Raising.{identity_power, identity_small, small_from_power}
use Rattle.matrix_powers.proofs.Searching.{powers_first}
use Rattle.matrix_powers.proofs.powers.first_power.Goals as goal

pub returns-in-Ok-clause-powers : goal.returns-in-Ok-clause-powers
returns-in-Ok-clause-powers c =
    let a = c.args.matrix.now in
    let m = c.in_ok-identity.identity in
    let is : IsPowerOf a 0 m = identity_power a m (c.in_ok-identity.ensures.side ∙ c.side.ensures.value) (λ row column r d. c.in_ok-identity.ensures.entries row column (subst (λ n. row < n) (sym c.side.ensures.value) r) (subst (λ n. column < n) (sym c.side.ensures.value) d)) in
    subst (ArePowers a) (sym (c.in-Ok.ensures.items ∙ ap (λ xs. xs ++ m ∷ []) c.new-powers.ensures.items)) (powers_first a m c.requires is (small_from_power a m 0 is (identity_small a)))
