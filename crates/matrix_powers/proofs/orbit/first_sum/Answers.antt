use Rattle.std.proofs.Common.{pos, replicate, ◌++◌, ◌∷◌, [], sym, ap, ◌∙◌, subst}
use Rattle.matrix_powers.specs.Turns.{AreSums}
use Rattle.matrix_powers.proofs.Turning.{sums_first}
use Rattle.matrix_powers.proofs.orbit.first_sum.Goals as goal

pub returns-in-Ok-clause-sums : goal.returns-in-Ok-clause-sums
returns-in-Ok-clause-sums c = λ shift.
    let is = c.in_ok-zero.ensures ∙ ap (λ n. replicate n (pos 0)) c.side.ensures.value in
    subst (AreSums c.args.matrix.now shift) (sym (c.in-Ok.ensures.items ∙ ap (λ xs. xs ++ c.in_ok-zero.zero ∷ []) c.new-sums.ensures.items)) (sums_first c.args.matrix.now shift c.in_ok-zero.zero is)
