use Rattle.std.proofs.Common.{◌≡◌, ◌<◌, ℕ, [], ◌∷◌, ◌++◌, sym, ap, ◌∙◌, subst}
use Rattle.std.proofs.Math.IntN.{ℤ}
use Rattle.std.specs.Prelude.{All}
use Rattle.lash_model.specs.Formulas.{Linear}
use Rattle.set_compile.specs.Conditions.{IsTermOver}
use Rattle.set_compile.proofs.SmallTerms.{pair, two_over, behind_first}
use Rattle.set_compile.proofs.tests.sum_equal.Goals as goal

pub append-requires-clause-behind : goal.append-requires-clause-behind
append-requires-clause-behind c = subst (λ (a : Linear). All (λ (t : ℕ × ℤ). t.0 < c.args.place) a.terms) (sym c.in-Ok.ensures.is) (behind_first c.args.first.now c.args.constant.now c.args.place c.requires.higher)

pub returns-in-Ok-append : goal.returns-in-Ok-append
returns-in-Ok-append c = record {
  over = λ m lt.
      let b : ℤ = c.args.first.now in
      let x : ℤ = c.args.second.now in
      let k : ℤ = c.args.constant.now in
      let both : c.append.new.term ≡ pair b c.args.place x k = c.in-Ok-append.ensures ∙ ap (λ (a : Linear). let s : Linear = record { terms = a.terms ++ (c.args.place, x) ∷ []; constant = a.constant } in s) c.in-Ok.ensures.is in
      subst (IsTermOver m) (sym both) (two_over b c.args.place x k c.requires.small c.requires.low m lt);
}
