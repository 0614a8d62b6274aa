use Rattle.std.proofs.Common.{◌≡◌, ℕ, sym, subst, length, get_or, nat_eq, false, arith, inl, inr}
use Rattle.std.proofs.lemmas.Bool.{eq-eqb, ne_eqb, cases_lt}
use Rattle.std.proofs.lemmas.List.Sums.{position_or_len_is}
use Rattle.set_compile.proofs.positions.position.Goals as goal

pub returns-then-other-place : goal.returns-then-other-place
returns-then-other-place c =
    let i : ℕ = c.loop-at.at in
    sym (position_or_len_is (nat_eq c.args.place) c.args.places.now i 0 (omega (arith, c.loop-at-test.true)) c.loop-at.invariant (λ lt. eq-eqb c.args.place (get_or c.args.places.now i 0) (sym c.if-other-place.true)))

pub loop-at-preserved : goal.loop-at-preserved
loop-at-preserved c = λ k lt.
    let i : ℕ = c.loop-at.at in
    elim (cases_lt k i) [
      | inl less ↦ c.loop-at.invariant k less
      | inr ge ↦
          let here : i ≡ k = omega (arith, lt, ge) in
          subst (λ j. nat_eq c.args.place (get_or c.args.places.now j 0) ≡ false) here (ne_eqb c.args.place (get_or c.args.places.now i 0) (λ e. c.if-other-place.false (sym e)))
    ]

pub returns : goal.returns
returns c = sym (position_or_len_is (nat_eq c.args.place) c.args.places.now (length c.args.places.now) 0 (omega arith) (λ k lt. c.loop-at.invariant k (omega (arith, lt, c.loop-at-test.false))) (λ lt. absurd (omega (arith, lt))))
