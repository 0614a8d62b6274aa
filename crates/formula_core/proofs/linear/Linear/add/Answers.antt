-- The addition keeps the order of the places, and adds to the sum.
use Rattle.std.proofs.Common.{◌≡◌, ℕ, ℤ, List, sym, ◌∙◌, subst, ap, pos, ◌+ℤ◌, ◌*ℤ◌, get_or, to_z, of_z, Result, Ok, Err}
use Rattle.std.proofs.lemmas.Int.{to_z-of_z}
use Rattle.std.proofs.lemmas.Result.{on_ok_weaker}
use Rattle.std.specs.Prelude.{OnOk, OnErr}
use mir.Syntax.{w128}
use Rattle.lash_model.specs.Formulas.{IsLinear}
use Rattle.lash_model.specs.Meaning.{total}
use Rattle.formula_core.proofs.Adding.{linear_added, total_added}
use Rattle.formula_core.specs.Terms.{added}
use Rattle.formula_core.proofs.linear.Linear.add.Goals as goal

linear_after : {E : Type 0} (r : Result (Unit {0}) E) (ts us : List (ℕ × ℤ)) (k : ℤ) (place : ℕ) (c : ℤ) → OnOk r (us ≡ added ts place c) → OnErr r (us ≡ ts) → IsLinear (record { terms = ts; constant = k }) → IsLinear (record { terms = us; constant = k })
linear_after (Ok x) ts us k place c e f h = let P : List (ℕ × ℤ) → Type 0 = λ ts. IsLinear (record { terms = ts; constant = k }) in subst P (sym e) (linear_added (record { terms = ts; constant = k }) place c h)
linear_after (Err x) ts us k place c e f h = let P : List (ℕ × ℤ) → Type 0 = λ ts. IsLinear (record { terms = ts; constant = k }) in subst P (sym f) h

pub invariant_of-self : goal.invariant_of-self
invariant_of-self c = linear_after c.add_at.result c.self.inside.terms.items c.add_at.new.terms.items c.self.inside.constant c.args.place (to_z w128 (of_z w128 c.args.coefficient)) c.add_at.ensures.added c.add_at.ensures.unchanged c.self.invariant

pub returns-clause-total : goal.returns-clause-total
returns-clause-total c = on_ok_weaker c.add_at.result (λ e ns.
    ap (λ us. total us ns) e ∙ total_added c.self.inside.terms.items c.args.place (to_z w128 (of_z w128 c.args.coefficient)) ns
    ∙ ap (λ k. total c.self.inside.terms.items ns +ℤ (k *ℤ get_or ns c.args.place (pos 0))) (to_z-of_z w128 c.args.coefficient c.ranges.coefficient)
    ∙ ap (λ a. total a.terms ns +ℤ (c.args.coefficient *ℤ get_or ns c.args.place (pos 0))) c.self.view_is) c.add_at.ensures.added

pub returns-clause-linear : goal.returns-clause-linear
returns-clause-linear c = invariant_of-self c
