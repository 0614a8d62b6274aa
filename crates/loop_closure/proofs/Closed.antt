-- A closure inside all limits is over its variables, and binds integers only.
use Rattle.std.proofs.Common.{◌≡◌, ℕ, ◌≤◌, refl, sym, subst, Bool, true, false, None, Some, cond, nat_lt}
use Rattle.lash_model.specs.Formulas.{Formula}
use Rattle.formula_core.specs.Counts.{nodes_of, depth_of, binds_ints}
use Rattle.term_substitution.specs.Conditions.{IsOver}
use Rattle.term_substitution.specs.Limits.{nodes_limit, depth_limit, some_atom, coefficients_pass, constant_passes, first_passed}
use Rattle.term_substitution.specs.declared.errors.FormError.{FormError}
use Rattle.term_substitution.specs.declared.errors.FormError.TheVariants as form
use Rattle.loop_laws.specs.Turns.{Body}
use Rattle.loop_laws.specs.Closures.{closure_of, places_of}
use Rattle.loop_closure.specs.Closing.{IsBody}
use Rattle.loop_closure.proofs.Placing.{IsLoop, IsPart, closure_part}

-- the last two of the tests found nothing
first_none : (a b c d : Bool) (e f g h : FormError) → cond a (Some e) (cond b (Some f) (cond c (Some g) (cond d (Some h) None))) ≡ None → record { few : c ≡ false; small : d ≡ false }
first_none true b c d e f g h is = absurd (cc is)
first_none false true c d e f g h is = absurd (cc is)
first_none false false true d e f g h is = absurd (cc is)
first_none false false false true e f g h is = absurd (cc is)
first_none false false false false e f g h is = record { few = refl; small = refl }

pub passes_nothing : (f : Formula) → first_passed f ≡ None → record { few : some_atom coefficients_pass f ≡ false; small : some_atom constant_passes f ≡ false }
passes_nothing f is = first_none (nat_lt nodes_limit (nodes_of f)) (nat_lt depth_limit (depth_of f)) (some_atom coefficients_pass f) (some_atom constant_passes f) form.Nodes form.Depth form.Coefficient form.Constant is

is_loop : (l : Body) → IsBody l → 1 ≤ l.matrix.side → IsLoop l
is_loop l h some = record { guard = h.guard; over = h.over; some = some }

pub over_places : (counted : Bool) (l : Body) (p : ℕ) (f : Formula) → IsBody l → 1 ≤ l.matrix.side → 1 ≤ p → f ≡ closure_of counted l p → first_passed f ≡ None → IsOver (places_of counted l) f
over_places counted l p f h side some is none =
    let part : IsPart (places_of counted l) f = subst (IsPart (places_of counted l)) (sym is) (closure_part counted l p (is_loop l h side) some) in
    let passes = passes_nothing f none in
    part.over passes.few passes.small

pub ints_bound : (counted : Bool) (l : Body) (p : ℕ) (f : Formula) → IsBody l → 1 ≤ l.matrix.side → 1 ≤ p → f ≡ closure_of counted l p → binds_ints f ≡ true
ints_bound counted l p f h side some is = subst (λ g. binds_ints g ≡ true) (sym is) (closure_part counted l p (is_loop l h side) some).ints
