-- A loop has one closure, or is refused for one cause beside want of memory.
use Rattle.std.proofs.Common.{◌≡◌, ℕ, ◌<◌, arith, refl, sym, ap, ◌∙◌, Bool, Option, None, Some}
use Rattle.lash_model.specs.Formulas.{Formula}
use Rattle.term_substitution.specs.Limits.{first_passed}
use Rattle.term_substitution.specs.declared.errors.FormError.{FormError}
use Rattle.term_substitution.specs.declared.errors.FormError.TheVariants as form
use Rattle.matrix_powers.specs.Matrices.{Square}
use Rattle.matrix_powers.specs.Powers.{IsLeastPower, HasNoPower}
use Rattle.loop_laws.specs.Turns.{Body}
use Rattle.loop_laws.specs.Closures.{closure_of}
use Rattle.loop_closure.specs.Closing.{IsClosed, IsPassed, IsUnclosed}
use Rattle.loop_closure.specs.declared.errors.LoopError.{LoopError}
use Rattle.loop_closure.specs.declared.errors.LoopError.TheVariants.{NoPower, Nodes, Depth, Coefficient, Constant, Memory}

not_below : (a : Square) (p q : ℕ) → IsLeastPower a p → IsLeastPower a q → p < q → ⊥
not_below a p q h k lt = k.least p h.some lt h.power

one_power : (a : Square) (p q : ℕ) → IsLeastPower a p → IsLeastPower a q → p ≡ q
one_power a p q h k = omega (arith, not_below a p q h k, not_below a q p k h)

-- the limit that is passed, or none where there is no power
abbrev cause_of : LoopError → Option FormError
cause_of NoPower = None
cause_of Nodes = Some form.Nodes
cause_of Depth = Some form.Depth
cause_of Coefficient = Some form.Coefficient
cause_of Constant = Some form.Constant
cause_of Memory = Some form.Memory

abbrev of_cause : Option FormError → LoopError
of_cause None = NoPower
of_cause (Some form.Nodes) = Nodes
of_cause (Some form.Depth) = Depth
of_cause (Some form.Coefficient) = Coefficient
of_cause (Some form.Constant) = Constant
of_cause (Some form.Memory) = Memory

same_error : (e : LoopError) → of_cause (cause_of e) ≡ e
same_error NoPower = refl
same_error Nodes = refl
same_error Depth = refl
same_error Coefficient = refl
same_error Constant = refl
same_error Memory = refl

abbrev IsCaused : Bool → Body → Option FormError → Type 0
IsCaused counted l None = HasNoPower l.matrix
IsCaused counted l (Some e) = IsPassed counted l e

caused : (counted : Bool) (l : Body) (e : LoopError) → IsUnclosed counted l e → (e ≡ Memory → ⊥) → IsCaused counted l (cause_of e)
caused counted l NoPower h other = h
caused counted l Nodes h other = h
caused counted l Depth h other = h
caused counted l Coefficient h other = h
caused counted l Constant h other = h
caused counted l Memory h other = absurd (other refl)

none_passed : (counted : Bool) (l : Body) (e : FormError) → HasNoPower l.matrix → IsPassed counted l e → ⊥
none_passed counted l e none h = none h.power h.least.some h.least.few h.least.power

one_passed : (counted : Bool) (l : Body) (e d : FormError) → IsPassed counted l e → IsPassed counted l d → Some e ≡ Some d
one_passed counted l e d h k = sym h.first ∙ ap (λ p. first_passed (closure_of counted l p)) (one_power l.matrix h.power k.power h.least k.least) ∙ k.first

one_cause : (counted : Bool) (l : Body) (e d : Option FormError) → IsCaused counted l e → IsCaused counted l d → e ≡ d
one_cause counted l None None h k = refl
one_cause counted l None (Some d) h k = absurd (none_passed counted l d h k)
one_cause counted l (Some e) None h k = absurd (none_passed counted l e k h)
one_cause counted l (Some e) (Some d) h k = one_passed counted l e d h k

pub one_error : (counted : Bool) (l : Body) (e d : LoopError) → IsUnclosed counted l e → IsUnclosed counted l d → (e ≡ Memory → ⊥) → (d ≡ Memory → ⊥) → e ≡ d
one_error counted l e d h k other another = sym (same_error e) ∙ ap of_cause (one_cause counted l (cause_of e) (cause_of d) (caused counted l e h other) (caused counted l d k another)) ∙ same_error d

inside : (counted : Bool) (l : Body) (f : Formula) (e : FormError) → IsClosed counted l f → first_passed f ≡ None → IsPassed counted l e → ⊥
inside counted l f e h none k =
    let is : None ≡ Some e = sym none ∙ ap first_passed h.same ∙ ap (λ p. first_passed (closure_of counted l p)) (one_power l.matrix h.power k.power h.least k.least) ∙ k.first in
    cc is

pub closed_alone : (counted : Bool) (l : Body) (f : Formula) (e : LoopError) → IsClosed counted l f → first_passed f ≡ None → IsUnclosed counted l e → e ≡ Memory
closed_alone counted l f NoPower h none k = absurd (k h.power h.least.some h.least.few h.least.power)
closed_alone counted l f Nodes h none k = absurd (inside counted l f form.Nodes h none k)
closed_alone counted l f Depth h none k = absurd (inside counted l f form.Depth h none k)
closed_alone counted l f Coefficient h none k = absurd (inside counted l f form.Coefficient h none k)
closed_alone counted l f Constant h none k = absurd (inside counted l f form.Constant h none k)
closed_alone counted l f Memory h none k = refl
