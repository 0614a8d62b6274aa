-- What the core formulas of connectives say, and that limits exclude each other.
use Rattle.std.proofs.Common.{◌≡◌, ℕ, ◌<◌, List, arith, sym, ◌∙◌, ap, Option, None, Some, Bool, true, false, inl, inr}
use Rattle.std.proofs.Math.IntN.{ℤ, pos}
use Rattle.std.specs.Prelude.{◌⊎◌, ◌↔◌}
use Rattle.std.proofs.lemmas.Bool.{false≢true}
use Rattle.std.proofs.lemmas.Int.{ints}
use Rattle.integer_laws.proofs.Ring.{times_comm, times_zero}
use Rattle.lash_model.specs.Formulas.{Formula}
use Rattle.lash_model.specs.Meaning.{total, holds}
use Rattle.script_syntax.specs.Trees.{TreeShape, Truth, Not, And, Or, Implies, Equivalent}
use Rattle.script_names.specs.Kept.{KeptSet}
use Rattle.script_names.specs.Scopes.{Scope}
use Rattle.script_meaning.specs.Core.{core}
use Rattle.script_meaning.specs.Resolving.{IsWithin, IsFirstPassed}
use Rattle.script_meaning.specs.declared.limits.Which.{Which}

pub always : (kept : List KeptSet) (scope : Scope) (ns : List ℤ) (d : ℕ) → holds (core kept scope (Truth true)) ns d
unfolding holds total
always kept scope ns d = omega (arith, ints, times_comm (pos 0) (pos d), times_zero (pos d))

pub never : (kept : List KeptSet) (scope : Scope) (ns : List ℤ) (d : ℕ) → 0 < d → holds (core kept scope (Truth false)) ns d → ⊥
unfolding holds total
never kept scope ns d h k = omega (arith, ints, h, k)

pub negation : (kept : List KeptSet) (scope : Scope) (f : TreeShape) (ns : List ℤ) (d : ℕ) → holds (core kept scope (Not f)) ns d ↔ (holds (core kept scope f) ns d → ⊥)
unfolding holds
negation kept scope f ns d = (λ h. h, λ h. h)

pub conjunction : (kept : List KeptSet) (scope : Scope) (f g : TreeShape) (ns : List ℤ) (d : ℕ) → holds (core kept scope (And f g)) ns d ↔ (holds (core kept scope f) ns d × holds (core kept scope g) ns d)
unfolding holds
conjunction kept scope f g ns d = (λ h. h, λ h. h)

pub disjunction : (kept : List KeptSet) (scope : Scope) (f g : TreeShape) (ns : List ℤ) (d : ℕ) → holds (core kept scope (Or f g)) ns d ↔ (holds (core kept scope f) ns d ⊎ holds (core kept scope g) ns d)
unfolding holds
disjunction kept scope f g ns d = (λ h. h, λ h. h)

pub implication : (kept : List KeptSet) (scope : Scope) (f g : TreeShape) (ns : List ℤ) (d : ℕ) → holds (core kept scope (Implies f g)) ns d ↔ ((holds (core kept scope f) ns d → ⊥) ⊎ holds (core kept scope g) ns d)
unfolding holds
implication kept scope f g ns d = (λ h. h, λ h. h)

pub equivalence : (kept : List KeptSet) (scope : Scope) (f g : TreeShape) (ns : List ℤ) (d : ℕ) → holds (core kept scope (Equivalent f g)) ns d ↔ (holds (core kept scope (Implies f g)) ns d × holds (core kept scope (Implies g f)) ns d)
unfolding holds
equivalence kept scope f g ns d = (λ h. h, λ h. h)

is_some : {A : Type 0} → Option A → Bool
is_some None = false
is_some (Some x) = true

none_or_some : {A : Type 0} {o : Option A} {x : A} → o ≡ None → o ≡ Some x → ⊥
unfolding is_some
none_or_some e f = false≢true (ap is_some (sym e ∙ f))

or_this : {A : Type 0} → A → Option A → A
or_this x None = x
or_this x (Some y) = y

same : {A : Type 0} {o : Option A} {x y : A} → o ≡ Some x → o ≡ Some y → x ≡ y
unfolding or_this
same {x = x} e f = ap (or_this x) (sym e ∙ f)

pub within_or_passed : (full : Bool) (base places : ℕ) (tree : TreeShape) (f : Formula) (which : Which) → IsWithin full base places tree f → IsFirstPassed full base places tree f which → ⊥
within_or_passed full base places tree f which h k = elim k [ inl e ↦ none_or_some h.none e | inr p ↦ p.2 h.letters ]

pub one_passed : (full : Bool) (base places : ℕ) (tree : TreeShape) (f : Formula) (which other : Which) → IsFirstPassed full base places tree f which → IsFirstPassed full base places tree f other → which ≡ other
one_passed full base places tree f which other h k = elim h [
  | inl e ↦ elim k [ inl d ↦ same e d | inr q ↦ absurd (none_or_some q.0 e) ]
  | inr p ↦ elim k [ inl d ↦ absurd (none_or_some p.0 d) | inr q ↦ p.1 ∙ sym q.1 ]
]
