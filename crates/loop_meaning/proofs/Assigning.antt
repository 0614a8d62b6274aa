-- Names of assignments, one behind the other.
use Rattle.std.proofs.Common.{◌≡◌, ℕ, ◌+◌, ◌<◌, List, ◌∷◌, length, drop, map, get_or, refl, ap, ◌∙◌, sym, subst, Some}
use Rattle.std.specs.Prelude.{Option}
use Rattle.std.proofs.lemmas.List.{drop_more}
use Rattle.script_statements.specs.Loops.{assignment_of}
use Rattle.script_statements.specs.declared.tree.Assignment.{Assignment}
use Rattle.script_names.specs.Scopes.{Scope}
use Rattle.script_names.specs.Faults.{or_else}
use Rattle.script_names.specs.Answers.{IsRefused}
use Rattle.script_names.specs.declared.names.FaultAt.{FaultAt}
use Rattle.script_names.specs.declared.names.NameError.{NameError}
use Rattle.script_names.specs.declared.names.NameError.TheVariants.{Fault, Memory}
use Rattle.loop_meaning.specs.Assigning.{assignment_fault, assignments_fault}

refused_first : (x y : Option FaultAt) (e : NameError) → IsRefused x e → IsRefused (or_else x y) e
refused_first x y (Fault f) h = ap (λ o. or_else o y) h
refused_first x y Memory h = tt

-- the fault of the next assignment is the first of all
pub next_is_refused : (default : Assignment) (scope before now : Scope) (items : List Assignment) (i : ℕ) (e : NameError) → i < length items → assignments_fault scope before (map assignment_of items) ≡ assignments_fault scope now (map assignment_of (drop i items)) → IsRefused (assignment_fault scope now (assignment_of (get_or items i default))) e → IsRefused (assignments_fault scope before (map assignment_of items)) e
next_is_refused default scope before now items i e lt same h = subst (λ o. IsRefused o e) (sym (same ∙ ap (λ ys. assignments_fault scope now (map assignment_of ys)) (drop_more items i default lt))) (refused_first (assignment_fault scope now (assignment_of (get_or items i default))) _ e h)
