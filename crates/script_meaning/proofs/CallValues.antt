-- A call says of a vector what the kept set says of the values of its arguments.
use Rattle.std.proofs.Common.{get_or, false, true, ◌≡◌, ℕ, ◌<◌, List, [], ◌∷◌, length, map, arith, refl, ap, ap₂, sym, subst, nat_eq, Option, Some}
use Rattle.std.proofs.Math.IntN.{ℤ}
use Rattle.std.specs.Prelude.{◌↔◌}
use Rattle.std.specs.List.{All}
use Rattle.std.proofs.lemmas.Int.{ints}
use Rattle.std.proofs.lemmas.List.Elements.{All-map, All-from_recursion}
use Rattle.lash_model.specs.Formulas.{Linear, Formula}
use Rattle.lash_model.specs.Meaning.{holds}
use Rattle.term_substitution.specs.Substitution.{substituted}
use Rattle.term_substitution.specs.Values.{term_value}
use Rattle.term_substitution.proofs.Valuing.{replaces_values}
use Rattle.script_syntax.specs.Trees.{Named, SignedShape, Call}
use Rattle.script_names.specs.Kept.{KeptSet, kept_set}
use Rattle.script_names.specs.Scopes.{Scope}
use Rattle.script_meaning.specs.Core.{argument, callee, called, core}
use Rattle.script_meaning.specs.Values.{value_of}
use Rattle.script_meaning.proofs.Placing.{term_below}
use Rattle.script_meaning.proofs.Valuing.{total_term, none}

-- an argument's term has the argument's value
argument_value : (scope : Scope) (ns : List ℤ) (d : ℕ) (t : List SignedShape) → term_value ns d (argument scope t) ≡ value_of scope ns d t
argument_value scope ns d t = omega (arith, ints, total_term scope [] t ns d, none ns)

argument_values : (scope : Scope) (ns : List ℤ) (d : ℕ) (ts : List (List SignedShape)) → map (term_value ns d) (map (argument scope) ts) ≡ map (value_of scope ns d) ts
argument_values scope ns d [] = refl
argument_values scope ns d (t ∷ ts) = ap₂ (λ x xs. x ∷ xs) (argument_value scope ns d t) (argument_values scope ns d ts)

arguments_over : (scope : Scope) (ts : List (List SignedShape)) → All (λ (a : Linear). All (λ (s : ℕ × ℤ). s.0 < length scope) a.terms) (map (argument scope) ts)
arguments_over scope ts = All-map (λ (a : Linear). All (λ (s : ℕ × ℤ). s.0 < length scope) a.terms) (argument scope) ts (λ k t inside. All-from_recursion (λ (s : ℕ × ℤ). s.0 < length scope) _ (term_below scope false [] (get_or ts k t) tt))

same_count : (n : ℕ) → nat_eq n n ≡ true
same_count n = grind arith

callee_is : (o : Option KeptSet) (k : KeptSet) (n : ℕ) → o ≡ Some k → n ≡ length k.vars → callee o n ≡ Some k.formula
callee_is o k n found count = rw found (rw count (rw (same_count (length k.vars)) refl))

pub call_asks : (kept : List KeptSet) (scope : Scope) (name : Named) (ts : List (List SignedShape)) (k : KeptSet) (ns : List ℤ) (d : ℕ) → kept_set kept name.left ≡ Some k → length ts ≡ length k.vars → length ns ≡ length scope → holds (core kept scope (Call name ts)) ns d ↔ holds k.formula (map (value_of scope ns d) ts) d
call_asks kept scope name ts k ns d found count places =
    subst (λ o. holds (called o scope ts) ns d ↔ holds k.formula (map (value_of scope ns d) ts) d) (sym (callee_is (kept_set kept name.left) k (length ts) found count))
    (subst (λ vs. holds (substituted k.formula (map (argument scope) ts) (length scope)) ns d ↔ holds k.formula vs d) (argument_values scope ns d ts)
    (replaces_values k.formula (map (argument scope) ts) (length scope) ns d places (arguments_over scope ts)))
