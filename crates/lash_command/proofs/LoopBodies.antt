-- A loop that was read is one that is kept: its body is inside the limits.
use Rattle.std.proofs.Common.{◌≡◌, ℕ, zero, suc, ◌+◌, ◌≤◌, ◌<◌, ◌^◌, List, [], ◌∷◌, ◌++◌, length, map, arith, refl, sym, ap, ◌∙◌, subst, Bool, true, false, cond, nat_lt, Option, None, Some}
use Rattle.std.specs.List.{AllByRecursion}
use Rattle.std.specs.Prelude.{◌↔◌, ℤ, unsigned_abs}
use Rattle.std.proofs.lemmas.Bool.{ltb-false}
use Rattle.std.proofs.lemmas.List.{length-append, length-map}
use Rattle.std.proofs.lemmas.List.Elements.{All-from_recursion}
use Rattle.parser_laws.proofs.Parts.{not_none}
use Rattle.integer_laws.specs.Vectors.{vector_from}
use Rattle.integer_laws.proofs.Entries.{length-vector_from}
use Rattle.lash_model.specs.Meaning.{holds}
use Rattle.script_grammar.specs.Statements.{Bound, AtMost, Below, AtLeast, Above, Equal}
use Rattle.script_syntax.specs.Trees.{Named, SignedShape, DeclarationShape, TreeShape, And}
use Rattle.script_statements.specs.Loops.{ConstraintShape, AssignmentShape}
use Rattle.script_statements.specs.Statements.{TurnShape}
use Rattle.script_names.specs.Kept.{KeptSet, kept_place, sets_limit}
use Rattle.script_names.specs.Scopes.{Scope, place_of, variable_of}
use Rattle.script_names.specs.Faults.{or_else}
use Rattle.script_meaning.specs.Core.{core, compared, constant_of}
use Rattle.script_meaning.specs.Resolving.{first_passed}
use Rattle.script_meaning.specs.declared.limits.Which.{Which}
use Rattle.script_meaning.specs.declared.limits.Which.TheVariants.{Literal, LoopVariables, Constant}
use Rattle.matrix_powers.specs.Orbits.{IsShift}
use Rattle.matrix_powers.specs.Powers.{IsPower}
use Rattle.loop_laws.specs.Turns.{Body, IsMember, IsGuard, after}
use Rattle.loop_laws.specs.Closures.{closure_of}
use Rattle.loop_meaning.specs.Guards.{relation_of_bound, constraint_tree, joined_guard, guard_tree}
use Rattle.loop_meaning.specs.Assigning.{is_place, assigned_to, becomes, next_term, next_shift, shift_passes}
use Rattle.loop_meaning.specs.Looping.{scope_of, guard_of, loop_literal, loop_variables_limit, loop_passed, shift_limit, loop_body, primed, loop_variables}
use Rattle.statement_meaning.specs.Judging.{is_full}
use Rattle.statement_answers.specs.Loops.{HasPairs, IsFitLoop, pairs_of}
use Rattle.statement_answers.proofs.Conditions.{substituted_over, passed_over}
use Rattle.lash_command.proofs.GivenSets.{left_false, right_false, AreFine, core_within, none_passed}

-- a comparison of a guard is none of unequal values
compared_member : (scope : Scope) (a : List SignedShape) (r : Bound) (b : List SignedShape) → IsMember (compared scope a (relation_of_bound r) b) × IsGuard (compared scope a (relation_of_bound r) b)
compared_member scope a AtMost b = (tt, tt)
compared_member scope a Below b = (tt, tt)
compared_member scope a AtLeast b = (tt, tt)
compared_member scope a Above b = (tt, tt)
compared_member scope a Equal b = (tt, tt)

joined_is_guard : (kept : List KeptSet) (scope : Scope) (f : TreeShape) (cs : List ConstraintShape) → IsGuard (core kept scope f) → IsGuard (core kept scope (joined_guard f cs))
joined_is_guard kept scope f [] h = h
joined_is_guard kept scope f (c ∷ cs) h = joined_is_guard kept scope (And f (constraint_tree c)) cs (h, (compared_member scope c.left c.bound c.right).0)

guard_is_guard : (kept : List KeptSet) (scope : Scope) (cs : List ConstraintShape) → IsGuard (core kept scope (guard_tree cs))
guard_is_guard kept scope [] = tt
guard_is_guard kept scope (c ∷ cs) = joined_is_guard kept scope (constraint_tree c) cs (compared_member scope c.left c.bound c.right).1

-- the constants of what variables become are small
small_next : (scope : Scope) (xs : List AssignmentShape) (row : ℕ) → shift_passes xs ≡ false → unsigned_abs (next_term scope xs row).constant ≤ 2 ^ 40
small_next scope [] row e = omega arith
small_next scope (a ∷ xs) row e = by (small_next scope xs row (right_false (nat_lt (2 ^ 40) (unsigned_abs (constant_of a.term))) (shift_passes xs) e)) (is_place row (place_of scope a.name.left))
  where
    by : unsigned_abs (next_term scope xs row).constant ≤ 2 ^ 40 → (b : Bool) → unsigned_abs (becomes scope row (cond b (Some a.term) (assigned_to scope xs row))).constant ≤ 2 ^ 40
    by rest true = ltb-false (2 ^ 40) (unsigned_abs (constant_of a.term)) (left_false _ (shift_passes xs) e)
    by rest false = rest

all_vector : (P : ℤ → Type 0) (f : ℕ → ℤ) (i n : ℕ) → ((j : ℕ) → P (f j)) → AllByRecursion P (vector_from f i n)
unfolding vector_from
all_vector P f i zero h = tt
all_vector P f i (suc n) h = (h i, all_vector P f (suc i) n h)

shift_is_small : (scope : Scope) (xs : List AssignmentShape) → shift_passes xs ≡ false → IsShift (length scope) (next_shift scope xs)
shift_is_small scope xs e = record {
  whole = length-vector_from (λ row. (next_term scope xs row).constant) 0 (length scope);
  small = All-from_recursion (λ b. unsigned_abs b ≤ 2 ^ 40) (next_shift scope xs) (all_vector (λ b. unsigned_abs b ≤ 2 ^ 40) (λ row. (next_term scope xs row).constant) 0 (length scope) (λ row. small_next scope xs row e));
}

-- no limit of two is passed
first_none : (x y : Option Which) → or_else x y ≡ None → x ≡ None
first_none None y e = refl
first_none (Some w) y e = absurd (not_none w (sym e))

second_none : (x y : Option Which) → or_else x y ≡ None → y ≡ None
second_none None y e = e
second_none (Some w) y e = absurd (not_none w (sym e))

-- a loop whose names are right and that passes no limit
pub loop_fits : (kept : List KeptSet) → AreFine kept → (is_full kept ≡ false → length kept < sets_limit) → (name : Named) (vars : List DeclarationShape) (t : TurnShape) → kept_place kept name.left ≡ None → loop_passed (is_full kept) kept vars t ≡ None → IsFitLoop kept name.left (loop_variables vars) (loop_body kept vars t)
loop_fits kept fine has_room name vars t fresh within =
    let literals = passed_over (loop_literal t) Literal _ within in
    let few = passed_over (nat_lt loop_variables_limit (length vars)) LoopVariables _ literals.rest in
    let limits = none_passed (is_full kept) (guard_tree t.guard) (guard_of kept vars t) (first_none (first_passed (is_full kept) (guard_tree t.guard) (guard_of kept vars t)) (shift_limit t) few.rest) in
    let shift = passed_over (shift_passes t.assignments) Constant None (second_none (first_passed (is_full kept) (guard_tree t.guard) (guard_of kept vars t)) (shift_limit t) few.rest) in
    record {
      inside = record {
        guard = guard_is_guard kept (scope_of vars) t.guard;
        over = substituted_over (length (scope_of vars)) (guard_of kept vars t) (core_within kept fine (scope_of vars) (guard_tree t.guard) limits.atoms);
        nodes = limits.nodes;
        depth = limits.depth;
        shift = shift_is_small (scope_of vars) t.assignments shift.test;
      };
      count = length-append (scope_of vars) (map primed (scope_of vars)) ∙ ap (λ n. length (scope_of vars) + n) (length-map (scope_of vars) primed);
      fresh = fresh;
      room = has_room limits.room;
    }

-- what closures mean, as a law of loops has it
abbrev ClosuresJoinTurns : Type 0
ClosuresJoinTurns = (l : Body) (p : ℕ) (x y : List ℤ) (d : ℕ) → 0 < p → IsPower l.matrix p → IsGuard l.guard → length x ≡ l.matrix.side → length y ≡ l.matrix.side → 0 < d → holds (closure_of false l p) (x ++ y) d ↔ ((k : ℕ) × after l d k x y)

-- a kept loop is its iterations
pub kept_turns : (base : ℕ) → ClosuresJoinTurns → (kept : List KeptSet) (vars : List DeclarationShape) (t : TurnShape) (x y : List ℤ) (d : ℕ) → HasPairs base (loop_body kept vars t) → length x ≡ length vars → length y ≡ length vars → 0 < d → holds (pairs_of (loop_body kept vars t)) (x ++ y) d ↔ ((k : ℕ) × after (loop_body kept vars t) d k x y)
kept_turns base joins kept vars t x y d h as_many as_many_behind some =
    let side : length (scope_of vars) ≡ length vars = length-map vars variable_of in
    subst (λ f. holds f (x ++ y) d ↔ ((k : ℕ) × after (loop_body kept vars t) d k x y)) (sym h.same)
    (joins (loop_body kept vars t) h.power x y d (omega (arith, h.least.some)) h.least.power (guard_is_guard kept (scope_of vars) t.guard) (as_many ∙ sym side) (as_many_behind ∙ sym side) some)
