-- A loop that was read has names without quote marks, at least one variable, and few parts of terms.
use Rattle.std.proofs.Common.{ℕ, ◌+◌, ◌≤◌, ◌≡◌, List, [], ◌∷◌, ◌++◌, length, arith, refl}
use Rattle.std.proofs.lemmas.List.{length-append, length_push}
use Rattle.parser_laws.specs.Parsing.{Either, first, other, Lang, both, items}
use Rattle.script_tokens.specs.declared.kind.Kind.TheVariants as kind
use Rattle.script_tokens.specs.Tokens.{PlacedToken}
use Rattle.script_tokens.specs.Naming.{AreNamed}
use Rattle.script_grammar.specs.Views.{is, sign, at}
use Rattle.script_grammar.specs.Terms.{term, declaration, declarations}
use Rattle.script_grammar.specs.Statements.{bound, bounded, guard, assign, assigns, turn, loop}
use Rattle.script_syntax.specs.Reading.{folded}
use Rattle.script_syntax.specs.Trees.{DeclarationShape, TreeShape, And, add_declaration, declaration_shape, declarations_shape, term_shape}
use Rattle.script_statements.specs.Loops.{ConstraintShape, AssignmentShape, constraint_shape, add_constraint, constraints_shape, guard_shape, assignment_shape, add_assignment, assignments_shape}
use Rattle.script_statements.specs.Statements.{turn_shape}
use Rattle.script_meaning.specs.Limits.{size_of}
use Rattle.loop_meaning.specs.Guards.{constraint_tree, joined_guard, guard_tree}
use Rattle.loop_meaning.specs.Assigning.{assigned_parts}
use Rattle.loop_meaning.specs.Looping.{IsLoopReadable}
use Rattle.script_parse.proofs.DeclaredNames.{declared_names, front}
use Rattle.script_parse.proofs.Sizes.{term_small, declarations_small}

-- the grammar's parts that have no name there
abbrev more_declarations : Lang PlacedToken
more_declarations = items (is kind.Comma) (both (sign kind.Comma) declaration)

abbrev more_constraints : Lang PlacedToken
more_constraints = items (is kind.And) (both (sign kind.And) bounded)

abbrev more_assignments : Lang PlacedToken
more_assignments = items (is kind.Comma) (both (sign kind.Comma) assign)

more_declared : (s : List DeclarationShape) (l : more_declarations.Tree) → length s ≤ length (folded add_declaration s l)
more_declared s [] = omega arith
more_declared s (x ∷ l) = omega (arith, more_declared (add_declaration s x) l, length_push s (declaration_shape x.right))

-- how many parts the terms of constraints have together
abbrev constraint_parts : List ConstraintShape → ℕ
constraint_parts [] = 0
constraint_parts (c ∷ cs) = (length c.left + length c.right) + constraint_parts cs

joined_size : (f : TreeShape) (cs : List ConstraintShape) → size_of (joined_guard f cs) ≡ size_of f + constraint_parts cs
joined_size f [] = omega arith
joined_size f (c ∷ cs) = omega (arith, joined_size (And f (constraint_tree c)) cs)

guard_size : (cs : List ConstraintShape) → size_of (guard_tree cs) ≡ constraint_parts cs
guard_size [] = refl
guard_size (c ∷ cs) = joined_size (constraint_tree c) cs

constraints_push : (s : List ConstraintShape) (c : ConstraintShape) → constraint_parts (s ++ c ∷ []) ≡ constraint_parts s + (length c.left + length c.right)
constraints_push [] c = omega arith
constraints_push (x ∷ s) c = omega (arith, constraints_push s c)

bounded_small : (x : bounded.Tree) → length (constraint_shape x).left + length (constraint_shape x).right ≤ length (bounded.toks x)
bounded_small x = omega (arith, term_small x.left, term_small x.right.right, length-append (term.toks x.left) ((both bound term).toks x.right), length-append (bound.toks x.right.left) (term.toks x.right.right))

constraints_more : (s : List ConstraintShape) (l : more_constraints.Tree) → constraint_parts (folded add_constraint s l) ≤ constraint_parts s + length (more_constraints.toks l)
constraints_more s [] = omega arith
constraints_more s (x ∷ l) = omega (arith, constraints_more (add_constraint s x) l, constraints_push s (constraint_shape x.right), bounded_small x.right, length-append (bounded.toks x.right) (more_constraints.toks l))

-- a guard has no more parts of terms than tokens
guard_small : (x : guard.Tree) → size_of (guard_tree (guard_shape x)) ≤ length (guard.toks x)
guard_small (first x) = omega arith
guard_small (other x) = omega (arith, guard_size (constraints_shape x), constraints_more (constraint_shape x.left ∷ []) x.right, bounded_small x.left, length-append (bounded.toks x.left) (more_constraints.toks x.right))

assigned_push : (s : List AssignmentShape) (a : AssignmentShape) → assigned_parts (s ++ a ∷ []) ≡ assigned_parts s + length a.term
assigned_push [] a = omega arith
assigned_push (x ∷ s) a = omega (arith, assigned_push s a)

assign_small : (x : assign.Tree) → length (assignment_shape x).term ≤ length (assign.toks x)
assign_small x = omega (arith, term_small x.right.right)

assigns_more : (s : List AssignmentShape) (l : more_assignments.Tree) → assigned_parts (folded add_assignment s l) ≤ assigned_parts s + length (more_assignments.toks l)
assigns_more s [] = omega arith
assigns_more s (x ∷ l) = omega (arith, assigns_more (add_assignment s x) l, assigned_push s (assignment_shape x.right), assign_small x.right, length-append (assign.toks x.right) (more_assignments.toks l))

-- assignments have no more parts of terms than tokens
assigns_small : (x : assigns.Tree) → assigned_parts (assignments_shape x) ≤ length (assigns.toks x)
assigns_small x = omega (arith, assigns_more (assignment_shape x.left ∷ []) x.right, assign_small x.left, length-append (assign.toks x.left) (more_assignments.toks x.right))

turn_small : (x : turn.Tree) → size_of (guard_tree (turn_shape x).guard) + assigned_parts (turn_shape x).assignments ≤ length (turn.toks x)
turn_small x = omega (arith, guard_small x.left, assigns_small x.right.right.left, length-append (guard.toks x.left) (at kind.Do x.right.left ∷ (assigns.toks x.right.right.left ++ at kind.Semicolon x.right.right.right ∷ [])), length-append (assigns.toks x.right.right.left) (at kind.Semicolon x.right.right.right ∷ []))

-- what stands behind the declarations
abbrev behind : loop.Tree → List PlacedToken
behind x = at kind.Close x.right.right.right.right.left ∷ (at kind.When x.right.right.right.right.right.left ∷ turn.toks x.right.right.right.right.right.right)

pub loop_readable : (x : loop.Tree) → AreNamed (loop.toks x) → length (loop.toks x) ≤ 65536 → IsLoopReadable (declarations_shape x.right.right.right.left) (turn_shape x.right.right.right.right.right.right)
loop_readable x named few = record {
  named = declared_names x.right.right.right.left (front (declarations.toks x.right.right.right.left) (behind x) named.1.1.1);
  some = more_declared (declaration_shape x.right.right.right.left.left ∷ []) x.right.right.right.left.right;
  size = omega (arith, few, declarations_small x.right.right.right.left, turn_small x.right.right.right.right.right.right, length-append (declarations.toks x.right.right.right.left) (behind x));
}
