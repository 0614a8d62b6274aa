-- Guards and assignments of loops: those of the grammar and those of the program.
use Rattle.std.specs.Prelude.{ℕ, List, [], ◌∷◌, ◌++◌, Option, None, Some}
use Rattle.parser_laws.specs.Parsing.{Res, first, other, Pair, both}
use Rattle.script_tokens.specs.Tokens.{PlacedToken}
use Rattle.script_tokens.specs.declared.kind.Kind.TheVariants as kind
use Rattle.script_grammar.specs.Views.{is, sign}
use Rattle.script_grammar.specs.Statements.{Bound, AtMost, Below, AtLeast, Above, Equal, bounded, guard, assign, assigns}
use Rattle.script_syntax.specs.Reading.{folded, rest_of}
use Rattle.script_syntax.specs.Trees.{Named, SignedShape, term_shape, term_of, named_of}
use Rattle.script_statements.specs.declared.tree.Bound.{Bound as DeclaredBound}
use Rattle.script_statements.specs.declared.tree.Bound.TheVariants.{AtMost as DeclaredAtMost, Below as DeclaredBelow, AtLeast as DeclaredAtLeast, Above as DeclaredAbove, Equal as DeclaredEqual}
use Rattle.script_statements.specs.declared.tree.Constraint.{Constraint}
use Rattle.script_statements.specs.declared.tree.Assignment.{Assignment}

-- a comparison of two terms
pub record ConstraintShape : Type 0 where
  pub left : List SignedShape
  pub bound : Bound
  pub right : List SignedShape

abbrev pub constraint_shape : bounded.Tree → ConstraintShape
constraint_shape x = record { left = term_shape x.left; bound = x.right.left.left; right = term_shape x.right.right }

-- a constraint more, behind `and`
abbrev pub join_constraint : List ConstraintShape → ℕ → ConstraintShape → List ConstraintShape
join_constraint s word c = s ++ c ∷ []

abbrev pub add_constraint : List ConstraintShape → Pair ℕ bounded.Tree → List ConstraintShape
add_constraint s x = join_constraint s x.left (constraint_shape x.right)

abbrev pub constraints_shape : Pair bounded.Tree (List (Pair ℕ bounded.Tree)) → List ConstraintShape
constraints_shape x = folded add_constraint (constraint_shape x.left ∷ []) x.right

-- a guard is the conjunction of its constraints, and `true` has none
abbrev pub guard_shape : guard.Tree → List ConstraintShape
guard_shape (first x) = []
guard_shape (other x) = constraints_shape x

-- the constraints that are still to be read, behind those that were
abbrev pub constraints_read : ℕ → List ConstraintShape → List PlacedToken → Res PlacedToken (List ConstraintShape)
constraints_read n s ts = rest_of (is kind.And) (both (sign kind.And) bounded).parse add_constraint n s ts

-- a variable with the term that it is set to
pub record AssignmentShape : Type 0 where
  pub name : Named
  pub term : List SignedShape

abbrev pub assignment_shape : assign.Tree → AssignmentShape
assignment_shape x = record { name = x.left; term = term_shape x.right.right }

-- an assignment more, behind its comma
abbrev pub join_assignment : List AssignmentShape → ℕ → AssignmentShape → List AssignmentShape
join_assignment s comma a = s ++ a ∷ []

abbrev pub add_assignment : List AssignmentShape → Pair ℕ assign.Tree → List AssignmentShape
add_assignment s x = join_assignment s x.left (assignment_shape x.right)

abbrev pub assignments_shape : assigns.Tree → List AssignmentShape
assignments_shape x = folded add_assignment (assignment_shape x.left ∷ []) x.right

-- the assignments that are still to be read, behind those that were
abbrev pub assignments_read : ℕ → List AssignmentShape → List PlacedToken → Res PlacedToken (List AssignmentShape)
assignments_read n s ts = rest_of (is kind.Comma) (both (sign kind.Comma) assign).parse add_assignment n s ts

-- the same of the program's trees
abbrev pub bound_of : DeclaredBound → Bound
bound_of DeclaredAtMost = AtMost
bound_of DeclaredBelow = Below
bound_of DeclaredAtLeast = AtLeast
bound_of DeclaredAbove = Above
bound_of DeclaredEqual = Equal

abbrev pub bound_shown : Option DeclaredBound → Option Bound
bound_shown None = None
bound_shown (Some b) = Some (bound_of b)

abbrev pub constraint_of : Constraint → ConstraintShape
constraint_of c = record { left = term_of c.left; bound = bound_of c.bound; right = term_of c.right }

abbrev pub assignment_of : Assignment → AssignmentShape
assignment_of a = record { name = named_of a.name; term = term_of a.term }
