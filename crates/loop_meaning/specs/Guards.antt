-- The guard of a loop as a formula: the conjunction of its constraints, joined from the left; `true` where there are none.
use Rattle.std.specs.Prelude.{List, [], ◌∷◌, true}
use Rattle.script_grammar.specs.Statements.{Bound, AtMost, Below, AtLeast, Above, Equal}
use Rattle.script_grammar.specs.Views.{Relation}
use Rattle.script_grammar.specs.Views as relation
use Rattle.script_syntax.specs.Trees.{TreeShape, Truth, Compare, And}
use Rattle.script_statements.specs.Loops.{ConstraintShape}

abbrev pub relation_of_bound : Bound → Relation
relation_of_bound AtMost = relation.AtMost
relation_of_bound Below = relation.Below
relation_of_bound AtLeast = relation.AtLeast
relation_of_bound Above = relation.Above
relation_of_bound Equal = relation.Equal

abbrev pub constraint_tree : ConstraintShape → TreeShape
constraint_tree c = Compare c.left (relation_of_bound c.bound) c.right

-- constraints joined behind a formula
abbrev pub joined_guard : TreeShape → List ConstraintShape → TreeShape
joined_guard f [] = f
joined_guard f (c ∷ cs) = joined_guard (And f (constraint_tree c)) cs

abbrev pub guard_tree : List ConstraintShape → TreeShape
guard_tree [] = Truth true
guard_tree (c ∷ cs) = joined_guard (constraint_tree c) cs
