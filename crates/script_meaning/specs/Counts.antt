-- What comparisons and quantifiers add to the nodes and to the depth of a core formula.
use Rattle.std.specs.Prelude.{ℕ}
use Rattle.script_grammar.specs.Views.{Relation, AtMost, Below, AtLeast, Above, Equal, Unequal, Quantifier, Exists, Forall}

-- a strict or unequal comparison is negated
abbrev pub compared_nodes : Relation → ℕ
compared_nodes AtMost = 1
compared_nodes AtLeast = 1
compared_nodes Equal = 1
compared_nodes Below = 2
compared_nodes Above = 2
compared_nodes Unequal = 2

-- for all is not for some not
abbrev pub bound_nodes : Quantifier → ℕ
bound_nodes Exists = 1
bound_nodes Forall = 3
