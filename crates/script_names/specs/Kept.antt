-- The sets that a script keeps by names (own). The place of a set in the list is the number by which statements refer to it.
use Rattle.std.specs.Prelude.{◌≡◌, ℕ, ◌≤◌, List, All, length, map, nat_eq, Option, None, Some, position, slice_get}
use Rattle.std.proofs.Common.{Vec, Global}
use Rattle.std.specs.Cmp.Lexicographic.{pointwise}
use Rattle.lash_model.specs.Formulas.{Sort, Formula}
use Rattle.formula_core.specs.Counts.{nodes_of, depth_of}
use Rattle.formula_core.specs.Shape.{formula_of}
use Rattle.script_names.specs.declared.kept.Definition.{Definition}
use Rattle.term_substitution.specs.Conditions.{IsOver, variables_limit}
use Rattle.term_substitution.specs.Limits.{nodes_limit, depth_limit}

-- a name, variables, and a core formula over them
pub record KeptSet : Type 0 where
  pub name : List ℕ
  pub vars : List (List ℕ × Sort)
  pub formula : Formula

-- the place of the set of a name, if one is kept
abbrev pub kept_place : List KeptSet → List ℕ → Option ℕ
kept_place kept name = position (λ k. pointwise nat_eq name k.name) kept

abbrev pub set_at : List KeptSet → Option ℕ → Option KeptSet
set_at kept None = None
set_at kept (Some at) = slice_get kept at

-- the set of a name, if one is kept
abbrev pub kept_set : List KeptSet → List ℕ → Option KeptSet
kept_set kept name = set_at kept (kept_place kept name)

-- the formula is over the variables, and inside the limits of nodes, depth, coefficients and constants
pub record IsKept (k : KeptSet) : Type 0 where
  pub few : length k.vars ≤ variables_limit
  pub over : IsOver (length k.vars) k.formula
  pub nodes : nodes_of k.formula ≤ nodes_limit
  pub depth : depth_of k.formula ≤ depth_limit

-- the greatest number of kept sets
abbrev pub sets_limit : ℕ
sets_limit = 1024

-- sets that are kept, each inside the limits
pub record AreKept (kept : List KeptSet) : Type 0 where
  pub few : length kept ≤ sets_limit
  pub all : All IsKept kept

-- as the program holds them
abbrev pub set_of : List ℕ × Definition → KeptSet
set_of e = record { name = e.0; vars = e.1.vars; formula = formula_of e.1.formula }

abbrev pub sets_of : List (List ℕ × Definition) → List KeptSet
sets_of es = map set_of es

-- an entry of the map
abbrev pub item_of : Vec ℕ Global × Definition → List ℕ × Definition
item_of e = (e.0.items, e.1)

abbrev pub sets_in : List (Vec ℕ Global × Definition) → List KeptSet
sets_in es = sets_of (map item_of es)
