-- The core formula that a tree stands for.
use Rattle.std.specs.Prelude.{ℕ, nat_eq, List, [], ◌∷◌, length, map, Bool, true, false, not, Option, None, Some, ℤ, pos, negsuc, neg_ℤ, ◌+ℤ◌, ◌-ℤ◌, if◌then◌else◌}
use Rattle.lash_model.specs.Formulas.{Sort, Linear, Formula, AtMost as CoreAtMost, Equal as CoreEqual, Atom as CoreAtom, Not as CoreNot, And as CoreAnd, Or as CoreOr, Exists as CoreExists}
use Rattle.formula_core.specs.Terms.{added}
use Rattle.script_grammar.specs.Views.{Relation, AtMost, Below, AtLeast, Above, Equal, Unequal, Quantifier, Exists, Forall}
use Rattle.script_syntax.specs.Trees.{PartShape, Constant, Scaled, Variable, SignedShape, DeclarationShape, TreeShape, Truth, Compare, Call, Not, And, Or, Implies, Equivalent, Quantified}
use Rattle.term_substitution.specs.Substitution.{substituted}
use Rattle.script_names.specs.Kept.{KeptSet, kept_set}
use Rattle.script_names.specs.Scopes.{Scope, place_of, with_declared}

-- a number with its sign
abbrev pub signed : Bool → ℕ → ℤ
signed minus n = if minus then neg_ℤ (pos n) else pos n

-- the other sign where the side is turned
abbrev pub turned : Bool → Bool → Bool
turned turn minus = if minus then not turn else turn

-- a coefficient added at the place of a name
abbrev pub added_at : List (ℕ × ℤ) → Option ℕ → ℤ → List (ℕ × ℤ)
added_at terms None coefficient = terms
added_at terms (Some place) coefficient = added terms place coefficient

-- the coefficient of a part, added to those that are there
abbrev pub with_part : Scope → List (ℕ × ℤ) → Bool → PartShape → List (ℕ × ℤ)
with_part scope terms minus (Constant n) = terms
with_part scope terms minus (Scaled n name) = added_at terms (place_of scope name.left) (signed minus n)
with_part scope terms minus (Variable name) = added_at terms (place_of scope name.left) (signed minus 1)

-- the coefficients of a term, added to those that are there; where the side is turned they are taken away
abbrev pub with_term : Scope → Bool → List (ℕ × ℤ) → List SignedShape → List (ℕ × ℤ)
with_term scope turn terms [] = terms
with_term scope turn terms (s ∷ ss) = with_term scope turn (with_part scope terms (turned turn s.minus) s.part) ss

abbrev pub part_constant : Bool → PartShape → ℤ
part_constant minus (Constant n) = signed minus n
part_constant minus (Scaled n name) = pos 0
part_constant minus (Variable name) = pos 0

-- the sum of the constants of a term
abbrev pub constant_of : List SignedShape → ℤ
constant_of [] = pos 0
constant_of (s ∷ ss) = part_constant s.minus s.part +ℤ constant_of ss

-- the atom of left - right <= 0: the coefficients of the left term minus those of the right one, and the constant of the right term
-- minus that of the left one
abbrev pub difference : Scope → List SignedShape → List SignedShape → Linear
difference scope left right = record {
  terms = with_term scope true (with_term scope false [] left) right;
  constant = constant_of right -ℤ constant_of left;
}

-- an atom that always holds, and one that never does
abbrev pub truth : Bool → Formula
truth b = CoreAtom CoreAtMost (record { terms = []; constant = if b then pos 0 else negsuc 0 })

-- a strict relation is the negation of the other one with its sides exchanged
abbrev pub compared : Scope → List SignedShape → Relation → List SignedShape → Formula
compared scope left AtMost right = CoreAtom CoreAtMost (difference scope left right)
compared scope left AtLeast right = CoreAtom CoreAtMost (difference scope right left)
compared scope left Below right = CoreNot (CoreAtom CoreAtMost (difference scope right left))
compared scope left Above right = CoreNot (CoreAtom CoreAtMost (difference scope left right))
compared scope left Equal right = CoreAtom CoreEqual (difference scope left right)
compared scope left Unequal right = CoreNot (CoreAtom CoreEqual (difference scope left right))

-- the atom of a comparison: `>=` and `<` exchange the sides
abbrev pub compared_atom : Scope → List SignedShape → Relation → List SignedShape → Linear
compared_atom scope left AtMost right = difference scope left right
compared_atom scope left AtLeast right = difference scope right left
compared_atom scope left Below right = difference scope right left
compared_atom scope left Above right = difference scope left right
compared_atom scope left Equal right = difference scope left right
compared_atom scope left Unequal right = difference scope left right

-- the formula of a comparison whose atom is given
abbrev pub claimed : Relation → Linear → Formula
claimed AtMost a = CoreAtom CoreAtMost a
claimed AtLeast a = CoreAtom CoreAtMost a
claimed Below a = CoreNot (CoreAtom CoreAtMost a)
claimed Above a = CoreNot (CoreAtom CoreAtMost a)
claimed Equal a = CoreAtom CoreEqual a
claimed Unequal a = CoreNot (CoreAtom CoreEqual a)

-- one variable bound; for all is not for some not
abbrev pub bound : Quantifier → Sort → Formula → Formula
bound Exists sort f = CoreExists sort f
bound Forall sort f = CoreNot (CoreExists sort (CoreNot f))

-- the variables bound in their order, the first one outermost
abbrev pub bound_all : Quantifier → List DeclarationShape → Formula → Formula
bound_all q [] f = f
bound_all q (d ∷ ds) f = bound q d.sort (bound_all q ds f)

-- the term that an argument is
abbrev pub argument : Scope → List SignedShape → Linear
argument scope t = record { terms = with_term scope false [] t; constant = constant_of t }

-- the formula of a kept set that has as many variables
abbrev pub callee : Option KeptSet → ℕ → Option Formula
callee None count = None
callee (Some k) count = if nat_eq count (length k.vars) then Some k.formula else None

-- a called set stands there with its formula at the arguments; a call whose name is wrong has no formula
abbrev pub called : Option Formula → Scope → List (List SignedShape) → Formula
called None scope ts = truth false
called (Some f) scope ts = substituted f (map (argument scope) ts) (length scope)

-- the core formula of a tree, where these sets are kept and these variables are in scope
abbrev pub core : List KeptSet → Scope → TreeShape → Formula
core kept scope (Truth b) = truth b
core kept scope (Compare left relation right) = compared scope left relation right
core kept scope (Call name ts) = called (callee (kept_set kept name.left) (length ts)) scope ts
core kept scope (Not f) = CoreNot (core kept scope f)
core kept scope (And f g) = CoreAnd (core kept scope f) (core kept scope g)
core kept scope (Or f g) = CoreOr (core kept scope f) (core kept scope g)
core kept scope (Implies f g) = CoreOr (CoreNot (core kept scope f)) (core kept scope g)
core kept scope (Equivalent f g) = CoreAnd (CoreOr (CoreNot (core kept scope f)) (core kept scope g)) (CoreOr (CoreNot (core kept scope g)) (core kept scope f))
core kept scope (Quantified q ds f) = bound_all q ds (core kept (with_declared scope ds) f)
