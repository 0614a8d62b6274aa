-- Counts of nodes that stop at a limit.
use Rattle.std.proofs.Common.{◌≡◌, ◌+◌, ◌*◌, List, [], ◌∷◌, length, arith, refl}
use Rattle.lash_model.specs.Formulas.{Formula}
use Rattle.formula_core.specs.Counts.{nodes_of, depth_of}
use Rattle.script_grammar.specs.Views.{Relation, AtMost, Below, AtLeast, Above, Equal, Unequal, Quantifier, Exists, Forall}
use Rattle.script_syntax.specs.Trees.{SignedShape, DeclarationShape}
use Rattle.script_names.specs.Scopes.{Scope}
use Rattle.script_meaning.specs.Core.{compared, bound_all}
use Rattle.script_meaning.specs.Counts.{compared_nodes, bound_nodes}

pub compared_count : (scope : Scope) (a : List SignedShape) (r : Relation) (b : List SignedShape) → nodes_of (compared scope a r b) ≡ compared_nodes r
compared_count scope a AtMost b = refl
compared_count scope a Below b = refl
compared_count scope a AtLeast b = refl
compared_count scope a Above b = refl
compared_count scope a Equal b = refl
compared_count scope a Unequal b = refl

pub compared_depth : (scope : Scope) (a : List SignedShape) (r : Relation) (b : List SignedShape) → depth_of (compared scope a r b) ≡ compared_nodes r
compared_depth scope a AtMost b = refl
compared_depth scope a Below b = refl
compared_depth scope a AtLeast b = refl
compared_depth scope a Above b = refl
compared_depth scope a Equal b = refl
compared_depth scope a Unequal b = refl

pub bound_count : (q : Quantifier) (ds : List DeclarationShape) (f : Formula) → nodes_of (bound_all q ds f) ≡ nodes_of f + bound_nodes q * length ds
bound_count Exists [] f = omega arith
bound_count Exists (d ∷ ds) f = let rec = bound_count Exists ds f in omega (arith, rec)
bound_count Forall [] f = omega arith
bound_count Forall (d ∷ ds) f = let rec = bound_count Forall ds f in omega (arith, rec)

pub bound_depth : (q : Quantifier) (ds : List DeclarationShape) (f : Formula) → depth_of (bound_all q ds f) ≡ depth_of f + bound_nodes q * length ds
bound_depth Exists [] f = omega arith
bound_depth Exists (d ∷ ds) f = let rec = bound_depth Exists ds f in omega (arith, rec)
bound_depth Forall [] f = omega arith
bound_depth Forall (d ∷ ds) f = let rec = bound_depth Forall ds f in omega (arith, rec)
