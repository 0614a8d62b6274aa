-- Each place of a term is that of a name in scope.
use Rattle.std.proofs.Common.{◌≡◌, ℕ, ◌+◌, ◌<◌, List, [], ◌∷◌, length, refl, Bool, true, false, Option, None, Some}
use Rattle.std.proofs.Math.IntN.{ℤ}
use Rattle.std.proofs.lemmas.List.Quantifiers.{position-Some}
use Rattle.lash_model.specs.Formulas.{Int}
use Rattle.script_syntax.specs.Trees.{PartShape, Constant, Scaled, Variable, SignedShape}
use Rattle.script_names.specs.Scopes.{Scope, place_of}
use Rattle.script_meaning.specs.Core.{signed, turned, added_at, with_part, with_term, difference}
use Rattle.term_substitution.proofs.Reaching.{AreBelow, added_below}

-- the place of a name is a position in the scope
pub place_below : (scope : Scope) (name : List ℕ) (place : ℕ) → place_of scope name ≡ Some place → place < length scope
place_below scope name place e = (position-Some _ scope place ([], Int) e).0

at_below : (m : ℕ) (ts : List (ℕ × ℤ)) (o : Option ℕ) (c : ℤ) → ((place : ℕ) → o ≡ Some place → place < m) → AreBelow m ts → AreBelow m (added_at ts o c)
at_below m ts None c lt h = h
at_below m ts (Some place) c lt h = added_below m ts place c (lt place refl) h

part_below : (scope : Scope) (ts : List (ℕ × ℤ)) (minus : Bool) (p : PartShape) → AreBelow (length scope) ts → AreBelow (length scope) (with_part scope ts minus p)
part_below scope ts minus (Constant n) h = h
part_below scope ts minus (Scaled n name) h = at_below (length scope) ts (place_of scope name.left) (signed minus n) (place_below scope name.left) h
part_below scope ts minus (Variable name) h = at_below (length scope) ts (place_of scope name.left) (signed minus 1) (place_below scope name.left) h

pub term_below : (scope : Scope) (turn : Bool) (ts : List (ℕ × ℤ)) (ss : List SignedShape) → AreBelow (length scope) ts → AreBelow (length scope) (with_term scope turn ts ss)
term_below scope turn ts [] h = h
term_below scope turn ts (s ∷ ss) h = term_below scope turn (with_part scope ts (turned turn s.minus) s.part) ss (part_below scope ts (turned turn s.minus) s.part h)

pub difference_below : (scope : Scope) (a b : List SignedShape) → AreBelow (length scope) (difference scope a b).terms
difference_below scope a b = term_below scope true (with_term scope false [] a) b (term_below scope false [] a tt)
