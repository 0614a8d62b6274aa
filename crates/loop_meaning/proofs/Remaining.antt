-- The assignments that are still to be looked at.
use Rattle.std.proofs.Common.{◌≡◌, ℕ, ◌+◌, ◌≤◌, ◌<◌, List, ◌∷◌, length, map, drop, get_or, arith, refl, ap, ◌∙◌, sym, subst, Bool, true, false, ◌||◌}
use Rattle.std.proofs.lemmas.Bool.{true≢false}
use Rattle.std.proofs.lemmas.List.{drop_more}
use Rattle.script_statements.specs.Loops.{AssignmentShape, assignment_of}
use Rattle.script_statements.specs.declared.tree.Assignment.{Assignment}
use Rattle.script_meaning.specs.Limits.{term_passes, terms_limit}
use Rattle.loop_meaning.specs.Assigning.{assignments_literal, assigned_parts}

-- no literal passes the limit, and the parts of the terms are few
pub record IsReadable (xs : List AssignmentShape) : Type 0 where
  pub literals : assignments_literal xs ≡ false
  pub few : assigned_parts xs ≤ terms_limit

left_false : (x y : Bool) → (x || y) ≡ false → x ≡ false
left_false true y e = e
left_false false y e = refl

right_false : (x y : Bool) → (x || y) ≡ false → y ≡ false
right_false true y e = absurd (true≢false e)
right_false false y e = e

-- the first of them, and those behind it
pub record IsFirst (x : AssignmentShape) (xs : List AssignmentShape) : Type 0 where
  pub literals : term_passes x.term ≡ false
  pub few : length x.term ≤ terms_limit
  pub rest : IsReadable xs

first_readable : (x : AssignmentShape) (xs : List AssignmentShape) → IsReadable (x ∷ xs) → IsFirst x xs
first_readable x xs h = record {
  literals = left_false (term_passes x.term) (assignments_literal xs) h.literals;
  few = omega (arith, h.few);
  rest = record { literals = right_false (term_passes x.term) (assignments_literal xs) h.literals; few = omega (arith, h.few) };
}

pub next_readable : (default : Assignment) (items : List Assignment) (i : ℕ) → i < length items → IsReadable (map assignment_of (drop i items)) → IsFirst (assignment_of (get_or items i default)) (map assignment_of (drop (i + 1) items))
next_readable default items i lt h = first_readable _ _ (subst (λ ys. IsReadable (map assignment_of ys)) (drop_more items i default lt) h)
