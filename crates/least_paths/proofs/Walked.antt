-- Walking back from a state, with the letters that were passed, the last first.
use Rattle.std.proofs.Common.{ℕ, ◌<◌, List, [], ◌∷◌, ◌++◌, arith, ◌∙◌, sym, ap, subst, slice_index}
use mathlib.Core.List.{reverse}
use Rattle.std.proofs.lemmas.List.{reverse-append}
use Rattle.graph_laws.specs.Paths.{Path, more, start_path}
use Rattle.graph_laws.proofs.PathOrder.{longer, no_more, one_then}
use Rattle.least_paths.specs.Nets.{Net, IsOrdered}
use Rattle.least_paths.specs.Arrivals.{IsNoStart, IsFirstStart, IsFirstLetter, IsLeastTo, AreParents}
use Rattle.least_paths.proofs.LeastPaths.{start_least, step_least}
use Rattle.least_paths.proofs.Marked.{HasFirst, parent_of}

-- with those letters behind it, the least path to where the walk is is the least path to where it began
pub record IsWalking (g : Net) (begin at : ℕ) (passed : List ℕ) : Type 0 where
  pub inside : at < g.states
  pub least : (x : Path) → IsLeastTo g at x → IsLeastTo g begin (longer x (reverse passed))

pub walk_begun : (g : Net) (q : ℕ) → q < g.states → IsWalking g q q []
walk_begun g q lt = record { inside = lt; least = λ x s. subst (IsLeastTo g q) (sym (no_more x)) s }

pub walk_more : (g : Net) → IsOrdered g → (parents : List ℕ) → AreParents g 0 0 parents → (begin at letter : ℕ) (passed : List ℕ)
    → IsNoStart g at → IsFirstLetter g (slice_index parents at) at letter → IsWalking g begin at passed
    → IsWalking g begin (slice_index parents at) (passed ++ letter ∷ [])
walk_more g c parents a begin at letter passed no_start f w = record {
  inside = omega (arith, h.earlier, w.inside);
  least = λ x s. subst (IsLeastTo g begin) (one_then x letter (reverse passed) ∙ ap (longer x) (sym (reverse-append passed (letter ∷ []))))
      (w.least (more x letter) (step_least g c (slice_index parents at) letter at x no_start (record { by = f; first = h.first }) s));
}
  where
    h : HasFirst g (slice_index parents at) at
    h = parent_of g c parents a at w.inside no_start

pub walk_ended : (g : Net) → IsOrdered g → (begin at start : ℕ) (passed : List ℕ) → IsFirstStart g at start → IsWalking g begin at passed
    → IsLeastTo g begin (record { start = start; word = reverse passed })
walk_ended g c begin at start passed r w = w.least (start_path start) (start_least g c.closed at start r)
