-- The first position of a goal has the least path to a goal.
use Rattle.std.proofs.Common.{◌≡◌, ℕ, ◌<◌, Bool, List, [], length, slice_index, arith, sym, ap, ◌∙◌, subst}
use Rattle.std.proofs.lemmas.List.{length-map, get_or-map}
use Rattle.graph_laws.specs.Paths.{Path}
use Rattle.graph_laws.specs.Exploring.{IsExplored}
use Rattle.least_paths.specs.Nets.{Net, found_net}
use Rattle.least_paths.specs.Arrivals.{IsLeastTo}
use Rattle.least_paths.specs.Searches.{state_key, row_steps, state_at}
use Rattle.least_paths.proofs.StateWalks.{graph_path, ends_at, first_least, nowhere}
use Rattle.weak_forms.specs.Finding.{Placement, keyed}
use Rattle.weak_forms.specs.Ways.{IsGoal, IsFirstGoal, IsLeastWay, LeadsToNone}

-- the state at a position
pub state_is : (p : Placement) (i : ℕ) → i < length p.order → state_at (keyed p) i ≡ slice_index p.order i
state_is p i lt = ap (λ k. slice_index k 0) (get_or-map state_key p.order i 0 [] lt)

pub no_way : (g : Net) (goals : List Bool) (limit : ℕ) (p : Placement) → IsExplored (row_steps g) limit (keyed p)
    → ((i : ℕ) → i < length p.order → IsGoal goals (slice_index p.order i) → ⊥) → LeadsToNone g goals
no_way g goals limit p e none x v good = nowhere g limit (keyed p) e (IsGoal goals)
    (λ i lt here. let i_in : i < length p.order = subst (λ n. i < n) (length-map p.order state_key) lt in
    none i i_in (subst (IsGoal goals) (state_is p i i_in) here))
    x v good

pub way : (g : Net) (goals : List Bool) (limit : ℕ) (p : Placement) (i : ℕ) (x : Path) → IsExplored (row_steps g) limit (keyed p)
    → IsFirstGoal goals p.order i → IsLeastTo (found_net (keyed p)) i x → IsLeastWay g goals x
way g goals limit p i x e f h = record {
  valid = graph_path g limit (keyed p) e x h.valid;
  leads = subst (IsGoal goals) (sym (state_is p i f.inside) ∙ ends_at g limit (keyed p) e i x h) f.good;
  least = λ y v good. first_least g limit (keyed p) e (IsGoal goals) i x h
      (λ j lt here. f.first j lt (subst (IsGoal goals) (state_is p j (omega (arith, lt, f.inside))) here)) y v good;
}
