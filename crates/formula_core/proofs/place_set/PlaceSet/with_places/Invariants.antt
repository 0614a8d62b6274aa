use Rattle.std.proofs.Common.{◌≡◌, ℕ, Bool, ◌||◌, min, nat_eq, take}
use Rattle.std.specs.Set.{is_member}
use Rattle.formula_core.specs.Counts.{count_limit}
use Rattle.formula_core.specs.PlaceSets.{IsSetOf}
use Rattle.formula_core.proofs.place_set.PlaceSet.with_places.Given as goal

abbrev pub invariant-loop-place : goal.invariant-loop-place
invariant-loop-place l = (test : ℕ → Bool) (n : ℕ) → min n count_limit ≡ l.variables → IsSetOf test n l.initial.set → IsSetOf (λ k. test k || is_member nat_eq (take l.place-index l.places) k) n l.set
