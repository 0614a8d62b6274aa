use Rattle.std.proofs.Common.{◌≡◌, ℕ, min, take}
use Rattle.formula_core.specs.Counts.{count_limit}
use Rattle.formula_core.specs.Marks.{appears}
use Rattle.formula_core.specs.PlaceSets.{IsSetOf}
use Rattle.formula_core.proofs.letters.term_set.Given as goal

abbrev pub invariant-loop-place : goal.invariant-loop-place
invariant-loop-place l = (n : ℕ) → min n count_limit ≡ l.variables → IsSetOf (λ k. appears k (take l.place-index l.place-items)) n l.set
