-- The values of tracks, one after another.
use Rattle.std.proofs.Common.{◌≡◌, ℕ, ◌<◌, List, length, Option, None}
use Rattle.std.specs.List.{slice_index_or}
use Rattle.lash_model.specs.Lassos.{Lasso}
use Rattle.fraction_codes.specs.declared.ratio.Ratio.{Ratio}
use Rattle.set_answers.specs.Solving.{IsFound}

-- base, number of tracks, how many were found, lasso, values
pub record IsFinding (r n k : ℕ) (x : Lasso) (found : List (Option Ratio)) : Type 0 where
  pub count : length found ≡ k
  pub each : (i : ℕ) → i < k → IsFound r n i x (slice_index_or found i None)
