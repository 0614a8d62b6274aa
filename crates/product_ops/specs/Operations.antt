-- The truth functions of two sets.
use Rattle.std.specs.Prelude.{ℕ, Bool, ◌&&◌, ◌||◌, not, ◌⊎◌, List, ℤ}
use Rattle.product_ops.specs.Tracks.{TrackLists, pick_entries}
use Rattle.product_ops.specs.declared.operation.Op.{Op}
use Rattle.product_ops.specs.declared.operation.Op.TheVariants.{And, Or, AndNot}

-- of two answers
abbrev pub truth : Op → Bool → Bool → Bool
truth And x y = x && y
truth Or x y = x || y
truth AndNot x y = x && not y

-- of two sets, each over the tracks that it reads
abbrev pub joined : Op → (List ℤ → ℕ → Type 0) → (List ℤ → ℕ → Type 0) → TrackLists → List ℤ → ℕ → Type 0
joined And P Q m ns d = P (pick_entries m.left ns) d × Q (pick_entries m.right ns) d
joined Or P Q m ns d = P (pick_entries m.left ns) d ⊎ Q (pick_entries m.right ns) d
joined AndNot P Q m ns d = P (pick_entries m.left ns) d × (Q (pick_entries m.right ns) d → ⊥)
