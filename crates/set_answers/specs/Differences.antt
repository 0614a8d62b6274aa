-- What the first of two tables accepts and the second does not: their pairs of states, each over all tracks (the synchronous product).
use Rattle.std.specs.Prelude.{ℕ, ◌<◌, ◌≡◌, slice_index}
use Rattle.std.specs.List.{range_with_len}
use Rattle.lash_model.specs.Tables.{Table, ints}
use Rattle.product_ops.specs.Tracks.{TrackLists}
use Rattle.product_ops.specs.Products.{IsProductTable}
use Rattle.product_ops.specs.declared.operation.Op.TheVariants.{AndNot}

-- each of the two reads all of n tracks
abbrev pub all_tracks : ℕ → TrackLists
all_tracks n = record { tracks = n; left = range_with_len 0 n; right = range_with_len 0 n }

-- the product of the two tables is within the limit of cells
pub record AreWithin (a b : Table) (limit : ℕ) : Type 0 where
  pub table : Table
  pub pairs : IsProductTable AndNot a b (all_tracks a.tracks) limit table

-- no state's output is yes
abbrev pub SaysNo : Table → Type 0
SaysNo t = (q : ℕ) → q < ints t → slice_index t.outs q ≡ 1 → ⊥
