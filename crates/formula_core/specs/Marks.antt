-- Marks for places.
use Rattle.std.specs.Prelude.{ℕ, ◌≡◌, ◌<◌, Bool, false, ◌||◌, List, length, slice_index_or, nat_eq, ℤ}
use Rattle.std.specs.List.{list_any}

-- afterwards those places are marked too
pub record AreMarked (test : ℕ → Bool) (before after : List Bool) : Type 0 where
  pub count : length after ≡ length before
  pub each : (place : ℕ) → place < length before → slice_index_or after place false ≡ (slice_index_or before place false || test place)

-- a term of the list has the place
abbrev pub appears : ℕ → List (ℕ × ℤ) → Bool
appears place ts = list_any (λ t. nat_eq t.0 place) ts
