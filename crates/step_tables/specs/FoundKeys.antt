-- What has been found: the keys, each once, and the sum of their cells.
use Rattle.std.specs.Prelude.{ℕ, List}

pub record FoundKeys : Type 0 where
  pub keys : List (List ℕ)
  pub cells : ℕ
