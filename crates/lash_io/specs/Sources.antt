-- What a read does to the bytes that a source has left, where it tells them.
use Rattle.std.specs.Prelude.{◌≡◌, ℕ, ◌<◌, List, take, length, Option, Result, MatchResult}
use Rattle.std.specs.Io.KnownBytes.{prepend_known, IsAtEnd}

-- a read into a buffer that holds `filled` afterwards gave the first `count` bytes that were left, and none only where
-- none was left or the buffer has no room
pub record Gave (before after : Option (List ℕ)) (filled : List ℕ) (count : ℕ) : Type 0 where
  pub given : before ≡ prepend_known (take count filled) after
  pub at_end : count ≡ 0 → 0 < length filled → IsAtEnd before

-- a read gave what its answer says, and took nothing where it failed; whether the source tells its bytes stays the same
abbrev pub Reads : {E : Type 0} → Option (List ℕ) → Option (List ℕ) → Result ℕ E → List ℕ → Type 0
Reads before after answer filled = MatchResult answer (λ count. Gave before after filled count) (λ _. after ≡ before)
