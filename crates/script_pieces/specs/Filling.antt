-- What a read into a buffer does to the bytes held. No public clause cites this module.
use Rattle.std.specs.Prelude.{ℕ, ◌≡◌, ◌≤◌, List, ◌++◌, length, Option, Result, MatchResult}
use Rattle.std.specs.Io.KnownBytes.{prepend_known, IsAtEnd}

-- so many bytes went from the front of what the source had left to behind those held; none only where none was left
pub record Fill (held_before held_after : List ℕ) (left_before left_after : Option (List ℕ)) (count : ℕ) : Type 0 where
  pub taken : List ℕ
  pub many : length taken ≡ count
  pub held : held_after ≡ held_before ++ taken
  pub left : left_before ≡ prepend_known taken left_after
  pub ended : count ≡ 0 → IsAtEnd left_after

-- nothing moved
pub record Stays (held_before held_after : List ℕ) (left_before left_after : Option (List ℕ)) : Type 0 where
  pub held : held_after ≡ held_before
  pub left : left_after ≡ left_before

abbrev pub Fills : {E : Type 0} → List ℕ → List ℕ → Option (List ℕ) → Option (List ℕ) → Result ℕ E → ℕ → Type 0
Fills held_before held_after left_before left_after answer most =
    MatchResult answer (λ count. Fill held_before held_after left_before left_after count × (count ≤ most)) (λ _. Stays held_before held_after left_before left_after)
