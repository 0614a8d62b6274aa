-- A writer that collects bytes and sends them to a sink in blocks.
use Rattle.std.specs.Prelude.{◌≡◌, ℕ, List, [], ◌++◌, Option, Result, MatchResult}
use Rattle.lash_io.specs.Sinks.{Holds, HoldsPart}

-- the bytes that were pending, then `bytes`, are those sent to the sink and then those pending now
pub record Moves (before : Option (List ℕ)) (pending : List ℕ) (after : Option (List ℕ)) (pending_now bytes : List ℕ) : Type 0 where
  pub sent : List ℕ
  pub held : Holds before after sent
  pub order : sent ++ pending_now ≡ pending ++ bytes

-- `bytes` were put behind the pending ones at `Ok`; at `Err` the sink holds a prefix of them all, and nothing is pending
abbrev pub Passes : {T E : Type 0} → Option (List ℕ) → List ℕ → Option (List ℕ) → List ℕ → Result T E → List ℕ → Type 0
Passes before pending after pending_now answer bytes =
    MatchResult answer (λ _. Moves before pending after pending_now bytes) (λ _. HoldsPart before after (pending ++ bytes) × (pending_now ≡ []))
