-- What a put does to the bytes that a sink holds, where it tells them.
use Rattle.std.specs.Prelude.{◌≡◌, ℕ, List, ◌++◌, Option, Result, MatchResult}
use Rattle.std.specs.Io.KnownBytes.{append_known}

-- the sink holds `bytes` besides what it held; whether it tells its bytes stays the same
abbrev pub Holds : Option (List ℕ) → Option (List ℕ) → List ℕ → Type 0
Holds before after bytes = after ≡ append_known before bytes

-- the sink holds a prefix of `bytes` besides what it held
pub record HoldsPart (before after : Option (List ℕ)) (bytes : List ℕ) : Type 0 where
  pub part : List ℕ
  pub rest : List ℕ
  pub parted : bytes ≡ part ++ rest
  pub held : Holds before after part

-- all of `bytes` were put at `Ok`, and a prefix of them at `Err`
abbrev pub Puts : {T E : Type 0} → Option (List ℕ) → Option (List ℕ) → Result T E → List ℕ → Type 0
Puts before after answer bytes = MatchResult answer (λ _. Holds before after bytes) (λ _. HoldsPart before after bytes)
