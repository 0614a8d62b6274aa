-- What the adapters do to the bytes of std's writers, where those are known.
use Rattle.std.specs.Prelude.{◌≡◌, ℕ, List, ◌++◌, Option, Result, MatchResult}
use Rattle.std.specs.Io.KnownBytes.{Appends}

-- known bytes grow by a prefix of `bytes`
pub record AppendsPart (before after : Option (List ℕ)) (bytes : List ℕ) : Type 0 where
  pub part : List ℕ
  pub rest : List ℕ
  pub parted : bytes ≡ part ++ rest
  pub appended : Appends before after part

-- all of `bytes` were written at `Ok`, and a prefix of them at `Err`
abbrev pub Writes : {T E : Type 0} → Option (List ℕ) → Option (List ℕ) → Result T E → List ℕ → Type 0
Writes before after answer bytes = MatchResult answer (λ _. Appends before after bytes) (λ _. AppendsPart before after bytes)
