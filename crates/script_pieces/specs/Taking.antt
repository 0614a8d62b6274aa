-- How bytes move from a source to a reader of pieces. Own.
use Rattle.std.specs.Prelude.{ℕ, ◌≡◌, ◌≤◌, ◌⊎◌, false, List, ◌++◌, length, Option, None}
use Rattle.std.specs.Io.KnownBytes.{prepend_known}
use Rattle.script_pieces.specs.Cuts.{statement_length}
use Rattle.script_pieces.specs.Limits.{IsWithin}

-- how many bytes of the script were given, and the bytes that were taken from the source and not yet given
pub record Progress : Type 0 where
  pub given : ℕ
  pub held : List ℕ

-- the bytes held do not tell how their piece ends: they hold no whole statement and pass no limit
pub record IsOpen (p : Progress) : Type 0 where
  pub unended : statement_length false p.held ≡ None
  pub within : IsWithin p.given (length p.held)

-- some bytes went from the front of those that the source had left to behind those held; nothing was given
pub record Takes (before after : Progress) (left_before left_after : Option (List ℕ)) : Type 0 where
  pub taken : List ℕ
  pub given : after.given ≡ before.given
  pub held : after.held ≡ before.held ++ taken
  pub left : left_before ≡ prepend_known taken left_after

-- how many bytes the buffer holds, so that one read gives no more
abbrev pub buffer_bytes : ℕ
buffer_bytes = 131072

-- the last bytes, which are no more than the buffer holds, were taken behind bytes that did not tell how their piece ends
pub record GrewOpen (before after : Progress) : Type 0 where
  pub earlier : List ℕ
  pub last : List ℕ
  pub grew : after.held ≡ (before.held ++ earlier) ++ last
  pub was_open : IsOpen (record { given = before.given; held = before.held ++ earlier })
  pub room : length after.held ≤ buffer_bytes

-- no byte was taken, or the bytes held before the last ones did not tell how their piece ends
abbrev pub IsNeeded : Progress → Progress → Type 0
IsNeeded before after = (after.held ≡ before.held) ⊎ GrewOpen before after
