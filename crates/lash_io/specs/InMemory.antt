-- The source and the sink in memory, whose faults come at calls that were named beforehand.
use Rattle.std.specs.Prelude.{◌≡◌, ℕ, ◌-◌, ◌==◌, nat_lt, ◌||◌, Bool, true, false, min, List, ◌++◌, length, take, drop, Option, is_some, unwrap_or}
use Rattle.std.specs.List.{list_any, find}
use Rattle.std.specs.Option.{option_map}
use Rattle.lash_io.specs.Counters.{counted}

-- a source: the bytes left, the most that one call gives, the numbers of the calls that fail, and the calls and faults so far
pub record SourceState : Type 0 where
  pub left : List ℕ
  pub piece : ℕ
  pub fails : List ℕ
  pub calls : ℕ
  pub faults : ℕ

-- whether the next call is one of those that fail
abbrev pub fails_next : SourceState → Bool
fails_next s = list_any (λ call. call == counted s.calls) s.fails

-- a call that is not to fail gave as many bytes as the least of the piece, the buffer's room and the bytes left
pub record Answered (before after : SourceState) (room count : ℕ) : Type 0 where
  pub unlisted : fails_next before ≡ false
  pub most : count ≡ min before.piece (min room (length before.left))
  pub new_state : after ≡ record before { left = drop count before.left; calls = counted before.calls }

-- a call that is to fail took nothing, and its fault was counted
pub record Failing (before after : SourceState) : Type 0 where
  pub listed : fails_next before ≡ true
  pub new_state : after ≡ record before { calls = counted before.calls; faults = counted before.faults }

-- a sink: the bytes held, how many it may hold, the numbers of the calls that fail, each with the bytes that it appends,
-- and the calls and faults so far
pub record SinkState : Type 0 where
  pub held : List ℕ
  pub room : ℕ
  pub fails : List (ℕ × ℕ)
  pub calls : ℕ
  pub faults : ℕ

-- how many bytes the first entry for the next call states, where there is one
abbrev pub stated_next : SinkState → Option ℕ
stated_next s = option_map (λ entry. entry.1) (find (λ entry. entry.0 == counted s.calls) s.fails)

-- how many bytes still fit
abbrev pub spare_room : SinkState → ℕ
spare_room s = s.room - length s.held

-- how many of `count` bytes the next call appends: those that are stated for it, and never more than fit
abbrev pub appended_next : SinkState → ℕ → ℕ
appended_next s count = min (unwrap_or (stated_next s) count) (min count (spare_room s))

-- whether the next call fails at `count` bytes: it is listed, or they do not fit
abbrev pub refuses_next : SinkState → ℕ → Bool
refuses_next s count = is_some (stated_next s) || nat_lt (spare_room s) count

-- a call that is not to fail appended all the bytes
pub record Accepted (before after : SinkState) (bytes : List ℕ) : Type 0 where
  pub unlisted : refuses_next before (length bytes) ≡ false
  pub new_state : after ≡ record before { held = before.held ++ bytes; calls = counted before.calls }

-- a call that is to fail appended the first bytes, and its fault was counted
pub record Refused (before after : SinkState) (bytes : List ℕ) : Type 0 where
  pub listed : refuses_next before (length bytes) ≡ true
  pub new_state : after ≡ record before {
    held = before.held ++ take (appended_next before (length bytes)) bytes;
    calls = counted before.calls;
    faults = counted before.faults;
  }
