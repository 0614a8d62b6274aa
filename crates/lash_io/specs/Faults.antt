-- Faults of sources and sinks are counted, by a counter that stays at its last value.
use Rattle.std.specs.Prelude.{ℕ, ◌+◌, ◌-◌, ◌^◌, ◌≤◌}
use Prim.Native.Nat.{min}

-- the last value of a counter
abbrev pub last_count : ℕ
last_count = 2 ^ 64 - 1

-- between the two counts a fault was counted: the count rose, or stood at its last value
pub record IsFaultCounted (before after : ℕ) : Type 0 where
  pub rose : min (before + 1) last_count ≤ after
