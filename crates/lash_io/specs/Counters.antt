-- Counters of calls and of faults.
use Rattle.std.specs.Prelude.{ℕ, ◌+◌}
use Prim.Native.Nat.{min}
use Rattle.lash_io.specs.Faults.{last_count}

-- a counter one further on; it stays at its last value
abbrev pub counted : ℕ → ℕ
counted n = min (n + 1) last_count
