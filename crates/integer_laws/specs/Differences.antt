-- Integers as differences of naturals: the normal form in which ring identities over ℤ are proved (own).
use Rattle.std.proofs.Common.{ℕ}
use Rattle.std.specs.Prelude.{ℤ, pos, ◌-ℤ◌}

-- the number p - q
unfoldable pub diff : ℕ → ℕ → ℤ
diff p q = pos p -ℤ pos q
