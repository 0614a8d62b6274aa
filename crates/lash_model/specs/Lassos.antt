-- Lassos: a sign vector, a whole part, a point, and a fraction that is a stem and a cycle without end. They spell the vectors of
-- fractions (values of ultimately periodic expansions).
use Rattle.std.specs.Prelude.{ℕ, ◌+◌, ◌-◌, ◌*◌, ◌^◌, ◌<◌, List, length, All, ℤ, pos, ◌+ℤ◌, ◌*ℤ◌}
use Rattle.integer_laws.specs.Vectors.{vector}
use Rattle.lash_model.specs.Words.{spelled, value}

pub record Lasso : Type 0 where
  pub sign : ℕ
  pub whole : List ℕ
  pub stem : List ℕ
  pub cycle : List ℕ

-- sign and letters are in range, and the cycle is not empty
pub record IsLasso (r n : ℕ) (x : Lasso) : Type 0 where
  pub sign : x.sign < 2 ^ n
  pub whole : All (λ l. l < r ^ n) x.whole
  pub stem : All (λ l. l < r ^ n) x.stem
  pub cycle : All (λ l. l < r ^ n) x.cycle
  pub turns : 0 < length x.cycle

-- the one denominator of all tracks
unfoldable pub denominator : ℕ → Lasso → ℕ
denominator r x = r ^ length x.stem * (r ^ length x.cycle - 1)

-- base, number of tracks, track, lasso: the track's numerator over that denominator
unfoldable pub numerator : ℕ → ℕ → ℕ → Lasso → ℤ
numerator r n i x = (pos (denominator r x) *ℤ value r n i x.sign x.whole) +ℤ pos ((r ^ length x.cycle - 1) * spelled r n i x.stem + spelled r n i x.cycle)

-- the vector of all tracks' numerators
abbrev pub numerators : ℕ → ℕ → Lasso → List ℤ
numerators r n x = vector (λ i. numerator r n i x) n
