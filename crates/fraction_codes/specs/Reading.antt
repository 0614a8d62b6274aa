-- Fractions read back from lassos.
use Rattle.std.specs.Prelude.{◌≡◌, ℕ, pos, ◌*ℤ◌, ◌≤ℤ◌, unsigned_abs}
use Rattle.std.specs.Int.{IsGcd}
use Rattle.lash_model.specs.Lassos.{Lasso, denominator, numerator}
use Rattle.fraction_codes.specs.declared.ratio.Ratio.{Ratio}

-- base, number of tracks, track, lasso, fraction: the fraction is the track's, in lowest terms
pub record IsValue (r n i : ℕ) (x : Lasso) (v : Ratio) : Type 0 where
  pub positive : (pos 1) ≤ℤ v.den
  pub lowest : IsGcd (unsigned_abs v.num) (unsigned_abs v.den) 1
  pub same : v.num *ℤ pos (denominator r x) ≡ numerator r n i x *ℤ v.den
