-- The one code of a vector of fractions that is written.
use Rattle.std.specs.Prelude.{◌≡◌, ℕ, ◌*◌, ◌/◌, ◌^◌, ◌≤◌, List, All, map, length, Some, slice_get, ℤ, pos, ◌-ℤ◌, ◌*ℤ◌, ◌≤ℤ◌, ◌<ℤ◌, unsigned_abs}
use Rattle.lash_model.specs.Letters.{sign_bit}
use Rattle.lash_model.specs.Words.{value}
use Rattle.lash_model.specs.Lassos.{Lasso, IsLasso, denominator, numerator}
use Rattle.fraction_codes.specs.Fractions.{sign_of, floor, above_floor, IsCommonDenominator}
use Rattle.fraction_codes.specs.LongDivision.{rests_after, letters_of, IsFirstMetAgain}
use Rattle.fraction_codes.specs.declared.ratio.Ratio.{Ratio}

-- so many digits of base r are enough for the floor
abbrev pub IsWithin : ℕ → ℕ → Ratio → Type 0
IsWithin r k v = ((pos 0 -ℤ pos (r ^ k)) ≤ℤ floor v) × (floor v <ℤ pos (r ^ k))

-- d times what is above the floor, for a d that makes the fraction an integer
abbrev pub first_rest : ℕ → Ratio → ℕ
first_rest d v = above_floor v * d / unsigned_abs v.den

-- base, vector, its least common denominator, lasso: each sign bit is the sign of the entry; the whole word is the shortest that has
-- room for all floors, and spells them; the stem and the cycle are the letters of the long division of what is above the floors, up
-- to the first remainders that are met again, and from there to their first return
pub record IsFixedCode (r : ℕ) (vs : List Ratio) (d : ℕ) (x : Lasso) : Type 0 where
  pub in_range : IsLasso r (length vs) x
  pub sign : (i : ℕ) (v : Ratio) → slice_get vs i ≡ Some v → sign_bit (length vs) i x.sign ≡ sign_of v.num
  pub enough : All (IsWithin r (length x.whole)) vs
  pub least : (k : ℕ) → All (IsWithin r k) vs → length x.whole ≤ k
  pub whole : (i : ℕ) (v : Ratio) → slice_get vs i ≡ Some v → value r (length vs) i x.sign x.whole ≡ floor v
  pub met : IsFirstMetAgain (λ k. rests_after r d k (map (first_rest d) vs)) (length x.stem) (length x.cycle)
  pub stem : x.stem ≡ letters_of r d (length x.stem) (map (first_rest d) vs)
  pub cycle : x.cycle ≡ letters_of r d (length x.cycle) (rests_after r d (length x.stem) (map (first_rest d) vs))

-- the lasso is the fixed code of the vector, whose least common denominator is at most 65,536
pub record Encodes (r : ℕ) (vs : List Ratio) (x : Lasso) : Type 0 where
  pub divisor : ℕ
  pub common : IsCommonDenominator vs divisor
  pub within : divisor ≤ 65536
  pub code : IsFixedCode r vs divisor x

-- the lasso's vector is the given one
abbrev pub SpellsVector : ℕ → List Ratio → Lasso → Type 0
SpellsVector r vs x = (i : ℕ) (v : Ratio) → slice_get vs i ≡ Some v → numerator r (length vs) i x *ℤ v.den ≡ v.num *ℤ pos (denominator r x)

-- a lasso in range whose vector is that of the integers ms over the denominator d
pub record HasLasso (r d : ℕ) (ms : List ℤ) : Type 0 where
  pub lasso : Lasso
  pub in_range : IsLasso r (length ms) lasso
  pub spells : (i : ℕ) (m : ℤ) → slice_get ms i ≡ Some m → numerator r (length ms) i lasso *ℤ pos d ≡ m *ℤ pos (denominator r lasso)
