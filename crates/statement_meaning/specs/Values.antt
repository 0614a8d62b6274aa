-- The values of a test, as fractions.
use Rattle.std.specs.Prelude.{ℕ, ◌<◌, Bool, false, ◌||◌, nat_lt, List, [], ◌∷◌, pos}
use Rattle.script_statements.specs.Values.{RationalShape}
use Rattle.script_meaning.specs.Core.{signed}
use Rattle.script_meaning.specs.Limits.{literal_limit}
use Rattle.fraction_codes.specs.declared.ratio.Ratio.{Ratio}

abbrev pub ratio_of : RationalShape → Ratio
ratio_of v = record { num = signed v.minus v.numerator; den = pos v.denominator }

-- some number of the values passes the limit of literals
abbrev pub values_pass : List RationalShape → Bool
values_pass [] = false
values_pass (v ∷ vs) = nat_lt literal_limit v.numerator || nat_lt literal_limit v.denominator || values_pass vs

-- the grammar has no other
pub record IsQuotient (v : RationalShape) : Type 0 where
  pub positive : 0 < v.denominator
