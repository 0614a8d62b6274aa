-- What values of a test are judged to be (own).
use Rattle.std.specs.Prelude.{◌≡◌, List, map, false, Result, Ok, Err}
use Rattle.script_statements.specs.Values.{RationalShape}
use Rattle.script_meaning.specs.declared.resolving.Refusal.{Refusal}
use Rattle.script_meaning.specs.declared.resolving.Refusal.TheVariants.{Fault, Limit, Memory}
use Rattle.fraction_codes.specs.declared.ratio.Ratio.{Ratio}
use Rattle.statement_meaning.specs.Values.{ratio_of, values_pass}
use Rattle.statement_meaning.specs.Judging.{AreCoarse, IsTestPassed}

-- the fractions of values that pass no limit
pub record AreWithin (vs : List RationalShape) (ratios : List Ratio) : Type 0 where
  pub literals : values_pass vs ≡ false
  pub coarse : AreCoarse vs
  pub same : ratios ≡ map ratio_of vs

-- the fractions, or the first limit that is passed
abbrev pub IsVector : List RationalShape → Result (List Ratio) Refusal → Type 0
IsVector vs (Ok ratios) = AreWithin vs ratios
IsVector vs (Err (Fault f)) = ⊥
IsVector vs (Err (Limit which)) = IsTestPassed vs which
IsVector vs (Err Memory) = Unit {0}
