-- Vectors of fractions that are given entry by entry.
use Rattle.std.specs.Prelude.{◌≡◌, ℕ, ◌≤◌, ◌<◌, Bool, List, length, Some, slice_get, All, ℤ, pos, ◌*ℤ◌, ◌≤ℤ◌}
use Rattle.std.specs.List.{slice_index_or}
use Rattle.lash_model.specs.Acceptance.{accepts_word, accepts_lasso}
use Rattle.lash_model.specs.Lassos.{Lasso}
use Rattle.lash_model.specs.Tables.{Table, fracs, IsDiagram}
use Rattle.fraction_codes.specs.FixedCodes.{Encodes, SpellsVector}
use Rattle.fraction_codes.specs.Fractions.{IsCommonDenominator}
use Rattle.fraction_codes.specs.declared.ratio.Ratio.{Ratio}

-- each denominator is positive
abbrev pub ArePositive : List Ratio → Type 0
ArePositive vs = All (λ v. (pos 1) ≤ℤ v.den) vs

-- the numerators over the one positive denominator are the fractions
pub record IsVectorOf (vs : List Ratio) (ns : List ℤ) (d : ℕ) : Type 0 where
  pub positive : 0 < d
  pub count : length ns ≡ length vs
  pub same : (i : ℕ) (v : Ratio) → slice_get vs i ≡ Some v → slice_index_or ns i (pos 0) *ℤ v.den ≡ v.num *ℤ pos d

-- some numerators over one positive denominator are the fractions
pub record HasVector (vs : List Ratio) : Type 0 where
  pub numerators : List ℤ
  pub denominator : ℕ
  pub is : IsVectorOf vs numerators denominator

-- the least common denominator is at most 65,536
pub record HasCoarseDenominator (vs : List Ratio) : Type 0 where
  pub divisor : ℕ
  pub common : IsCommonDenominator vs divisor
  pub coarse : divisor ≤ 65536

-- whether the table accepts the code of the fractions: a diagram reads its sign vector and its whole word, any other table all of it
pub record IsAnswerToCode (t : Table) (vs : List Ratio) (answer : Bool) : Type 0 where
  pub lasso : Lasso
  pub code : Encodes t.base vs lasso
  pub spells : SpellsVector t.base vs lasso
  pub of_word : IsDiagram t → answer ≡ accepts_word t lasso.sign lasso.whole
  pub of_lasso : 0 < fracs t → answer ≡ accepts_lasso t lasso
