-- Points of lassos, and what keeps a point.
use Rattle.std.specs.Prelude.{◌≡◌, ℕ, ◌*◌, ◌<◌, List, [], ◌∷◌, ◌++◌, pos, ◌*ℤ◌}
use Rattle.graph_laws.specs.Walks.{copies}
use Rattle.lash_model.specs.Letters.{sign_letter}
use Rattle.lash_model.specs.Lassos.{Lasso, numerator, denominator}

-- the second lasso has the first one's point: all numerators and the denominator are so many times as great
pub record IsSamePoint (r n : ℕ) (x y : Lasso) : Type 0 where
  pub times : ℕ
  pub positive : 0 < times
  pub numerators : (i : ℕ) → i < n → numerator r n i y ≡ pos times *ℤ numerator r n i x
  pub denominators : denominator r y ≡ times * denominator r x

-- the lasso with its cycle unrolled: so many times at the end of the stem, and so many times as the cycle
abbrev pub turned : ℕ → ℕ → Lasso → Lasso
turned more times x = record { sign = x.sign; whole = x.whole; stem = x.stem ++ copies more x.cycle; cycle = copies times x.cycle }

-- the lasso with its cycle rotated: the cycle's first letter is at the end of the stem, and at the end of the cycle
abbrev pub rotated : ℕ → List ℕ → Lasso → Lasso
rotated first rest x = record { sign = x.sign; whole = x.whole; stem = x.stem ++ first ∷ []; cycle = rest ++ first ∷ [] }

-- the lasso with so many sign letters in front of its whole part
abbrev pub padded : ℕ → ℕ → ℕ → Lasso → Lasso
padded r n more x = record { sign = x.sign; whole = copies more (sign_letter r n x.sign ∷ []) ++ x.whole; stem = x.stem; cycle = x.cycle }
