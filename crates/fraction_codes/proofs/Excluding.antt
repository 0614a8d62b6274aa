-- A vector has one least common denominator, and it is not both within the limit and past it.
use Rattle.std.proofs.Common.{◌≡◌, ℕ, List, arith}
use Rattle.std.proofs.lemmas.Nat.Gcd.{dvd_antisymm}
use Rattle.lash_model.specs.Lassos.{Lasso}
use Rattle.fraction_codes.specs.Fractions.{IsCommonDenominator, IsTooFine}
use Rattle.fraction_codes.specs.FixedCodes.{Encodes}
use Rattle.fraction_codes.specs.declared.ratio.Ratio.{Ratio}

one_denominator : (vs : List Ratio) (d e : ℕ) → IsCommonDenominator vs d → IsCommonDenominator vs e → d ≡ e
one_denominator vs d e a b = dvd_antisymm (a.least e b.clears) (b.least d a.clears)

pub not_both : (r : ℕ) (vs : List Ratio) (x : Lasso) → Encodes r vs x → IsTooFine vs → ⊥
not_both r vs x h t = omega (arith, h.within, t.passes, one_denominator vs h.divisor t.denominator h.common t.common)
