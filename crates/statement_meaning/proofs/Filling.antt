-- The values of a test become fractions one by one.
use Rattle.std.proofs.Common.{suc, zero, ◌≡◌, ℕ, ◌≤◌, ◌<◌, ◌+◌, ◌^◌, List, [], ◌∷◌, ◌++◌, length, map, drop, get_or, arith, refl, Bool, true, false, sym, ◌∙◌, ap, subst, append_assoc}
use Rattle.std.specs.Prelude.{◌||◌, nat_lt}
use Rattle.std.specs.List.{All}
use Rattle.std.proofs.lemmas.Bool.{true≢false}
use Rattle.std.proofs.lemmas.List.{drop_more}
use Rattle.std.proofs.lemmas.List.Elements.{All-append}
use Rattle.fraction_codes.specs.Fractions.{IsSmall}
use Rattle.fraction_codes.specs.declared.ratio.Ratio.{Ratio}
use Rattle.script_statements.specs.Values.{RationalShape, rational_of}
use Rattle.script_statements.specs.declared.tree.Rational.{Rational}
use Rattle.statement_meaning.specs.Values.{IsQuotient, ratio_of, values_pass}

left_false : (x y : Bool) → (x || y) ≡ false → x ≡ false
left_false true y e = e
left_false false y e = refl

right_false : (x y : Bool) → (x || y) ≡ false → y ≡ false
right_false true y e = absurd (true≢false e)
right_false false y e = e

-- the fractions so far, in front of those of the rest
pub record IsFilling (vs : List RationalShape) (done : List Ratio) (rest : List RationalShape) : Type 0 where
  pub whole : done ++ map ratio_of rest ≡ map ratio_of vs
  pub small : All IsSmall done
  pub literals : values_pass rest ≡ false
  pub quotients : All IsQuotient rest

-- the first of the rest can be a fraction
pub record IsFine (v : RationalShape) : Type 0 where
  pub numerator : v.numerator ≤ 2 ^ 64
  pub denominator : v.denominator ≤ 2 ^ 64
  pub positive : 0 < v.denominator

at_most : (n m : ℕ) → nat_lt n m ≡ false → m ≤ n
at_most n m e = grind (arith, e)

fine : (vs : List RationalShape) (done : List Ratio) (v : RationalShape) (rest : List RationalShape) → IsFilling vs done (v ∷ rest) → IsFine v
fine vs done v rest h = record {
  numerator = at_most _ _ (left_false _ _ (left_false _ (values_pass rest) h.literals));
  denominator = at_most _ _ (right_false _ _ (left_false _ (values_pass rest) h.literals));
  positive = (h.quotients 0 v (omega (arith))).positive;
}

filled : (vs : List RationalShape) (done : List Ratio) (v : RationalShape) (rest : List RationalShape) (r : Ratio) → IsFilling vs done (v ∷ rest) → r ≡ ratio_of v → IsSmall r → IsFilling vs (done ++ r ∷ []) rest
filled vs done v rest r h is small = record {
  whole = append_assoc done (r ∷ []) (map ratio_of rest) ∙ ap (λ x. done ++ x ∷ map ratio_of rest) is ∙ h.whole;
  small = All-append IsSmall done (r ∷ []) h.small (one small);
  literals = right_false _ (values_pass rest) h.literals;
  quotients = λ k d lt. h.quotients (suc k) d (omega (arith, lt));
}
  where
    one : IsSmall r → All IsSmall (r ∷ [])
    one is zero d lt = is
    one is (suc i) d lt = absurd (omega (arith, lt))

next : (default : Rational) (items : List Rational) (done : List Ratio) (i : ℕ) → i < length items → IsFilling (map rational_of items) done (map rational_of (drop i items)) → IsFilling (map rational_of items) done (rational_of (get_or items i default) ∷ map rational_of (drop (i + 1) items))
next default items done i lt h = subst (λ xs. IsFilling (map rational_of items) done (map rational_of xs)) (drop_more items i default lt) h

pub next_fine : (default : Rational) (items : List Rational) (done : List Ratio) (i : ℕ) → i < length items → IsFilling (map rational_of items) done (map rational_of (drop i items)) → IsFine (rational_of (get_or items i default))
next_fine default items done i lt h = fine _ _ _ _ (next default items done i lt h)

pub next_filled : (default : Rational) (items : List Rational) (done : List Ratio) (i : ℕ) (r : Ratio) → i < length items → IsFilling (map rational_of items) done (map rational_of (drop i items)) → r ≡ ratio_of (rational_of (get_or items i default)) → IsSmall r → IsFilling (map rational_of items) (done ++ r ∷ []) (map rational_of (drop (i + 1) items))
next_filled default items done i r lt h is small = filled _ _ _ _ r (next default items done i lt h) is small
