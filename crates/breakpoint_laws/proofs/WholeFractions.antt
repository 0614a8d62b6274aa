-- A bound fraction that has to be whole is a bound whole number.
use Rattle.std.proofs.Common.{◌≡◌, ℕ, suc, ◌*◌, List, [], ◌∷◌, arith, refl, ◌∙◌, sym, ap, subst}
use Rattle.std.proofs.Math.IntN.{ℤ, pos, ◌*ℤ◌}
use Rattle.integer_laws.specs.Vectors.{scale}
use Rattle.integer_laws.proofs.Ring.{diff_same, diff_mul, by_diff, pos_diff}
use Rattle.lash_model.specs.Sets.{IsOfFractions, inserted_at}
use Rattle.lash_model.proofs.FractionSets.{scale-inserted}
use Rattle.breakpoint_laws.proofs.Projections.{SomeNumber}

-- ---- a variable of sort Int: the real number is a whole number
pub record SomeWhole (P : List ℤ → ℕ → Type 0) (place : ℕ) (ns : List ℤ) (d : ℕ) : Type 0 where
  pub number : ℤ
  pub holds : P (inserted_at place (number *ℤ pos d) ns) d

pub record Divided (m : ℤ) (d : ℕ) : Type 0 where
  pub quotient : ℤ
  pub is : m ≡ quotient *ℤ pos d

pub whole_of_some : (P : List ℤ → ℕ → Type 0) → IsOfFractions P → (place : ℕ) → ((m : ℤ) (ns : List ℤ) (d : ℕ) → P (inserted_at place m ns) d → Divided m d)
    → (ns : List ℤ) (d : ℕ) → SomeNumber P place ns d → SomeWhole P place ns d
whole_of_some P free place divides ns d p = from (divides p.number (scale (suc p.less) ns) (suc p.less * d) p.holds)
  where
    times : (e d : ℕ) (q : ℤ) → q *ℤ pos (suc e * d) ≡ pos (suc e) *ℤ (q *ℤ pos d)
    times e d q = by_diff (λ q. q *ℤ pos (suc e * d) ≡ pos (suc e) *ℤ (q *ℤ pos d)) (λ x y. simp (pos_diff, diff_mul) (diff_same _ _ _ _ (omega arith))) q

    from : Divided p.number (suc p.less * d) → SomeWhole P place ns d
    from q = record {
      number = q.quotient;
      holds =
          (free p.less (inserted_at place (q.quotient *ℤ pos d) ns) d).1
          (subst (λ xs. P xs (suc p.less * d)) (ap (λ m. inserted_at place m (scale (suc p.less) ns)) (q.is ∙ times p.less d q.quotient)
          ∙ sym (scale-inserted (suc p.less) place (q.quotient *ℤ pos d) ns)) p.holds);
    }

scale_one : (ns : List ℤ) → ns ≡ scale 1 ns
unfolding scale
scale_one [] = refl
scale_one (x ∷ xs) = ap (λ y. y ∷ xs) (once x) ∙ ap (λ ys. (pos 1 *ℤ x) ∷ ys) (scale_one xs)
  where
    once : (x : ℤ) → x ≡ pos 1 *ℤ x
    once x = by_diff (λ x. x ≡ pos 1 *ℤ x) (λ p q. simp (pos_diff, diff_mul) (diff_same _ _ _ _ (omega arith))) x

pub some_of_whole : (P : List ℤ → ℕ → Type 0) (place : ℕ) (ns : List ℤ) (d : ℕ) → SomeWhole P place ns d → SomeNumber P place ns d
some_of_whole P place ns d p =
    record {
      less = 0;
      number = p.number *ℤ pos d;
      holds = subst (λ n. P (inserted_at place (p.number *ℤ pos d) (scale 1 ns)) n) (once d)
          (subst (λ xs. P (inserted_at place (p.number *ℤ pos d) xs) d) (scale_one ns) p.holds);
    }
  where
    once : (d : ℕ) → d ≡ 1 * d
    once d = omega arith
