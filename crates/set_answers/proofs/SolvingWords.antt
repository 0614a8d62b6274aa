-- A vector of whole numbers, over any denominator, solves the sets that a word's values solve.
use Rattle.std.proofs.Common.{◌≡◌, ℕ, zero, suc, ◌*◌, ◌^◌, ◌≤◌, ◌<◌, List, [], ◌∷◌, length, arith, refl, ◌∙◌, sym, ap, ap₂, subst}
use Rattle.std.proofs.Math.IntN.{ℤ, pos}
use Rattle.std.specs.Prelude.{◌↔◌, All}
use Rattle.integer_laws.specs.Vectors.{scale}
use Rattle.integer_laws.proofs.Entries.{length-vector_from}
use Rattle.integer_laws.proofs.Ring.{times_comm}
use Rattle.lash_model.specs.Formulas.{Formula}
use Rattle.lash_model.specs.Meaning.{IsWhole, Solves}
use Rattle.lash_model.specs.Words.{value, values}
use Rattle.lash_model.specs.Standing.{all_int}
use Rattle.lash_model.proofs.Scaling.{Solves-scale}
use Rattle.set_answers.specs.Agreement.{IsVector}
use Rattle.set_answers.proofs.VectorWords.{SpellsVector, vector_word}
use Rattle.set_answers.proofs.SortKinds.{length-all_int}

-- ---- each entry is the denominator times a number
pub record WholeVector (n c : ℕ) (ns : List ℤ) : Type 0 where
  pub numbers : List ℤ
  pub count : length numbers ≡ n
  pub is : ns ≡ scale (suc c) numbers

pub whole_vector : (n c : ℕ) (ns : List ℤ) → length ns ≡ n → IsWhole (all_int n) ns (suc c) → WholeVector n c ns
unfolding IsWhole scale
whole_vector zero c [] e h = record { numbers = []; count = refl; is = refl }
whole_vector zero c (x ∷ ns) e h = absurd (omega (arith, e))
whole_vector (suc n) c [] e h = absurd (omega (arith, e))
whole_vector (suc n) c (x ∷ ns) e h = let rest = whole_vector n c ns (omega (arith, e)) h.1 in record {
  numbers = h.0.0 ∷ rest.numbers;
  count = ap suc rest.count;
  is = ap₂ (λ y ys. y ∷ ys) (h.0.1 ∙ times_comm h.0.0 (pos (suc c))) rest.is;
}

pub length-scale : (c : ℕ) (ns : List ℤ) → length (scale c ns) ≡ length ns
unfolding scale
length-scale c [] = refl
length-scale c (x ∷ ns) = ap suc (length-scale c ns)

-- ---- the denominator makes no difference
pub scaled : (n : ℕ) (f : Formula) (c : ℕ) (ms ns : List ℤ) → ns ≡ scale (suc c) ms → Solves (all_int n) f ns (suc c) ↔ Solves (all_int n) f ms 1
scaled n f c ms ns e =
    let one : suc c * 1 ≡ suc c = omega arith in
    let moved = Solves-scale (all_int n) f c ms 1 in (
      λ s. moved.1 (subst (λ xs. Solves (all_int n) f xs (suc c * 1)) e (subst (λ d. Solves (all_int n) f ns d) (sym one) s)),
      λ s. subst (λ xs. Solves (all_int n) f xs (suc c)) (sym e) (subst (λ d. Solves (all_int n) f (scale (suc c) ms) d) one (moved.0 s)),
    )

-- ---- a word in base r over n tracks, whose values solve what the vector solves
pub record SolvingWord (r n : ℕ) (ns : List ℤ) (d : ℕ) : Type 0 where
  pub sign : ℕ
  pub word : List ℕ
  pub sign_below : sign < 2 ^ n
  pub letters : All (λ l. l < r ^ n) word
  pub same : (f : Formula) → Solves (all_int n) f ns d ↔ Solves (all_int n) f (values r n sign word) 1

pub word_of : (r n : ℕ) (ns : List ℤ) (d : ℕ) → 2 ≤ r → IsVector (all_int n) ns d → IsWhole (all_int n) ns d → SolvingWord r n ns d
word_of r n ns zero h v w = absurd (omega (arith, v.positive))
word_of r n ns (suc c) h v w =
    let whole = whole_vector n c ns (v.count ∙ length-all_int n) w in
    let spelled : SpellsVector r n whole.numbers = subst (λ m. SpellsVector r m whole.numbers) whole.count (vector_word r whole.numbers h) in record {
      sign = spelled.sign;
      word = spelled.word;
      sign_below = spelled.sign_below;
      letters = spelled.letters;
      same = λ f. subst (λ xs. Solves (all_int n) f ns (suc c) ↔ Solves (all_int n) f xs 1) (sym spelled.is) (scaled n f c whole.numbers ns whole.is);
    }

-- the values of a word are a vector over the denominator 1
pub values_vector : (r n sign : ℕ) (w : List ℕ) → IsVector (all_int n) (values r n sign w) 1
values_vector r n sign w = record { count = length-vector_from (λ i. value r n i sign w) 0 n ∙ sym (length-all_int n); positive = omega arith }
