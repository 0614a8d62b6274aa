-- The search for the least power, exponent by exponent.
use Rattle.std.proofs.Common.{◌≡◌, ℕ, ◌+◌, ◌<◌, ◌≤◌, List, [], ◌∷◌, ◌++◌, length, get_or, arith, ◌∙◌, sym, subst, inl, inr}
use Rattle.std.proofs.lemmas.Bool.{cases_lt}
use Rattle.std.proofs.lemmas.List.{get_or_push, get_or_append_left, length-append}
use Rattle.matrix_powers.specs.Matrices.{Square, power_entry}
use Rattle.matrix_powers.specs.Powers.{IsPower, IsLeastPower, HasNoPower, powers_limit}
use Rattle.matrix_powers.specs.Products.{IsSmall, IsSmallPower, IsProduct, IsPowerOf, ArePowers, HaveSameEntries}
use Rattle.matrix_powers.proofs.Raising.{base_small, next_power, small_power}

-- one member more
pub push_each : {X : Type 0} (P : ℕ → X → Type 0) (ms : List X) (m : X) → ((k : ℕ) (d : X) → k < length ms → P k (get_or ms k d)) → P (length ms) m → (k : ℕ) (d : X) → k < length (ms ++ m ∷ []) → P k (get_or (ms ++ m ∷ []) k d)
push_each P ms m each last k d inside = elim (cases_lt k (length ms)) [
  | inl before ↦ subst (P k) (sym (get_or_append_left ms (m ∷ []) d k before)) (each k d before)
  | inr behind ↦ here (omega (arith, inside, behind, length-append ms (m ∷ [])))
]
  where
    here : k ≡ length ms → P k (get_or (ms ++ m ∷ []) k d)
    here e = subst (P k) (sym (get_or_push ms m d k (sym e))) (subst (λ n. P n m) (sym e) last)

pub powers_first : (a m : Square) → IsSmall a → IsPowerOf a 0 m → IsSmall m → ArePowers a (m ∷ [])
powers_first a m base is small = record {
  some = omega arith;
  base = base;
  each = push_each (IsPowerOf a) [] m (λ k d h. absurd (omega (arith, h))) is;
  small = push_each (λ _ x. IsSmall x) [] m (λ k d h. absurd (omega (arith, h))) small;
}

-- the product with the last of the powers is the next one
pub next_of_powers : (a m c : Square) (ms : List Square) (k : ℕ) → ArePowers a ms → k + 1 ≡ length ms → m ≡ get_or ms k m → IsProduct a m c → IsPowerOf a (length ms) c
next_of_powers a m c ms k are is read product =
    subst (λ n. IsPowerOf a n c) is (next_power a m c k (subst (IsPowerOf a k) (sym read) (are.each k m (omega (arith, is)))) product)

-- two of the powers are the same if their entries are
pub same_powers : (a : Square) (ms : List Square) (p q : ℕ) (d e : Square) → ArePowers a ms → p < length ms → q < length ms → HaveSameEntries (get_or ms p d) (get_or ms q e) → (row column : ℕ) → row < a.side → column < a.side → power_entry a q row column ≡ power_entry a p row column
same_powers a ms p q d e are in_p in_q same row column r c =
    let first = are.each p d in_p in
    let second = are.each q e in_q in
    sym (second.entries_are row column r c) ∙ sym (same.entries_are row column (omega (arith, r, first.same_side)) (omega (arith, c, first.same_side))) ∙ first.entries_are row column r c

-- the powers up to twice n are known, and up to n none serves
pub record IsSearching (a : Square) (n : ℕ) (ms : List Square) : Type 0 where
  pub are : ArePowers a ms
  pub count : length ms ≡ n + n + 1
  pub none : (q : ℕ) → 1 ≤ q → q ≤ n → IsPower a q → ⊥

pub searching_found : (a : Square) (n : ℕ) (ms after : List Square) (d e : Square) → IsSearching a n ms → n < powers_limit → ArePowers a after → length after ≡ length ms + 2 → HaveSameEntries (get_or after (n + 1) d) (get_or after (n + 1 + (n + 1)) e) → IsLeastPower a (n + 1)
searching_found a n ms after d e before few are longer same = record {
  some = omega arith;
  few = omega (arith, few);
  power = record {
    again = same_powers a after (n + 1) (n + 1 + (n + 1)) d e are (omega (arith, longer, before.count)) (omega (arith, longer, before.count)) same;
    small = λ k row column some upto r c. (small k (omega (arith, upto, longer, before.count))).within row column r c;
  };
  least = λ q some less. before.none q some (omega (arith, less));
}
  where
    small : (k : ℕ) → k < length after → IsSmallPower a k
    small k inside = small_power a (get_or after k a) k (are.each k a inside) (are.small k a inside)

pub great_base : (a : Square) → (IsSmall a → ⊥) → HasNoPower a
great_base a great p some few h = great (base_small a p some h)
