-- Powers from powers, and powers that come again.
use Rattle.std.proofs.Common.{◌≡◌, ℕ, zero, suc, ◌+◌, ◌-◌, ◌^◌, ◌<◌, ◌≤◌, arith, refl, ap, ◌∙◌, sym, add-one, inl, inr, unsigned_abs}
use Rattle.std.proofs.Math.IntN.{◌*ℤ◌}
use Rattle.std.specs.Prelude.{nat_eq, Bool, true, false}
use Rattle.std.proofs.lemmas.Bool.{cases_lt}
use Rattle.matrix_powers.specs.Matrices.{Square, entry, one_where, sum_below, power_entry}
use Rattle.matrix_powers.specs.Powers.{IsPower}
use Rattle.matrix_powers.specs.Products.{IsSmall, IsSmallPower, IsProduct, IsPowerOf}
use Rattle.matrix_powers.proofs.Adding.{sum_same, sum_one}

pub power_next : (a : Square) (k row column : ℕ) → power_entry a (k + 1) row column ≡ sum_below a.side (λ i. entry a row i *ℤ power_entry a k i column)
unfolding power_entry
power_next a k row column = ap (λ n. power_entry a n row column) (add-one k)

pub power_one : (a : Square) (row column : ℕ) → column < a.side → power_entry a 1 row column ≡ entry a row column
unfolding power_entry
power_one a row column c = sum_one a.side column (λ i. entry a row i) c

pub next_power : (a m c : Square) (k : ℕ) → IsPowerOf a k m → IsProduct a m c → IsPowerOf a (k + 1) c
next_power a m c k before product = record {
  same_side = product.same_side;
  entries_are = λ row column in_rows in_columns.
      product.entries_are row column in_rows in_columns
      ∙ sum_same a.side _ _ (λ i h. ap (λ x. entry a row i *ℤ x) (before.entries_are i column h in_columns))
      ∙ sym (power_next a k row column);
}

pub identity_power : (a m : Square) → m.side ≡ a.side → ((row column : ℕ) → row < a.side → column < a.side → entry m row column ≡ one_where (nat_eq row column)) → IsPowerOf a 0 m
unfolding power_entry
identity_power a m side_is is = record { same_side = side_is; entries_are = is }

one_small : (b : Bool) → unsigned_abs (one_where b) ≤ 2 ^ 40
one_small true = omega arith
one_small false = omega arith

pub identity_small : (a : Square) → IsSmallPower a 0
unfolding power_entry
identity_small a = record { within = λ row column r c. one_small (nat_eq row column) }

pub small_from_power : (a m : Square) (k : ℕ) → IsPowerOf a k m → IsSmallPower a k → IsSmall m
small_from_power a m k is small = record {
  within = λ row column r c.
      let in_rows : row < a.side = omega (arith, r, is.same_side) in
      let in_columns : column < a.side = omega (arith, c, is.same_side) in
      omega (arith, small.within row column in_rows in_columns, ap unsigned_abs (is.entries_are row column in_rows in_columns));
}

pub small_power : (a m : Square) (k : ℕ) → IsPowerOf a k m → IsSmall m → IsSmallPower a k
small_power a m k is small = record {
  within = λ row column r c.
      omega (arith, small.within row column (omega (arith, r, is.same_side)) (omega (arith, c, is.same_side)), ap unsigned_abs (is.entries_are row column r c));
}

-- the matrix is its first power
pub base_small : (a : Square) (p : ℕ) → 1 ≤ p → IsPower a p → IsSmall a
base_small a p some h = record {
  within = λ row column r c.
      omega (arith, h.small 1 row column (omega arith) (omega (arith, some)) r c, ap unsigned_abs (power_one a row column c));
}

pub power_small : (a : Square) (p k : ℕ) → IsPower a p → k ≤ p + p → IsSmallPower a k
power_small a p zero h few = identity_small a
power_small a p (suc k) h few = record { within = λ row column r c. h.small (suc k) row column (omega arith) few r c }

again_from : (a : Square) (p j m n : ℕ) → IsPower a p → m ≡ p + p + j → n ≡ p + j → (row column : ℕ) → row < a.side → column < a.side → power_entry a m row column ≡ power_entry a n row column
again_from a p zero m n h m_is n_is row column r c =
    let left : m ≡ p + p = omega (arith, m_is) in
    let right : n ≡ p = omega (arith, n_is) in
    ap (λ k. power_entry a k row column) left ∙ h.again row column r c ∙ ap (λ k. power_entry a k row column) (sym right)
again_from a p (suc j) m n h m_is n_is row column r c =
    let before = again_from a p j (p + p + j) (p + j) h refl refl in
    let left : m ≡ p + p + j + 1 = omega (arith, m_is) in
    let right : n ≡ p + j + 1 = omega (arith, n_is) in
    ap (λ k. power_entry a k row column) left
    ∙ power_next a (p + p + j) row column
    ∙ sum_same a.side _ _ (λ i inside. ap (λ x. entry a row i *ℤ x) (before i column inside c))
    ∙ sym (power_next a (p + j) row column)
    ∙ ap (λ k. power_entry a k row column) (sym right)

-- from the p-th power on all powers come again, every p
pub comes_again : (a : Square) (p m n : ℕ) → IsPower a p → p + p ≤ m → m ≡ n + p → (row column : ℕ) → row < a.side → column < a.side → power_entry a m row column ≡ power_entry a n row column
comes_again a p m n h far is = again_from a p (n - p) m n h (omega (arith, far, is)) (omega (arith, far, is))

pub small_before : (a : Square) (p k : ℕ) → IsPower a p → k ≤ p + p + p → IsSmallPower a k
small_before a p k h few = elim (cases_lt (p + p) k) [
  | inl far ↦ behind far
  | inr near ↦ power_small a p k h near
]
  where
    behind : p + p < k → IsSmallPower a k
    behind far = record {
      within = λ row column r c.
          omega (arith, (power_small a p (k - p) h (omega (arith, few))).within row column r c, ap unsigned_abs (comes_again a p k (k - p) h (omega (arith, far)) (omega (arith, far)) row column r c));
    }
