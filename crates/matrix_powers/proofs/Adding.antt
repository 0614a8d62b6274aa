-- Sums of numbers that are given one by one.
use Rattle.std.proofs.Common.{◌≡◌, ℕ, zero, suc, ◌+◌, ◌*◌, ◌<◌, ◌≤◌, arith, refl, ap, ap₂, ◌∙◌, sym, add-one, inl, inr, unsigned_abs}
use Rattle.std.proofs.Math.IntN.{ℤ, pos, ◌+ℤ◌, ◌*ℤ◌}
use Rattle.std.proofs.lemmas.Int.{ints}
use Rattle.std.specs.Prelude.{nat_eq}
use Rattle.integer_laws.proofs.Ring.{times_zero, times_one}
use Rattle.std.proofs.lemmas.Bool.{eq-eqb, ne_eqb, cases_lt}
use Rattle.matrix_powers.specs.Matrices.{sum_below, one_where}

pub sum_abs : (a b : ℤ) → unsigned_abs (a +ℤ b) ≤ unsigned_abs a + unsigned_abs b
sum_abs a b = grind (arith, ints)

-- the sum so far, and its bound
pub record IsSum (f : ℕ → ℤ) (m n : ℕ) (s : ℤ) : Type 0 where
  pub value : s ≡ sum_below n f
  pub small : unsigned_abs s ≤ n * m

pub sum_begins : (f : ℕ → ℤ) (m : ℕ) → IsSum f m 0 (pos 0)
unfolding sum_below
sum_begins f m = record { value = refl; small = omega arith }

pub sum_suc : (n : ℕ) (f : ℕ → ℤ) → sum_below (n + 1) f ≡ sum_below n f +ℤ f n
unfolding sum_below
sum_suc n f = ap (λ k. sum_below k f) (add-one n)

next_bound : (m n k x y z : ℕ) → k ≡ n + 1 → x ≤ n * m → y ≤ m → z ≤ x + y → z ≤ k * m
next_bound m n k x y z is h i l = rw is (omega (arith, h, i, l))

pub sum_next : (f : ℕ → ℤ) (m n : ℕ) (s x : ℤ) → IsSum f m n s → x ≡ f n → unsigned_abs x ≤ m → IsSum f m (n + 1) (s +ℤ x)
sum_next f m n s x h is small = record {
  value = ap₂ (λ a b. a +ℤ b) h.value is ∙ sym (sum_suc n f);
  small = next_bound m n (n + 1) _ _ _ refl h.small small (sum_abs s x);
}

pub sum_same : (n : ℕ) (f g : ℕ → ℤ) → ((i : ℕ) → i < n → f i ≡ g i) → sum_below n f ≡ sum_below n g
unfolding sum_below
sum_same zero f g same = refl
sum_same (suc n) f g same = ap₂ (λ a b. a +ℤ b) (sum_same n f g (λ i h. same i (omega (arith, h)))) (same n (omega arith))

pub sum_small : (n : ℕ) (f : ℕ → ℤ) (m : ℕ) → ((i : ℕ) → i < n → unsigned_abs (f i) ≤ m) → unsigned_abs (sum_below n f) ≤ n * m
unfolding sum_below
sum_small zero f m small = omega arith
sum_small (suc n) f m small = next_bound m n (suc n) (unsigned_abs (sum_below n f)) (unsigned_abs (f n)) _ (sym (add-one n)) (sum_small n f m (λ i h. small i (omega (arith, h)))) (small n (omega arith)) (sum_abs (sum_below n f) (f n))

pub one_same : (n : ℕ) → one_where (nat_eq n n) ≡ pos 1
one_same n = ap one_where (eq-eqb n n refl)

pub one_other : (n m : ℕ) → (n ≡ m → ⊥) → one_where (nat_eq n m) ≡ pos 0
one_other n m h = ap one_where (ne_eqb n m h)

none_before : (n column : ℕ) (f : ℕ → ℤ) → n ≤ column → sum_below n (λ i. f i *ℤ one_where (nat_eq i column)) ≡ pos 0
unfolding sum_below
none_before zero column f h = refl
none_before (suc n) column f h =
    let before = none_before n column f (omega (arith, h)) in
    let last : f n *ℤ one_where (nat_eq n column) ≡ pos 0 = ap (λ x. f n *ℤ x) (one_other n column (λ e. omega (arith, e, h))) ∙ times_zero (f n) in
    ap₂ (λ a b. a +ℤ b) before last

from_left : (a b : ℤ) → b ≡ pos 0 → a +ℤ b ≡ a
from_left a b e = omega (arith, ints, e)

from_right : (a b : ℤ) → a ≡ pos 0 → a +ℤ b ≡ b
from_right a b e = omega (arith, ints, e)

-- of the products with a unit vector's entries one is left
pub sum_one : (n column : ℕ) (f : ℕ → ℤ) → column < n → sum_below n (λ i. f i *ℤ one_where (nat_eq i column)) ≡ f column
unfolding sum_below
sum_one zero column f h = absurd (omega (arith, h))
sum_one (suc n) column f h =
    let before = sum_one n column f in
    elim (cases_lt column n) [
      | inl less ↦ from_left _ _ (ap (λ x. f n *ℤ x) (one_other n column (λ e. omega (arith, e, less))) ∙ times_zero (f n)) ∙ before less
      | inr last ↦ here (omega (arith, h, last))
    ]
  where
    here : column ≡ n → (sum_below n (λ i. f i *ℤ one_where (nat_eq i column))) +ℤ (f n *ℤ one_where (nat_eq n column)) ≡ f column
    here e = from_right _ _ (none_before n column f (omega (arith, e))) ∙ ap (λ x. f n *ℤ one_where (nat_eq n x)) e ∙ ap (λ x. f n *ℤ x) (one_same n) ∙ times_one (f n) ∙ ap f (sym e)
