-- Laws of finite sums of integers.
use Rattle.std.proofs.Common.{◌≡◌, ℕ, zero, suc, ◌<◌, ◌≤◌, arith, refl, sym, ap, ◌∙◌, nat_eq, inl, inr}
use Rattle.std.proofs.Math.IntN.{ℤ, pos, ◌+ℤ◌, ◌*ℤ◌}
use Rattle.std.proofs.lemmas.Bool.{cases_eq, eq-eqb, ne_eqb}
use Rattle.std.proofs.lemmas.Int.{ints}
use Rattle.integer_laws.proofs.Ring.{times_comm, times_assoc, times_sum, times_one, times_zero, sum_times}
use Rattle.matrix_powers.specs.Matrices.{sum_below, one_where}

pub zero_times : (y : ℤ) → pos 0 *ℤ y ≡ pos 0
zero_times y = times_comm (pos 0) y ∙ times_zero y

pub one_times : (y : ℤ) → pos 1 *ℤ y ≡ y
one_times y = times_comm (pos 1) y ∙ times_one y

-- equal summands
pub sum_same : (n : ℕ) (f g : ℕ → ℤ) → ((i : ℕ) → i < n → f i ≡ g i) → sum_below n f ≡ sum_below n g
unfolding sum_below
sum_same zero f g h = refl
sum_same (suc n) f g h = let rec = sum_same n f g (λ i lt. h i (omega (arith, lt))) in omega (arith, ints, rec, h n (omega arith))

pub sum_plus : (n : ℕ) (f g : ℕ → ℤ) → sum_below n (λ i. f i +ℤ g i) ≡ sum_below n f +ℤ sum_below n g
unfolding sum_below
sum_plus zero f g = refl
sum_plus (suc n) f g = omega (arith, ints, sum_plus n f g)

-- a factor on the left
pub sum_scaled : (n : ℕ) (c : ℤ) (f : ℕ → ℤ) → sum_below n (λ i. c *ℤ f i) ≡ c *ℤ sum_below n f
unfolding sum_below
sum_scaled zero c f = sym (times_zero c)
sum_scaled (suc n) c f = omega (arith, ints, sum_scaled n c f, times_sum c (sum_below n f) (f n))

-- and on the right
pub sum_factor : (n : ℕ) (c : ℤ) (f : ℕ → ℤ) → sum_below n (λ i. f i *ℤ c) ≡ sum_below n f *ℤ c
unfolding sum_below
sum_factor zero c f = sym (zero_times c)
sum_factor (suc n) c f = omega (arith, ints, sum_factor n c f, sum_times (sum_below n f) (f n) c)

-- a sum of zeros
pub sum_none : (n : ℕ) (f : ℕ → ℤ) → ((i : ℕ) → i < n → f i ≡ pos 0) → sum_below n f ≡ pos 0
unfolding sum_below
sum_none zero f h = refl
sum_none (suc n) f h = let rec = sum_none n f (λ i lt. h i (omega (arith, lt))) in omega (arith, ints, rec, h n (omega arith))

-- a product of matrices acts as one factor after the other
pub associates : (m n : ℕ) (a : ℕ → ℤ) (p : ℕ → ℕ → ℤ) (x : ℕ → ℤ) → sum_below n (λ c. sum_below m (λ i. a i *ℤ p i c) *ℤ x c) ≡ sum_below m (λ i. a i *ℤ sum_below n (λ c. p i c *ℤ x c))
unfolding sum_below
associates zero n a p x = sum_none n (λ c. pos 0 *ℤ x c) (λ i lt. zero_times (x i))
associates (suc m) n a p x =
    sum_same n (λ c. (sum_below m (λ i. a i *ℤ p i c) +ℤ (a m *ℤ p m c)) *ℤ x c) (λ c. (sum_below m (λ i. a i *ℤ p i c) *ℤ x c) +ℤ (a m *ℤ (p m c *ℤ x c))) (λ c lt. parted (sum_below m (λ i. a i *ℤ p i c)) (a m) (p m c) (x c))
    ∙ sum_plus n (λ c. sum_below m (λ i. a i *ℤ p i c) *ℤ x c) (λ c. a m *ℤ (p m c *ℤ x c))
    ∙ ap (λ s. s +ℤ sum_below n (λ c. a m *ℤ (p m c *ℤ x c))) (associates m n a p x)
    ∙ ap (λ s. sum_below m (λ i. a i *ℤ sum_below n (λ c. p i c *ℤ x c)) +ℤ s) (sum_scaled n (a m) (λ c. p m c *ℤ x c))
  where
    parted : (s a p x : ℤ) → (s +ℤ (a *ℤ p)) *ℤ x ≡ (s *ℤ x) +ℤ (a *ℤ (p *ℤ x))
    parted s a p x = sum_times s (a *ℤ p) x ∙ ap (λ y. (s *ℤ x) +ℤ y) (times_assoc a p x)

-- the row of the identity picks an entry
not_picked : (row n : ℕ) (f : ℕ → ℤ) → n ≤ row → sum_below n (λ i. one_where (nat_eq row i) *ℤ f i) ≡ pos 0
not_picked row n f le = sum_none n (λ i. one_where (nat_eq row i) *ℤ f i) (λ i lt. ap (λ b. one_where b *ℤ f i) (ne_eqb row i (λ e. omega (arith, le, lt, e))) ∙ zero_times (f i))

pub picked : (row n : ℕ) (f : ℕ → ℤ) → row < n → sum_below n (λ i. one_where (nat_eq row i) *ℤ f i) ≡ f row
unfolding sum_below
picked row zero f lt = absurd (omega arith)
picked row (suc n) f lt = elim (cases_eq row n) [
  | inl e ↦ omega (arith, ints, not_picked row n f (omega (arith, e)), ap (λ b. one_where b *ℤ f n) (eq-eqb row n e) ∙ one_times (f n), ap f e)
  | inr ne ↦ omega (arith, ints, picked row n f (omega (arith, lt, ne)), ap (λ b. one_where b *ℤ f n) (ne_eqb row n ne) ∙ zero_times (f n))
]
