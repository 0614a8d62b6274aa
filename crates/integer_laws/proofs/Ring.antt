-- Ring identities and order over ℤ. An integer is read as p - q with natural p and q, and `simp` pushes sums and products
-- through; what is left is an identity over ℕ, which `omega` proves.
use Rattle.std.proofs.Common.{◌≡◌, ℕ, suc, ◌+◌, ◌*◌, ◌<◌, ◌≤◌, arith, refl, ◌∙◌, sym, ap, subst}
use Rattle.std.proofs.Math.IntN.{ℤ, pos, negsuc, ◌+ℤ◌, ◌-ℤ◌, ◌*ℤ◌, neg_ℤ, pos-*ℤ-pos, pos-*ℤ-negsuc, negsuc-*ℤ-pos, negsuc-*ℤ-negsuc}
use Rattle.std.proofs.lemmas.Int.{ints, by_lt_z}
use Rattle.std.proofs.Math.Nat.{le_of_mul-le-mul_left}
use Rattle.std.specs.Prelude.{◌≤ℤ◌, ◌<ℤ◌}
use Rattle.std.specs.Int.{int_div_euclid}
use Rattle.integer_laws.specs.Differences.{diff}

pub diff_same : (p q s t : ℕ) → p + t ≡ s + q → diff p q ≡ diff s t
unfolding diff
diff_same p q s t h = omega (arith, ints)

pub same_diff : (p q s t : ℕ) → diff p q ≡ diff s t → p + t ≡ s + q
unfolding diff
same_diff p q s t h = omega (arith, ints)

pub diff_add : (p q s t : ℕ) → diff p q +ℤ diff s t ≡ diff (p + s) (q + t)
unfolding diff
diff_add p q s t = omega (arith, ints)

pub diff_sub : (p q s t : ℕ) → diff p q -ℤ diff s t ≡ diff (p + t) (q + s)
unfolding diff
diff_sub p q s t = omega (arith, ints)

pub pos_diff : (n : ℕ) → pos n ≡ diff n 0
unfolding diff
pos_diff n = omega (arith, ints)

pub negsuc_diff : (n : ℕ) → negsuc n ≡ diff 0 (n + 1)
unfolding diff
negsuc_diff n = omega (arith, ints)

-- what holds of every difference holds of every integer
pub by_diff : (P : ℤ → Type 0) → ((p q : ℕ) → P (diff p q)) → (x : ℤ) → P x
by_diff P f (pos n) = subst P (sym (pos_diff n)) (f n 0)
by_diff P f (negsuc n) = subst P (sym (negsuc_diff n)) (f 0 (n + 1))

plus_of : (a p q : ℕ) → pos a ≡ diff p q → p ≡ q + a
unfolding diff
plus_of a p q e = omega (arith, ints)

minus_of : (a p q : ℕ) → negsuc a ≡ diff p q → q ≡ p + suc a
unfolding diff
minus_of a p q e = omega (arith, ints)

neg_pos_diff : (n : ℕ) → neg_ℤ (pos n) ≡ diff 0 n
unfolding diff
neg_pos_diff n = omega (arith, ints)

plus_plus : (a b q t p s : ℕ) → p ≡ q + a → s ≡ t + b → a * b + (p * t + q * s) ≡ (p * s + q * t) + 0
plus_plus a b q t p s hp hs = rw hp (rw hs (omega arith))

plus_minus : (a b q s p t : ℕ) → p ≡ q + a → t ≡ s + suc b → 0 + (p * t + q * s) ≡ (p * s + q * t) + a * suc b
plus_minus a b q s p t hp hs = rw hp (rw hs (omega arith))

minus_plus : (a b p t q s : ℕ) → q ≡ p + suc a → s ≡ t + b → 0 + (p * t + q * s) ≡ (p * s + q * t) + suc a * b
minus_plus a b p t q s hp hs = rw hp (rw hs (omega arith))

minus_minus : (a b p s q t : ℕ) → q ≡ p + suc a → t ≡ s + suc b → suc a * suc b + (p * t + q * s) ≡ (p * s + q * t) + 0
minus_minus a b p s q t hp hs = rw hp (rw hs (omega arith))

mul_signs : (x y : ℤ) (p q s t : ℕ) → x ≡ diff p q → y ≡ diff s t → x *ℤ y ≡ diff (p * s + q * t) (p * t + q * s)
mul_signs (pos a) (pos b) p q s t e f = pos-*ℤ-pos a b ∙ pos_diff (a * b) ∙ diff_same (a * b) 0 _ _ (plus_plus a b q t p s (plus_of a p q e) (plus_of b s t f))
mul_signs (pos a) (negsuc b) p q s t e f = pos-*ℤ-negsuc a b ∙ neg_pos_diff (a * suc b) ∙ diff_same 0 (a * suc b) _ _ (plus_minus a b q s p t (plus_of a p q e) (minus_of b s t f))
mul_signs (negsuc a) (pos b) p q s t e f = negsuc-*ℤ-pos a b ∙ neg_pos_diff (suc a * b) ∙ diff_same 0 (suc a * b) _ _ (minus_plus a b p t q s (minus_of a p q e) (plus_of b s t f))
mul_signs (negsuc a) (negsuc b) p q s t e f = negsuc-*ℤ-negsuc a b ∙ pos_diff (suc a * suc b) ∙ diff_same (suc a * suc b) 0 _ _ (minus_minus a b p s q t (minus_of a p q e) (minus_of b s t f))

pub diff_mul : (p q s t : ℕ) → diff p q *ℤ diff s t ≡ diff (p * s + q * t) (p * t + q * s)
diff_mul p q s t = mul_signs (diff p q) (diff s t) p q s t refl refl

pub diff_le : (p q s t : ℕ) → p + t ≤ s + q → (diff p q) ≤ℤ (diff s t)
unfolding diff
diff_le p q s t h = omega (arith, ints)

pub le_diff : (p q s t : ℕ) → (diff p q) ≤ℤ (diff s t) → p + t ≤ s + q
unfolding diff
le_diff p q s t h = omega (arith, ints)

pub diff_lt : (p q s t : ℕ) → p + t < s + q → (diff p q) <ℤ (diff s t)
unfolding diff
diff_lt p q s t h = omega (arith, ints)

pub times_comm : (a b : ℤ) → a *ℤ b ≡ b *ℤ a
times_comm a b = by_diff (λ a. a *ℤ b ≡ b *ℤ a) (λ p q.
    by_diff (λ b. diff p q *ℤ b ≡ b *ℤ diff p q) (λ s t. simp diff_mul (diff_same _ _ _ _ (omega arith))) b) a

pub times_assoc : (a b c : ℤ) → (a *ℤ b) *ℤ c ≡ a *ℤ (b *ℤ c)
times_assoc a b c = by_diff (λ a. (a *ℤ b) *ℤ c ≡ a *ℤ (b *ℤ c)) (λ p q.
    by_diff (λ b. (diff p q *ℤ b) *ℤ c ≡ diff p q *ℤ (b *ℤ c)) (λ s t.
    by_diff (λ c. (diff p q *ℤ diff s t) *ℤ c ≡ diff p q *ℤ (diff s t *ℤ c)) (λ u v. simp diff_mul (diff_same _ _ _ _ (omega arith))) c) b) a

pub times_sum : (a b c : ℤ) → a *ℤ (b +ℤ c) ≡ (a *ℤ b) +ℤ (a *ℤ c)
times_sum a b c = by_diff (λ a. a *ℤ (b +ℤ c) ≡ (a *ℤ b) +ℤ (a *ℤ c)) (λ p q.
    by_diff (λ b. diff p q *ℤ (b +ℤ c) ≡ (diff p q *ℤ b) +ℤ (diff p q *ℤ c)) (λ s t.
    by_diff (λ c. diff p q *ℤ (diff s t +ℤ c) ≡ (diff p q *ℤ diff s t) +ℤ (diff p q *ℤ c)) (λ u v. simp (diff_add, diff_mul) (diff_same _ _ _ _ (omega arith))) c) b) a

pub sum_times : (a b c : ℤ) → (a +ℤ b) *ℤ c ≡ (a *ℤ c) +ℤ (b *ℤ c)
sum_times a b c = times_comm (a +ℤ b) c ∙ times_sum c a b ∙ ap (λ x. x +ℤ (c *ℤ b)) (times_comm c a) ∙ ap (λ x. (a *ℤ c) +ℤ x) (times_comm c b)

pub times_one : (a : ℤ) → a *ℤ pos 1 ≡ a
times_one a = by_diff (λ a. a *ℤ pos 1 ≡ a) (λ p q. simp (pos_diff, diff_mul) (diff_same _ _ _ _ (omega arith))) a

pub times_zero : (a : ℤ) → a *ℤ pos 0 ≡ pos 0
times_zero a = by_diff (λ a. a *ℤ pos 0 ≡ pos 0) (λ p q. simp (pos_diff, diff_mul) (diff_same _ _ _ _ (omega arith))) a

less_times : (c a b : ℕ) → a ≤ b → c * a ≤ c * b
less_times c a b h = grind arith

le_of_times : (c a b : ℕ) → suc c * a ≤ suc c * b → a ≤ b
le_of_times c a b h = le_of_mul-le-mul_left h (omega arith)

scaled_diff : (c p q s t : ℕ) → (diff p q) ≤ℤ (diff s t) → (pos c *ℤ diff p q) ≤ℤ (pos c *ℤ diff s t)
scaled_diff c p q s t h = simp (pos_diff, diff_mul) (diff_le _ _ _ _ (omega (arith, less_times c _ _ (le_diff p q s t h))))

unscaled_diff : (c p q s t : ℕ) → (pos (suc c) *ℤ diff p q) ≤ℤ (pos (suc c) *ℤ diff s t) → (diff p q) ≤ℤ (diff s t)
unscaled_diff c p q s t h = diff_le p q s t (le_of_times c (p + t) (s + q) (omega (arith, le_diff _ _ _ _ (simp (pos_diff, diff_mul) at h))))

-- a natural factor keeps the order
pub le_scaled : (c : ℕ) (x y : ℤ) → x ≤ℤ y → (pos c *ℤ x) ≤ℤ (pos c *ℤ y)
le_scaled c x y = by_diff (λ x. x ≤ℤ y → (pos c *ℤ x) ≤ℤ (pos c *ℤ y)) (λ p q.
    by_diff (λ y. (diff p q) ≤ℤ y → (pos c *ℤ diff p q) ≤ℤ (pos c *ℤ y)) (λ s t. scaled_diff c p q s t) y) x

-- a positive factor reflects the order
pub le_unscaled : (c : ℕ) (x y : ℤ) → (pos (suc c) *ℤ x) ≤ℤ (pos (suc c) *ℤ y) → x ≤ℤ y
le_unscaled c x y = by_diff (λ x. (pos (suc c) *ℤ x) ≤ℤ (pos (suc c) *ℤ y) → x ≤ℤ y) (λ p q.
    by_diff (λ y. (pos (suc c) *ℤ diff p q) ≤ℤ (pos (suc c) *ℤ y) → (diff p q) ≤ℤ y) (λ s t. unscaled_diff c p q s t) y) x

-- and equality
pub eq_unscaled : (c : ℕ) (x y : ℤ) → pos (suc c) *ℤ x ≡ pos (suc c) *ℤ y → x ≡ y
eq_unscaled c x y e = omega (arith, ints, le_unscaled c x y (omega (arith, ints, e)), le_unscaled c y x (omega (arith, ints, e)))

-- the floor of a quotient by a positive number lies at most one below it
pub record IsFloor (z q : ℤ) (r : ℕ) : Type 0 where
  pub low : (q *ℤ pos r) ≤ℤ z
  pub high : z <ℤ ((q *ℤ pos r) +ℤ pos r)

pub floor_range : (z : ℤ) (r : ℕ) → 0 < r → IsFloor z (int_div_euclid z (pos r)) r
floor_range (pos a) r h = record { low = omega (arith, ints); high = omega (arith, ints) }
floor_range (negsuc a) r h = record { low = omega (arith, ints); high = omega (arith, ints) }

next_multiple : (a b : ℤ) (r : ℕ) → 0 < r → a <ℤ b → ((a *ℤ pos r) +ℤ pos r) ≤ℤ (b *ℤ pos r)
next_multiple a b r h k = grind (arith, ints)

multiples : (a b : ℤ) (r : ℕ) → b ≤ℤ a → (b *ℤ pos r) ≤ℤ (a *ℤ pos r)
multiples a b r k = rw (times_comm b (pos r)) (rw (times_comm a (pos r)) (le_scaled r b a k))

-- the floor moves over: it is below y exactly where z is below r times y
pub floor_below : (z y : ℤ) (r : ℕ) → 0 < r → (int_div_euclid z (pos r)) <ℤ y → z <ℤ (y *ℤ pos r)
floor_below z y r h k = omega (arith, ints, (floor_range z r h).high, next_multiple (int_div_euclid z (pos r)) y r h k)

pub below_floor : (z y : ℤ) (r : ℕ) → 0 < r → z <ℤ (y *ℤ pos r) → (int_div_euclid z (pos r)) <ℤ y
below_floor z y r h k = by_lt_z (int_div_euclid z (pos r)) y (λ below. below) (λ above. absurd (omega (arith, ints, (floor_range z r h).low, multiples (int_div_euclid z (pos r)) y r above)))
