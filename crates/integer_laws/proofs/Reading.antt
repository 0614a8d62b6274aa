-- Laws of reading digits: runs join, what was there moves up by the length, and what one cycle more or a turned cycle does.
use Rattle.std.proofs.Common.{◌≡◌, ℕ, suc, ◌*◌, ◌^◌, List, [], ◌∷◌, ◌++◌, length, arith, refl, ◌∙◌, sym, ap, subst, append_assoc}
use Rattle.std.proofs.Math.IntN.{ℤ, pos, ◌+ℤ◌, ◌-ℤ◌, ◌*ℤ◌}
use Rattle.std.proofs.Math.Nat.{pow-suc, pow-zero}
use Rattle.integer_laws.specs.Differences.{diff}
use Rattle.integer_laws.specs.Runs.{run, gain}
use Rattle.integer_laws.proofs.Ring.{diff_same, diff_add, diff_sub, diff_mul, by_diff, pos_diff}

pub run-append : (r : ℕ) (x : ℤ) (ds es : List ℤ) → run r x (ds ++ es) ≡ run r (run r x ds) es
unfolding run
run-append r x [] es = refl
run-append r x (d ∷ ds) es = run-append r ((pos r *ℤ x) +ℤ d) ds es

pub run-push : (r : ℕ) (x : ℤ) (ds : List ℤ) (d : ℤ) → run r x (ds ++ d ∷ []) ≡ (pos r *ℤ run r x ds) +ℤ d
unfolding run
run-push r x ds d = run-append r x ds (d ∷ [])

ring_shift : (p r : ℕ) (x d n m : ℤ) → n ≡ (pos p *ℤ d) +ℤ m → (pos p *ℤ ((pos r *ℤ x) +ℤ d)) +ℤ m ≡ (pos (r * p) *ℤ x) +ℤ n
ring_shift p r x d n m e = by_diff (λ x. (pos p *ℤ ((pos r *ℤ x) +ℤ d)) +ℤ m ≡ (pos (r * p) *ℤ x) +ℤ n) (λ a b.
    subst (λ n. (pos p *ℤ ((pos r *ℤ diff a b) +ℤ d)) +ℤ m ≡ (pos (r * p) *ℤ diff a b) +ℤ n) (sym e) (by_diff (λ d. (pos p *ℤ ((pos r *ℤ diff a b) +ℤ d)) +ℤ m ≡ (pos (r * p) *ℤ diff a b) +ℤ ((pos p *ℤ d) +ℤ m)) (λ f g.
    by_diff (λ m. (pos p *ℤ ((pos r *ℤ diff a b) +ℤ diff f g)) +ℤ m ≡ (pos (r * p) *ℤ diff a b) +ℤ ((pos p *ℤ diff f g) +ℤ m)) (λ u v. simp (pos_diff, diff_add, diff_mul) (diff_same _ _ _ _ (omega arith))) m) d)) x

from_zero : (r : ℕ) (d : ℤ) → (pos r *ℤ pos 0) +ℤ d ≡ d
from_zero r d = by_diff (λ d. (pos r *ℤ pos 0) +ℤ d ≡ d) (λ a b. simp (pos_diff, diff_add, diff_mul) (diff_same _ _ _ _ (omega arith))) d

one_times : (x : ℤ) → x ≡ (pos 1 *ℤ x) +ℤ pos 0
one_times x = by_diff (λ x. x ≡ (pos 1 *ℤ x) +ℤ pos 0) (λ a b. simp (pos_diff, diff_add, diff_mul) (diff_same _ _ _ _ (omega arith))) x

-- what was there moves up by the length
pub run-shift : (r : ℕ) (x : ℤ) (ds : List ℤ) → run r x ds ≡ (pos (r ^ length ds) *ℤ x) +ℤ run r (pos 0) ds
unfolding run
run-shift r x [] = one_times x ∙ ap (λ k. (pos k *ℤ x) +ℤ pos 0) (sym (pow-zero r))
run-shift r x (d ∷ ds) = run-shift r ((pos r *ℤ x) +ℤ d) ds ∙ ring_shift (r ^ length ds) r x d (run r ((pos r *ℤ pos 0) +ℤ d) ds) (run r (pos 0) ds) (ap (λ y. run r y ds) (from_zero r d) ∙ run-shift r d ds) ∙ ap (λ k. (pos k *ℤ x) +ℤ run r ((pos r *ℤ pos 0) +ℤ d) ds) (next_power r (length ds))
  where
    next_power : (r n : ℕ) → r * r ^ n ≡ r ^ (suc n)
    next_power r n = omega (arith, pow-suc r n)

ring_gain : (k : ℕ) (a c x y : ℤ) → x ≡ (pos k *ℤ a) +ℤ c → y ≡ (pos k *ℤ x) +ℤ c → y -ℤ x ≡ pos k *ℤ (x -ℤ a)
ring_gain k a c x y e f = subst (λ y. y -ℤ x ≡ pos k *ℤ (x -ℤ a)) (sym f) (subst (λ x. ((pos k *ℤ x) +ℤ c) -ℤ x ≡ pos k *ℤ (x -ℤ a)) (sym e) (by_diff (λ a. ((pos k *ℤ ((pos k *ℤ a) +ℤ c)) +ℤ c) -ℤ ((pos k *ℤ a) +ℤ c) ≡ pos k *ℤ (((pos k *ℤ a) +ℤ c) -ℤ a)) (λ p q.
    by_diff (λ c. ((pos k *ℤ ((pos k *ℤ diff p q) +ℤ c)) +ℤ c) -ℤ ((pos k *ℤ diff p q) +ℤ c) ≡ pos k *ℤ (((pos k *ℤ diff p q) +ℤ c) -ℤ diff p q)) (λ u v. simp (pos_diff, diff_add, diff_sub, diff_mul) (diff_same _ _ _ _ (omega arith))) c) a))

-- one cycle more in the stem multiplies the gain by r to the length of the cycle
pub gain-unroll : (r : ℕ) (x : ℤ) (u v : List ℤ) → gain r x (u ++ v) v ≡ pos (r ^ length v) *ℤ gain r x u v
unfolding gain
gain-unroll r x u v = ring_gain (r ^ length v) (run r x u) (run r (pos 0) v) (run r x (u ++ v)) (run r x ((u ++ v) ++ v)) (run-append r x u v ∙ run-shift r (run r x u) v) (run-append r x (u ++ v) v ∙ run-shift r (run r x (u ++ v)) v)

ring_form : (k : ℕ) (a c x : ℤ) → x ≡ (pos (suc k) *ℤ a) +ℤ c → x -ℤ a ≡ (pos k *ℤ a) +ℤ c
ring_form k a c x e = subst (λ x. x -ℤ a ≡ (pos k *ℤ a) +ℤ c) (sym e) (by_diff (λ a. ((pos (suc k) *ℤ a) +ℤ c) -ℤ a ≡ (pos k *ℤ a) +ℤ c) (λ p q. by_diff (λ c. ((pos (suc k) *ℤ diff p q) +ℤ c) -ℤ diff p q ≡ (pos k *ℤ diff p q) +ℤ c) (λ u v. simp (pos_diff, diff_add, diff_sub, diff_mul) (diff_same _ _ _ _ (omega arith))) c) a)

-- the gain by the cycle's own value, with r to the length of the cycle as suc k
pub gain-form : (r k : ℕ) (x : ℤ) (u v : List ℤ) → r ^ length v ≡ suc k → gain r x u v ≡ (pos k *ℤ run r x u) +ℤ run r (pos 0) v
unfolding gain
gain-form r k x u v h = ring_form k (run r x u) (run r (pos 0) v) (run r x (u ++ v)) (run-append r x u v ∙ run-shift r (run r x u) v ∙ ap (λ n. (pos n *ℤ run r x u) +ℤ run r (pos 0) v) h)

ring_turn : (r : ℕ) (a b d : ℤ) → ((pos r *ℤ b) +ℤ d) -ℤ ((pos r *ℤ a) +ℤ d) ≡ pos r *ℤ (b -ℤ a)
ring_turn r a b d = by_diff (λ a. ((pos r *ℤ b) +ℤ d) -ℤ ((pos r *ℤ a) +ℤ d) ≡ pos r *ℤ (b -ℤ a)) (λ p q. by_diff (λ b. ((pos r *ℤ b) +ℤ d) -ℤ ((pos r *ℤ diff p q) +ℤ d) ≡ pos r *ℤ (b -ℤ diff p q)) (λ s t. by_diff (λ d. ((pos r *ℤ diff s t) +ℤ d) -ℤ ((pos r *ℤ diff p q) +ℤ d) ≡ pos r *ℤ (diff s t -ℤ diff p q)) (λ u v. simp (pos_diff, diff_add, diff_sub, diff_mul) (diff_same _ _ _ _ (omega arith))) d) b) a

regroup : (u v : List ℤ) (d : ℤ) → (u ++ d ∷ []) ++ (v ++ d ∷ []) ≡ (u ++ (d ∷ v)) ++ d ∷ []
regroup u v d = append_assoc u (d ∷ []) (v ++ d ∷ []) ∙ sym (append_assoc u (d ∷ v) (d ∷ []))

-- the first digit of the cycle may go to the stem's end and to the cycle's
pub gain-rotate : (r : ℕ) (x : ℤ) (u v : List ℤ) (d : ℤ) → gain r x (u ++ d ∷ []) (v ++ d ∷ []) ≡ pos r *ℤ gain r x u (d ∷ v)
unfolding gain
gain-rotate r x u v d = ap (λ w. run r x w -ℤ run r x (u ++ d ∷ [])) (regroup u v d) ∙ ap (λ y. y -ℤ run r x (u ++ d ∷ [])) (run-push r x (u ++ (d ∷ v)) d) ∙ ap (λ y. ((pos r *ℤ run r x (u ++ (d ∷ v))) +ℤ d) -ℤ y) (run-push r x u d) ∙ ring_turn r (run r x u) (run r x (u ++ (d ∷ v))) d

-- a sign digit in front is idle: from minus the sign bit, the digit (r - 1) * bit leads back
pub idle_sign : (r s : ℕ) → (pos (suc r) *ℤ diff 0 s) +ℤ pos (r * s) ≡ diff 0 s
idle_sign r s = simp (pos_diff, diff_add, diff_mul) (diff_same _ _ _ _ (omega arith))
