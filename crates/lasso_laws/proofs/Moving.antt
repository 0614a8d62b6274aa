-- What iterations of a cycle do to the numerator of digits read from a start, and to the denominator: unrolling, repeating and rotating are
-- factors of the lengths alone, and so a lasso of one track is brought to the lengths of another.
use Rattle.std.proofs.Common.{◌≡◌, ℕ, zero, suc, ◌+◌, ◌*◌, ◌-◌, ◌^◌, ◌≤◌, List, [], ◌∷◌, ◌++◌, length, arith, refl, ◌∙◌, sym, ap, append_assoc, length-append}
use Rattle.std.proofs.Math.IntN.{ℤ, pos, ◌+ℤ◌, ◌-ℤ◌, ◌*ℤ◌}
use Rattle.std.proofs.Math.Nat.{pow-suc, pow-zero}
use Rattle.std.proofs.lemmas.Int.{ints}
use Rattle.std.proofs.lemmas.Nat.{pow-add}
use Rattle.integer_laws.specs.Differences.{diff}
use Rattle.integer_laws.specs.Runs.{run, gain}
use Rattle.integer_laws.proofs.Ring.{diff_same, diff_add, diff_sub, diff_mul, by_diff, pos_diff}
use Rattle.integer_laws.proofs.Reading.{gain-unroll, gain-rotate}

-- digits, so many times
unfoldable pub tours : ℕ → List ℤ → List ℤ
tours zero v = []
tours (suc n) v = v ++ tours n v

append_none : (u : List ℤ) → u ++ [] ≡ u
append_none [] = refl
append_none (d ∷ u) = ap (λ w. d ∷ w) (append_none u)

no_tours : (s c : List ℤ) → s ++ tours 0 c ≡ s
unfolding tours
no_tours s c = append_none s

pub length-tours : (n : ℕ) (v : List ℤ) → length (tours n v) ≡ n * length v
unfolding tours
length-tours zero v = omega arith
length-tours (suc n) v = omega (arith, length-append v (tours n v), length-tours n v)

-- 1 + R + R R + .., with n parts
unfoldable pub parts : ℕ → ℕ → ℕ
parts big zero = 0
parts big (suc n) = parts big n * big + 1

pub times_times : (a b : ℕ) (x : ℤ) → pos a *ℤ (pos b *ℤ x) ≡ pos (a * b) *ℤ x
times_times a b x = by_diff (λ x. pos a *ℤ (pos b *ℤ x) ≡ pos (a * b) *ℤ x) (λ p q. simp (pos_diff, diff_mul) (diff_same _ _ _ _ (omega arith))) x

pub one_time : (x : ℤ) → x ≡ pos 1 *ℤ x
one_time x = by_diff (λ x. x ≡ pos 1 *ℤ x) (λ p q. simp (pos_diff, diff_mul) (diff_same _ _ _ _ (omega arith))) x

no_time : (x y : ℤ) → x -ℤ x ≡ pos 0 *ℤ y
no_time x y = by_diff (λ y. x -ℤ x ≡ pos 0 *ℤ y)
    (λ p q. by_diff (λ x. x -ℤ x ≡ pos 0 *ℤ diff p q) (λ s t. simp (pos_diff, diff_sub, diff_mul) (diff_same _ _ _ _ (omega arith))) x) y

one_more : (a b : ℕ) (x : ℤ) → (pos a *ℤ (pos b *ℤ x)) +ℤ x ≡ pos (a * b + 1) *ℤ x
one_more a b x = by_diff (λ x. (pos a *ℤ (pos b *ℤ x)) +ℤ x ≡ pos (a * b + 1) *ℤ x)
    (λ p q. simp (pos_diff, diff_add, diff_mul) (diff_same _ _ _ _ (omega arith))) x

telescoped : (a b c : ℤ) → c -ℤ a ≡ (c -ℤ b) +ℤ (b -ℤ a)
telescoped a b c = omega (arith, ints)

-- the cycle gain_unrolled into the stem, j times
pub gain_unrolled : (r : ℕ) (x : ℤ) (u v : List ℤ) (j : ℕ) → gain r x (u ++ tours j v) v ≡ pos ((r ^ length v) ^ j) *ℤ gain r x u v
unfolding tours
gain_unrolled r x u v zero = ap (λ w. gain r x w v) (append_none u) ∙ one_time (gain r x u v) ∙ ap (λ k. pos k *ℤ gain r x u v) (sym (pow-zero (r ^ length v)))
gain_unrolled r x u v (suc j) = ap (λ w. gain r x w v) (sym (append_assoc u v (tours j v))) ∙ gain_unrolled r x (u ++ v) v j
    ∙ ap (λ y. pos ((r ^ length v) ^ j) *ℤ y) (gain-unroll r x u v) ∙ times_times ((r ^ length v) ^ j) (r ^ length v) (gain r x u v)
    ∙ ap (λ k. pos k *ℤ gain r x u v) (sym (pow-suc (r ^ length v) j))

-- the cycle gain_repeated, q times
pub gain_repeated : (r : ℕ) (x : ℤ) (u v : List ℤ) (q : ℕ) → gain r x u (tours q v) ≡ pos (parts (r ^ length v) q) *ℤ gain r x u v
unfolding tours parts gain
gain_repeated r x u v zero = ap (λ w. run r x w -ℤ run r x u) (append_none u) ∙ no_time (run r x u) (gain r x u v)
gain_repeated r x u v (suc q) = telescoped (run r x u) (run r x (u ++ v)) (run r x (u ++ (v ++ tours q v)))
    ∙ ap (λ w. (run r x w -ℤ run r x (u ++ v)) +ℤ (run r x (u ++ v) -ℤ run r x u)) (sym (append_assoc u v (tours q v)))
    ∙ ap (λ y. y +ℤ (run r x (u ++ v) -ℤ run r x u)) (gain_repeated r x (u ++ v) v q ∙ ap (λ y. pos (parts (r ^ length v) q) *ℤ y) (gain-unroll r x u v))
    ∙ one_more (parts (r ^ length v) q) (r ^ length v) (run r x (u ++ v) -ℤ run r x u)

-- what unrolling and repeating do: a factor of the lengths alone
abbrev pub factor : ℕ → ℕ → ℕ → ℕ → ℕ
factor r n j q = parts (r ^ n) q * (r ^ n) ^ j

pub moves : (r : ℕ) (x : ℤ) (u v : List ℤ) (j q : ℕ) → gain r x (u ++ tours j v) (tours q v) ≡ pos (factor r (length v) j q) *ℤ gain r x u v
moves r x u v j q = gain_repeated r x (u ++ tours j v) v q ∙ ap (λ y. pos (parts (r ^ length v) q) *ℤ y) (gain_unrolled r x u v j)
    ∙ times_times (parts (r ^ length v) q) ((r ^ length v) ^ j) (gain r x u v)

-- ---- the denominator: of a stem of m and a cycle of n letters
unfoldable pub den : ℕ → ℕ → ℕ → ℕ
den r m n = r ^ m * (r ^ n - 1)

pub pow_positive : (b n : ℕ) → 1 ≤ b → 1 ≤ b ^ n
pow_positive b zero h = omega (arith, pow-zero b)
pow_positive b (suc n) h = omega (arith, pow-suc b n, times_positive (b ^ n) b (pow_positive b n h) h)
  where
    times_positive : (a b : ℕ) → 1 ≤ a → 1 ≤ b → 1 ≤ a * b
    times_positive a b h k = grind arith

pub pow-mul : (b n q : ℕ) → b ^ (q * n) ≡ (b ^ n) ^ q
pow-mul b n zero = ap (λ k. b ^ k) (zero_times n) ∙ pow-zero b ∙ sym (pow-zero (b ^ n))
  where
    zero_times : (n : ℕ) → zero * n ≡ zero
    zero_times n = omega arith
pow-mul b n (suc q) = ap (λ k. b ^ k) (suc_times n q) ∙ pow-add b (q * n) n ∙ ap (λ k. k * b ^ n) (pow-mul b n q) ∙ sym (pow-suc (b ^ n) q)
  where
    suc_times : (n q : ℕ) → suc q * n ≡ q * n + n
    suc_times n q = omega arith

pub parts_sum : (k q : ℕ) → (suc k) ^ q ≡ parts (suc k) q * k + 1
unfolding parts
parts_sum k zero = pow-zero (suc k) ∙ none k
  where
    none : (k : ℕ) → 1 ≡ 0 * k + 1
    none k = omega arith
parts_sum k (suc q) = pow-suc (suc k) q ∙ ap (λ y. y * suc k) (parts_sum k q) ∙ multiplied (parts (suc k) q) k
  where
    multiplied : (a k : ℕ) → (a * k + 1) * suc k ≡ (a * suc k + 1) * k + 1
    multiplied a k = omega arith

pub den_moves : (r m n j q : ℕ) → 1 ≤ r → den r (m + j * n) (q * n) ≡ factor r n j q * den r m n
unfolding den
den_moves r m n j q h = whole (r ^ n) (pow_positive r n h) refl
  where
    whole : (big : ℕ) → 1 ≤ big → r ^ n ≡ big → r ^ (m + j * n) * (r ^ (q * n) - 1) ≡ (parts (r ^ n) q * (r ^ n) ^ j) * (r ^ m * (r ^ n - 1))
    whole zero k e = absurd (omega arith)
    whole (suc k) p e = ap (λ y. y * (r ^ (q * n) - 1)) (pow-add r m (j * n)) ∙ ap (λ y. (r ^ m * y) * (r ^ (q * n) - 1)) (pow-mul r n j)
        ∙ ap (λ y. (r ^ m * (r ^ n) ^ j) * (y - 1)) (pow-mul r n q ∙ ap (λ y. y ^ q) e ∙ parts_sum k q) ∙ product (r ^ m) ((r ^ n) ^ j) (parts (suc k) q) k
        ∙ ap (λ y. (parts y q * (r ^ n) ^ j) * (r ^ m * (y - 1))) (sym e)
      where
        product : (a b c k : ℕ) → (a * b) * ((c * k + 1) - 1) ≡ (c * b) * (a * (suc k - 1))
        product a b c k = plain a b c k ((c * k + 1) - 1) (suc k - 1) (omega arith) (omega arith)
          where
            plain : (a b c k x y : ℕ) → x ≡ c * k → y ≡ k → (a * b) * x ≡ (c * b) * (a * y)
            plain a b c k x y e f = rw e (rw f (omega arith))

pub factor_positive : (r n j q : ℕ) → 1 ≤ r → 1 ≤ factor r n j (suc q)
unfolding parts
factor_positive r n j q h = positive (parts (r ^ n) q * r ^ n + 1) ((r ^ n) ^ j) (omega arith) (pow_positive (r ^ n) j (pow_positive r n h))
  where
    positive : (a b : ℕ) → 1 ≤ a → 1 ≤ b → 1 ≤ a * b
    positive a b h k = grind arith

-- every entry has the property (that it is a digit)
unfoldable pub Every : (ℤ → Type 0) → List ℤ → Type 0
Every D [] = Unit
Every D (d ∷ ds) = D d × Every D ds

pub every-append : (D : ℤ → Type 0) (u v : List ℤ) → Every D u → Every D v → Every D (u ++ v)
unfolding Every
every-append D [] v h k = k
every-append D (d ∷ u) v h k = (h.0, every-append D u v h.1 k)

pub every-tours : (D : ℤ → Type 0) (n : ℕ) (v : List ℤ) → Every D v → Every D (tours n v)
unfolding Every tours
every-tours D zero v h = tt
every-tours D (suc n) v h = every-append D v (tours n v) h (every-tours D n v h)

every_one : (D : ℤ → Type 0) (d : ℤ) → D d → Every D (d ∷ [])
unfolding Every
every_one D d h = (h, tt)

every_first : (D : ℤ → Type 0) (d : ℤ) (v : List ℤ) → Every D (d ∷ v) → D d
unfolding Every
every_first D d v h = h.0

every_rest : (D : ℤ → Type 0) (d : ℤ) (v : List ℤ) → Every D (d ∷ v) → Every D v
unfolding Every
every_rest D d v h = h.1

-- ---- the cycle rotated by n digits: the stem grows by n, the cycle keeps its length
pub record Rotated (D : ℤ → Type 0) (r : ℕ) (u v : List ℤ) (n : ℕ) : Type 0 where
  pub stem : List ℤ
  pub cycle : List ℤ
  pub stem_length : length stem ≡ length u + n
  pub cycle_length : length cycle ≡ length v
  pub stem_digits : Every D stem
  pub cycle_digits : Every D cycle
  pub each : (x : ℤ) → gain r x stem cycle ≡ pos (r ^ n) *ℤ gain r x u v

after_one : (D : ℤ → Type 0) (r : ℕ) (u : List ℤ) (d : ℤ) (v : List ℤ) (n : ℕ) → Rotated D r (u ++ d ∷ []) (v ++ d ∷ []) n → Rotated D r u (d ∷ v) (suc n)
after_one D r u d v n t = record {
  stem = t.stem;
  cycle = t.cycle;
  stem_length = omega (arith, t.stem_length, length-append u (d ∷ []));
  cycle_length =
      omega (arith, t.cycle_length, length-append v (d ∷ []));
  stem_digits = t.stem_digits;
  cycle_digits = t.cycle_digits;
  each = λ x. t.each x
      ∙ ap (λ y. pos (r ^ n) *ℤ y) (gain-rotate r x u v d) ∙ times_times (r ^ n) r (gain r x u (d ∷ v))
      ∙ ap (λ k. pos k *ℤ gain r x u (d ∷ v)) (sym (pow-suc r n));
}

pub rotated : (D : ℤ → Type 0) (r : ℕ) (u : List ℤ) (d : ℤ) (v : List ℤ) (n : ℕ) → Every D u → Every D (d ∷ v) → Rotated D r u (d ∷ v) n
rotated D r u d v zero hu hv =
    record {
      stem = u;
      cycle = d ∷ v;
      stem_length = omega arith;
      cycle_length = refl;
      stem_digits = hu;
      cycle_digits = hv;
      each =
          λ x. one_time (gain r x u (d ∷ v)) ∙ ap (λ k. pos k *ℤ gain r x u (d ∷ v)) (sym (pow-zero r));
    }
rotated D r u d [] (suc n) hu hv = after_one D r u d [] n (rotated D r (u ++ d ∷ []) d [] n (every-append D u (d ∷ []) hu hv) hv)
rotated D r u d (e ∷ v) (suc n) hu hv =
    after_one D r u d (e ∷ v) n (rotated D r (u ++ d ∷ []) e (v ++ d ∷ []) n (every-append D u (d ∷ []) hu (every_one D d (every_first D d (e ∷ v) hv)))
    (every-append D (e ∷ v) (d ∷ []) (every_rest D d (e ∷ v) hv) (every_one D d (every_first D d (e ∷ v) hv))))

pub den_rotated : (r m n k : ℕ) → den r (m + k) n ≡ r ^ k * den r m n
unfolding den
den_rotated r m n k = ap (λ y. y * (r ^ n - 1)) (pow-add r m k) ∙ product (r ^ m) (r ^ k) (r ^ n - 1)
  where
    product : (a b c : ℕ) → (a * b) * c ≡ b * (a * c)
    product a b c = omega arith

-- ---- one track beside others: a kept lasso (stem of a, cycle of b letters) and a removed one get the same lengths
pub record Aligned (D : ℤ → Type 0) (r a b : ℕ) (u v : List ℤ) : Type 0 where
  -- the kept lasso is gain_unrolled `turn` times and its cycle gain_repeated
  pub turn : ℕ
  pub less : ℕ
  pub stem : List ℤ
  pub cycle : List ℤ
  pub stem_length : length stem ≡ a + turn * b
  pub cycle_length : length cycle ≡ suc less * b
  pub stem_digits : Every D stem
  pub cycle_digits : Every D cycle
  pub times : ℕ
  pub times_positive : 1 ≤ times
  pub each : (x : ℤ) → gain r x stem cycle ≡ pos times *ℤ gain r x u v
  pub dens : den r (a + turn * b) (suc less * b) ≡ times * den r (length u) (length v)

pub aligned : (D : ℤ → Type 0) (r a b : ℕ) (u : List ℤ) (d : ℤ) (v : List ℤ) → 1 ≤ r → Every D u → Every D (d ∷ v) → Aligned D r a (suc b) u (d ∷ v)
aligned D r a b u d v h hu hv = from (rotated D r u d v (away a (length u) b) hu hv) refl
  where
    away : ℕ → ℕ → ℕ → ℕ
    away a c b = a + c * suc b - c

    enough : (a c b : ℕ) → c + (a + c * suc b - c) ≡ a + c * suc b
    enough a c b = plain a c b (a + c * suc b) refl
      where
        plain : (a c b x : ℕ) → x ≡ a + c * suc b → c + (x - c) ≡ x
        plain a c b x e = bounded c x (rw e (omega arith))
          where
            bounded : (c x : ℕ) → c ≤ x → c + (x - c) ≡ x
            bounded c x h = omega arith

    from : (t : Rotated D r u (d ∷ v) (away a (length u) b)) → length (d ∷ v) ≡ suc (length v) → Aligned D r a (suc b) u (d ∷ v)
    from t one = record {
      turn = length u;
      less = length v;
      stem = t.stem;
      cycle = tours (suc b) t.cycle;
      stem_length = t.stem_length
          ∙ enough a (length u) b;
      cycle_length = length-tours (suc b) t.cycle ∙ ap (λ k. suc b * k) t.cycle_length
          ∙ swapped (length v) b;
      stem_digits = t.stem_digits;
      cycle_digits = every-tours D (suc b) t.cycle t.cycle_digits;
      times =
          turns_factor * r ^ n;
      times_positive = positive turns_factor (r ^ n) (factor_positive r (length (d ∷ v)) 0 b h) (pow_positive r n h);
      each =
          λ x. ap (λ s. gain r x s (tours (suc b) t.cycle)) (sym (no_tours t.stem t.cycle)) ∙ moves r x t.stem t.cycle 0 (suc b)
          ∙ ap (λ k. pos (factor r k 0 (suc b)) *ℤ gain r x t.stem t.cycle) t.cycle_length ∙ ap (λ y. pos turns_factor *ℤ y) (t.each x)
          ∙ times_times turns_factor (r ^ n) (gain r x u (d ∷ v));
      dens = ap (λ k. den r (a + length u * suc b) k) (sym (swapped (length v) b))
          ∙ ap (λ k. den r k (suc b * suc (length v))) (sym (enough a (length u) b) ∙ no_more (length u + n) (suc (length v)))
          ∙ den_moves r (length u + n) (suc (length v)) 0 (suc b) h
          ∙ ap (λ y. factor r (suc (length v)) 0 (suc b) * y) (den_rotated r (length u) (suc (length v)) n)
          ∙ assoc turns_factor (r ^ n) (den r (length u) (suc (length v)));
    }
      where
        n : ℕ
        n = away a (length u) b

        turns_factor : ℕ
        turns_factor = factor r (suc (length v)) 0 (suc b)

        swapped : (l b : ℕ) → suc b * suc l ≡ suc l * suc b
        swapped l b = omega arith

        positive : (a b : ℕ) → 1 ≤ a → 1 ≤ b → 1 ≤ a * b
        positive a b h k = grind arith

        no_more : (m l : ℕ) → m ≡ m + 0 * l
        no_more m l = omega arith

        assoc : (a b c : ℕ) → a * (b * c) ≡ (a * b) * c
        assoc a b c = omega arith
