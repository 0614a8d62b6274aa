-- Laws of vectors: scaling, and vectors made by place.
use Rattle.std.proofs.Common.{◌≡◌, ℕ, zero, suc, ◌+◌, ◌*◌, ◌≤◌, ◌<◌, List, [], ◌∷◌, ◌++◌, length, arith, refl, ◌∙◌, ap}
use Rattle.std.proofs.Math.IntN.{ℤ, pos, ◌*ℤ◌}
use Rattle.std.specs.List.{slice_index_or}
use Rattle.integer_laws.specs.Vectors.{scale, vector_from, vector}
use Rattle.integer_laws.proofs.Ring.{diff_same, diff_mul, by_diff, pos_diff}

pub scale-append : (c : ℕ) (xs : List ℤ) (x : ℤ) → scale c (xs ++ x ∷ []) ≡ scale c xs ++ (pos c *ℤ x) ∷ []
unfolding scale
scale-append c [] x = refl
scale-append c (y ∷ xs) x = ap (λ t. (pos c *ℤ y) ∷ t) (scale-append c xs x)

times_times : (c e : ℕ) (x : ℤ) → pos c *ℤ (pos e *ℤ x) ≡ pos e *ℤ (pos c *ℤ x)
times_times c e x = by_diff (λ x. pos c *ℤ (pos e *ℤ x) ≡ pos e *ℤ (pos c *ℤ x)) (λ p q. simp (pos_diff, diff_mul) (diff_same _ _ _ _ (omega arith))) x

pub scale-scale : (c e : ℕ) (xs : List ℤ) → scale c (scale e xs) ≡ scale e (scale c xs)
unfolding scale
scale-scale c e [] = refl
scale-scale c e (x ∷ xs) = ap (λ t. t ∷ scale c (scale e xs)) (times_times c e x) ∙ ap (λ t. (pos e *ℤ (pos c *ℤ x)) ∷ t) (scale-scale c e xs)

times_product : (e c : ℕ) (x : ℤ) → pos e *ℤ (pos c *ℤ x) ≡ pos (e * c) *ℤ x
times_product e c x = by_diff (λ x. pos e *ℤ (pos c *ℤ x) ≡ pos (e * c) *ℤ x) (λ p q. simp (pos_diff, diff_mul) (diff_same _ _ _ _ (omega arith))) x

pub scale-product : (e c : ℕ) (xs : List ℤ) → scale e (scale c xs) ≡ scale (e * c) xs
unfolding scale
scale-product e c [] = refl
scale-product e c (x ∷ xs) = ap (λ t. t ∷ scale e (scale c xs)) (times_product e c x) ∙ ap (λ t. (pos (e * c) *ℤ x) ∷ t) (scale-product e c xs)

pub length-vector_from : (f : ℕ → ℤ) (i n : ℕ) → length (vector_from f i n) ≡ n
unfolding vector_from
length-vector_from f i zero = refl
length-vector_from f i (suc n) = ap suc (length-vector_from f (suc i) n)

-- the entry at a place
pub entry-vector_from : (f : ℕ → ℤ) (i n p : ℕ) → p < n → slice_index_or (vector_from f i n) p (pos 0) ≡ f (i + p)
unfolding vector_from
entry-vector_from f i zero p h = absurd (omega arith)
entry-vector_from f i (suc n) zero h = ap f (more_zero i)
  where
    more_zero : (i : ℕ) → i ≡ i + zero
    more_zero i = omega arith
entry-vector_from f i (suc n) (suc p) h = entry-vector_from f (suc i) n p (omega arith) ∙ ap f (moved i p)
  where
    moved : (i p : ℕ) → suc i + p ≡ i + suc p
    moved i p = omega arith

pub entry-vector : (f : ℕ → ℤ) (n p : ℕ) → p < n → slice_index_or (vector f n) p (pos 0) ≡ f p
entry-vector f n p h = entry-vector_from f 0 n p h ∙ ap f (omega arith)

-- vectors with equal entries are equal
pub vector_from_same : (f g : ℕ → ℤ) (i n : ℕ) → ((j : ℕ) → i ≤ j → j < i + n → f j ≡ g j) → vector_from f i n ≡ vector_from g i n
unfolding vector_from
vector_from_same f g i zero h = refl
vector_from_same f g i (suc n) h = ap (λ y. y ∷ vector_from f (suc i) n) (h i (omega arith) (omega arith)) ∙ ap (λ ys. g i ∷ ys) (vector_from_same f g (suc i) n (λ j a b. h j (omega (arith, a)) (omega (arith, b))))

pub scale-vector_from : (c : ℕ) (f : ℕ → ℤ) (i n : ℕ) → scale c (vector_from f i n) ≡ vector_from (λ j. pos c *ℤ f j) i n
unfolding scale vector_from
scale-vector_from c f i zero = refl
scale-vector_from c f i (suc n) = ap (λ ys. (pos c *ℤ f i) ∷ ys) (scale-vector_from c f (suc i) n)

-- the entry of a scaled vector; past the end both are 0
pub entry-scale : (c : ℕ) (xs : List ℤ) (p : ℕ) → slice_index_or (scale c xs) p (pos 0) ≡ pos c *ℤ slice_index_or xs p (pos 0)
unfolding scale
entry-scale c [] p = zero_scaled c
  where
    zero_scaled : (c : ℕ) → pos 0 ≡ pos c *ℤ pos 0
    zero_scaled c = simp (pos_diff, diff_mul) (diff_same _ _ _ _ (omega arith))
entry-scale c (x ∷ xs) zero = refl
entry-scale c (x ∷ xs) (suc p) = entry-scale c xs p
