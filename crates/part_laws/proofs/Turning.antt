-- Iterations of a map on the numbers below a bound: after as many iterations as there are numbers, a number comes back (pigeonhole), and in a weak
-- graph the colour there is that of every loop on the way.
use Rattle.std.proofs.Common.{◌≡◌, ℕ, zero, suc, ◌+◌, ◌*◌, ◌-◌, ◌≤◌, ◌<◌, arith, refl, ◌∙◌, sym, ap, subst}
use mathlib.Core.Logic.{inl, inr}
use Prim.Native.Nat.{min}
use Rattle.std.proofs.lemmas.Bool.{cases_eq}

-- ---- two places of a bounded list of numbers are equal
squeeze : ℕ → ℕ → ℕ
squeeze a x = x - min 1 (x - a)

data Found (n : ℕ) (f : ℕ → ℕ) (x : ℕ) : Type 0 where
  at : (i : ℕ) → i < n → f i ≡ x → Found n f x
  nowhere : ((i : ℕ) → i < n → ¬ (f i ≡ x)) → Found n f x

extend : (n : ℕ) (f : ℕ → ℕ) (x : ℕ) → ((i : ℕ) → i < n → ¬ (f i ≡ x)) → ¬ (f n ≡ x) → (i : ℕ) → i < suc n → ¬ (f i ≡ x)
extend n f x none last i h e = elim (cases_eq i n) [ inl s ↦ last (sym (ap f s) ∙ e) | inr d ↦ none i (omega (arith, h, d)) e ]

find : (n : ℕ) (f : ℕ → ℕ) (x : ℕ) → Found n f x
find zero f x = nowhere (λ i h e. omega arith)
find (suc n) f x = elim (find n f x) [
  | at i h e ↦ at i (omega (arith, h)) e
  | nowhere none ↦ elim (cases_eq (f n) x)
      [ inl e ↦ at n (omega arith) e | inr d ↦ nowhere (extend n f x none d) ]
]

squeeze_below : (m a x : ℕ) → a ≤ m → x < suc m → ¬ (x ≡ a) → squeeze a x < m
unfolding squeeze
squeeze_below m a x h k d = omega arith

squeeze_same : (a x y : ℕ) → ¬ (x ≡ a) → ¬ (y ≡ a) → squeeze a x ≡ squeeze a y → x ≡ y
unfolding squeeze
squeeze_same a x y d e s = omega arith

pub record Twice (m : ℕ) (f : ℕ → ℕ) : Type 0 where
  pub first : ℕ
  pub second : ℕ
  pub before : first < second
  pub bounded : second ≤ m
  pub equal : f first ≡ f second

pub pigeonhole : (m : ℕ) (f : ℕ → ℕ) → ((i : ℕ) → i ≤ m → f i < m) → Twice m f
pigeonhole zero f h = absurd (omega (arith, h 0 (omega arith)))
pigeonhole (suc m) f h = elim (find (suc m) f (f (suc m))) [
  | at i k e ↦ record { first = i; second = suc m; before = k; bounded = omega arith; equal = e }
  | nowhere none ↦ lift none
      (pigeonhole m (λ i. squeeze (f (suc m)) (f i))
      (λ i k. squeeze_below m (f (suc m)) (f i) (omega (arith, h (suc m) (omega arith))) (h i (omega (arith, k))) (none i (omega (arith, k)))))
]
  where
    lift : ((i : ℕ) → i < suc m → ¬ (f i ≡ f (suc m))) → Twice m (λ i. squeeze (f (suc m)) (f i)) → Twice (suc m) f
    lift none t = record {
      first = t.first;
      second = t.second;
      before = t.before;
      bounded = omega (arith, t.bounded);
      equal = squeeze_same (f (suc m)) (f t.first) (f t.second) (none t.first (omega (arith, t.before, t.bounded)))
          (none t.second (omega (arith, t.bounded))) t.equal;
    }

-- ---- iterations of one map (the map q ↦ the state after the cycle word from q)
unfoldable pub turns : (ℕ → ℕ) → ℕ → ℕ → ℕ
turns f zero q = q
turns f (suc i) q = turns f i (f q)

same_count : (f : ℕ → ℕ) (i j q : ℕ) → i ≡ j → turns f i q ≡ turns f j q
same_count f i j q e = ap (λ k. turns f k q) e

pub turns-add : (f : ℕ → ℕ) (i j q : ℕ) → turns f (i + j) q ≡ turns f j (turns f i q)
unfolding turns
turns-add f zero j q = same_count f (zero + j) j q (omega arith)
turns-add f (suc i) j q = same_count f (suc i + j) (suc (i + j)) q (omega arith) ∙ turns-add f i j (f q)

pub turns_swap : (f : ℕ → ℕ) (i j q : ℕ) → turns f i (turns f j q) ≡ turns f j (turns f i q)
turns_swap f i j q = sym (turns-add f j i q) ∙ same_count f (j + i) (i + j) q (omega arith) ∙ turns-add f i j q

pub turns-zero : (f : ℕ → ℕ) (q : ℕ) → turns f 0 q ≡ q
unfolding turns
turns-zero f q = refl

pub turns_below : (f : ℕ → ℕ) (m : ℕ) → ((q : ℕ) → q < m → f q < m) → (i q : ℕ) → q < m → turns f i q < m
unfolding turns
turns_below f m closed zero q h = h
turns_below f m closed (suc i) q h = turns_below f m closed i (f q) (closed q h)

-- a state that comes back after some iterations
pub record Back (f : ℕ → ℕ) (q : ℕ) : Type 0 where
  pub less : ℕ
  pub back : turns f (suc less) q ≡ q

-- a state that comes back after some iterations, at most as many as there are states
pub record BackSoon (f : ℕ → ℕ) (m q : ℕ) : Type 0 where
  pub less : ℕ
  pub bounded : suc less ≤ m
  pub back : turns f (suc less) q ≡ q

-- after as many iterations as there are states, the state comes back
pub back_soon : (f : ℕ → ℕ) (m : ℕ) → ((q : ℕ) → q < m → f q < m) → (q : ℕ) → q < m → BackSoon f m (turns f m q)
back_soon f m closed q h = from (pigeonhole m (λ i. turns f i q) (λ i k. turns_below f m closed i q h))
  where
    from : Twice m (λ i. turns f i q) → BackSoon f m (turns f m q)
    from t = record {
      less = t.second - suc t.first;
      bounded = small t.before t.bounded;
      back = sym (turns-add f m (suc (t.second - suc t.first)) q)
          ∙ same_count f _ _ q (sum1 t.before t.bounded) ∙ turns-add f t.second (m - t.first) q ∙ ap (λ x. turns f (m - t.first) x) (sym t.equal)
          ∙ sym (turns-add f t.first (m - t.first) q) ∙ same_count f _ _ q (sum2 t.before t.bounded);
    }
      where
        small : t.first < t.second → t.second ≤ m → suc (t.second - suc t.first) ≤ m
        small a b = omega arith

        sum1 : t.first < t.second → t.second ≤ m → m + suc (t.second - suc t.first) ≡ t.second + (m - t.first)
        sum1 a b = omega arith

        sum2 : t.first < t.second → t.second ≤ m → t.first + (m - t.first) ≡ m
        sum2 a b = omega arith

pub on_its_loop : (f : ℕ → ℕ) (m : ℕ) → ((q : ℕ) → q < m → f q < m) → (q : ℕ) → q < m → Back f (turns f m q)
on_its_loop f m closed q h = let b = back_soon f m closed q h in record { less = b.less; back = b.back }

-- any number of rounds leads back
pub rounds : (f : ℕ → ℕ) (q : ℕ) (b : Back f q) (k : ℕ) → turns f (k * suc b.less) q ≡ q
rounds f q b zero = same_count f (0 * suc b.less) 0 q (omega arith) ∙ turns-zero f q
rounds f q b (suc k) = same_count f (suc k * suc b.less) (suc b.less + k * suc b.less) q (omega arith) ∙ turns-add f (suc b.less) (k * suc b.less) q
    ∙ ap (λ x. turns f (k * suc b.less) x) b.back ∙ rounds f q b k

-- what is asked of a weak graph, for one map
pub record Weak (f : ℕ → ℕ) (colour : ℕ → ℕ) (states : ℕ) : Type 1 where
  pub reaches : ℕ → ℕ → Type 0
  pub by_turns : (i q : ℕ) → reaches q (turns f i q)
  pub joined : (p q r : ℕ) → reaches p q → reaches q r → reaches p r
  pub one_colour : (p q : ℕ) → p < states → q < states → Back f p → Back f q → reaches p q → reaches q p → colour p ≡ colour q

home : (f : ℕ → ℕ) (colour : ℕ → ℕ) (m : ℕ) (w : Weak f colour m) (q i : ℕ) → Back f q → w.reaches (turns f i q) q
home f colour m w q i b = subst (λ x. w.reaches (turns f i q) x)
    (sym (turns-add f i (i * suc b.less - i) q) ∙ same_count f _ _ q (count i b.less) ∙ rounds f q b i) (w.by_turns (i * suc b.less - i) (turns f i q))
  where
    count : (i p : ℕ) → i + (i * suc p - i) ≡ i * suc p
    count i p = omega arith

pub endings_meet : (f : ℕ → ℕ) (colour : ℕ → ℕ) (m : ℕ) (w : Weak f colour m) (x y i j : ℕ) → x < m → y < m → Back f x → Back f y
    → turns f i x ≡ turns f j y → colour x ≡ colour y
endings_meet f colour m w x y i j hx hy a b e =
    w.one_colour x y hx hy a b (w.joined x (turns f j y) y (subst (λ z. w.reaches x z) e (w.by_turns i x)) (home f colour m w y j b))
    (w.joined y (turns f i x) x (subst (λ z. w.reaches y z) (sym e) (w.by_turns j y)) (home f colour m w x i a))

-- the colour on the loop is the colour after as many iterations as there are states
pub settles : (f : ℕ → ℕ) (colour : ℕ → ℕ) (m : ℕ) (w : Weak f colour m) → ((q : ℕ) → q < m → f q < m) → (q : ℕ) → q < m → (i : ℕ) → Back f (turns f i q)
    → colour (turns f i q) ≡ colour (turns f m q)
settles f colour m w closed q h i b = endings_meet f colour m w (turns f i q) (turns f m q) m i (turns_below f m closed i q h)
    (turns_below f m closed m q h) b (on_its_loop f m closed q h) (turns_swap f m i q)

-- a loop stays a loop
pub back_later : (f : ℕ → ℕ) (k q : ℕ) → Back f q → Back f (turns f k q)
back_later f k q b = record { less = b.less; back = turns_swap f (suc b.less) k q ∙ ap (turns f k) b.back }
