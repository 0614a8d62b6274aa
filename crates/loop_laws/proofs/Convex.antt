-- A guard that holds at two points of a line holds at each point between them.
use Rattle.std.proofs.Common.{◌≡◌, ℕ, suc, ◌≤◌, List, [], ◌∷◌, arith, refl, sym, ap, ◌∙◌, get_or}
use mathlib.Core.Logic.{◌⊎◌, inl, inr}
use Rattle.std.proofs.Math.IntN.{ℤ, pos, negsuc, ◌+ℤ◌, ◌*ℤ◌, pos-*ℤ-pos, pos-*ℤ-negsuc}
use Rattle.std.specs.Prelude.{◌≤ℤ◌}
use Rattle.std.proofs.lemmas.Int.{ints}
use Rattle.std.proofs.lemmas.Nat.{mul-le}
use Rattle.integer_laws.proofs.Ring.{times_comm, times_assoc, times_sum, times_zero}
use Rattle.lash_model.specs.Formulas.{Formula, Comparison, AtMost, Equal, Atom, Not, And, Or, Exists}
use Rattle.lash_model.specs.Meaning.{total, compares, holds}
use Rattle.loop_laws.specs.Turns.{IsMember, IsGuard}

-- a number that moves on by the same from step to step
pub record IsEven (f : ℕ → ℤ) : Type 0 where
  pub start : ℤ
  pub step : ℤ
  pub each : (m : ℕ) → f m ≡ start +ℤ (pos m *ℤ step)

-- b lies between a and c
abbrev pub IsBetween : ℤ → ℤ → ℤ → Type 0
IsBetween a b c = ((a ≤ℤ b) × (b ≤ℤ c)) ⊎ ((c ≤ℤ b) × (b ≤ℤ a))

rising : (m n k : ℕ) → m ≤ n → (pos m *ℤ pos k) ≤ℤ (pos n *ℤ pos k)
rising m n k le = omega (arith, ints, pos-*ℤ-pos m k, pos-*ℤ-pos n k, mul-le m k n k le (omega arith))

falling : (m n k : ℕ) → m ≤ n → (pos n *ℤ negsuc k) ≤ℤ (pos m *ℤ negsuc k)
falling m n k le = omega (arith, ints, pos-*ℤ-negsuc m k, pos-*ℤ-negsuc n k, mul-le m (suc k) n (suc k) le (omega arith))

even_between : (f : ℕ → ℤ) → IsEven f → (q m : ℕ) → q ≤ m → IsBetween (f 0) (f q) (f m)
even_between f h q m le = by h.step refl
  where
    by : (w : ℤ) → w ≡ h.step → IsBetween (f 0) (f q) (f m)
    by (pos k) e = inl (omega (arith, ints, h.each 0, h.each q, ap (λ y. pos 0 *ℤ y) e, ap (λ y. pos q *ℤ y) e, rising 0 q k (omega arith)), omega (arith, ints, h.each q, h.each m, ap (λ y. pos q *ℤ y) e, ap (λ y. pos m *ℤ y) e, rising q m k le))
    by (negsuc k) e = inr (omega (arith, ints, h.each q, h.each m, ap (λ y. pos q *ℤ y) e, ap (λ y. pos m *ℤ y) e, falling q m k le), omega (arith, ints, h.each 0, h.each q, ap (λ y. pos 0 *ℤ y) e, ap (λ y. pos q *ℤ y) e, falling 0 q k (omega arith)))

regroup : (c s m w s' w' : ℤ) → (c *ℤ (s +ℤ (m *ℤ w))) +ℤ (s' +ℤ (m *ℤ w')) ≡ ((c *ℤ s) +ℤ s') +ℤ (m *ℤ ((c *ℤ w) +ℤ w'))
regroup c s m w s' w' = omega (arith, ints, times_sum c s (m *ℤ w), times_sum m (c *ℤ w) w', turned)
  where
    turned : c *ℤ (m *ℤ w) ≡ m *ℤ (c *ℤ w)
    turned = sym (times_assoc c m w) ∙ ap (λ y. y *ℤ w) (times_comm c m) ∙ times_assoc m c w

-- vectors each of whose entries moves on so
abbrev pub IsLine : (ℕ → List ℤ) → Type 0
IsLine z = (place : ℕ) → IsEven (λ m. get_or (z m) place (pos 0))

even_total : (z : ℕ → List ℤ) (ts : List (ℕ × ℤ)) → IsLine z → IsEven (λ m. total ts (z m))
unfolding total
even_total z [] h = record { start = pos 0; step = pos 0; each = λ m. omega (arith, ints, times_zero (pos m)) }
even_total z (t ∷ ts) h =
    let one = h t.0 in
    let rest = even_total z ts h in
    record { start = (t.1 *ℤ one.start) +ℤ rest.start; step = (t.1 *ℤ one.step) +ℤ rest.step; each = λ m. ap (λ y. (t.1 *ℤ y) +ℤ total ts (z m)) (one.each m) ∙ ap (λ y. (t.1 *ℤ (one.start +ℤ (pos m *ℤ one.step))) +ℤ y) (rest.each m) ∙ regroup t.1 one.start (pos m) one.step rest.start rest.step }

-- each total at b lies between those at a and c
abbrev AreBetween : List ℤ → List ℤ → List ℤ → Type 0
AreBetween a b c = (ts : List (ℕ × ℤ)) → IsBetween (total ts a) (total ts b) (total ts c)

compares_between : (kind : Comparison) (a b c k : ℤ) → IsBetween a b c → compares kind a k → compares kind c k → compares kind b k
compares_between AtMost a b c k (inl h) f g = omega (arith, ints, h.1, g)
compares_between AtMost a b c k (inr h) f g = omega (arith, ints, h.1, f)
compares_between Equal a b c k (inl h) f g = omega (arith, ints, h.0, h.1, f, g)
compares_between Equal a b c k (inr h) f g = omega (arith, ints, h.0, h.1, f, g)

above_between : (a b c k : ℤ) → IsBetween a b c → (a ≤ℤ k → ⊥) → (c ≤ℤ k → ⊥) → b ≤ℤ k → ⊥
above_between a b c k (inl h) f g le = f (omega (arith, ints, h.0, le))
above_between a b c k (inr h) f g le = g (omega (arith, ints, h.0, le))

member_between : (f : Formula) (a b c : List ℤ) (d : ℕ) → IsMember f → AreBetween a b c → holds f a d → holds f c d → holds f b d
unfolding holds
member_between (Atom kind t) a b c d m h x y = compares_between kind _ _ _ _ (h t.terms) x y
member_between (Not (Atom AtMost t)) a b c d m h x y = above_between _ _ _ _ (h t.terms) x y
member_between (Not (Atom Equal t)) a b c d m h x y = absurd m
member_between (Not (Not f)) a b c d m h x y = absurd m
member_between (Not (And f g)) a b c d m h x y = absurd m
member_between (Not (Or f g)) a b c d m h x y = absurd m
member_between (Not (Exists s f)) a b c d m h x y = absurd m
member_between (And f g) a b c d m h x y = absurd m
member_between (Or f g) a b c d m h x y = absurd m
member_between (Exists s f) a b c d m h x y = absurd m

guard_between : (f : Formula) (a b c : List ℤ) (d : ℕ) → IsGuard f → AreBetween a b c → holds f a d → holds f c d → holds f b d
unfolding holds
guard_between (Atom kind t) a b c d m h x y = compares_between kind _ _ _ _ (h t.terms) x y
guard_between (Not f) a b c d m h x y = member_between (Not f) a b c d m h x y
guard_between (And f g) a b c d m h x y = (guard_between f a b c d m.0 h x.0 y.0, member_between g a b c d m.1 h x.1 y.1)
guard_between (Or f g) a b c d m h x y = absurd m
guard_between (Exists s f) a b c d m h x y = absurd m

-- on a line, from its first point on
pub guard_on_line : (f : Formula) (z : ℕ → List ℤ) (d q m : ℕ) → IsGuard f → IsLine z → q ≤ m → holds f (z 0) d → holds f (z m) d → holds f (z q) d
guard_on_line f z d q m g h le = guard_between f (z 0) (z q) (z m) d g (λ ts. even_between (λ k. total ts (z k)) (even_total z ts h) q m le)
