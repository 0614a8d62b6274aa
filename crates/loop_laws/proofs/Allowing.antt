-- Turns lead from one vector to another where the second is the last of the orbit and the guard holds before each turn.
use Rattle.std.proofs.Common.{◌≡◌, ℕ, zero, suc, ◌+◌, ◌*◌, ◌/◌, ◌%◌, ◌<◌, ◌≤◌, List, length, arith, sym, ap, ◌∙◌, subst}
use mathlib.Core.Logic.{inl, inr}
use Rattle.std.proofs.Math.IntN.{ℤ, pos, ◌*ℤ◌}
use Rattle.std.specs.Prelude.{◌↔◌}
use Rattle.std.proofs.lemmas.Bool.{cases_lt, cases_order}
use Rattle.std.proofs.lemmas.Int.{ints}
use Rattle.std.proofs.lemmas.List.{get_or_past}
use Rattle.std.proofs.lemmas.Nat.{div-add-mod', mod_below, mul-le}
use Rattle.integer_laws.proofs.Ring.{times_zero}
use Rattle.lash_model.specs.Meaning.{holds}
use Rattle.matrix_powers.specs.Powers.{IsPower}
use Rattle.matrix_powers.specs.Orbits.{at_row, stride}
use Rattle.loop_laws.specs.Turns.{Body, turned, after, IsGuard}
use Rattle.loop_laws.proofs.Iterating.{iterated, length-iterated}
use Rattle.loop_laws.proofs.Repeating.{on_line}
use Rattle.loop_laws.proofs.Convex.{IsLine, guard_on_line}

-- the guard holds after k turns
abbrev pub Allows : Body → ℕ → List ℤ → ℕ → Type 0
Allows l d x k = holds l.guard (iterated l d k x) d

-- it holds before each of so many turns
abbrev pub AreAllowed : Body → ℕ → List ℤ → ℕ → Type 0
AreAllowed l d x k = (i : ℕ) → i < k → Allows l d x i

first_and_others : (l : Body) (d k : ℕ) (x : List ℤ) → holds l.guard x d → AreAllowed l d (turned l d x) k → AreAllowed l d x (suc k)
unfolding iterated
first_and_others l d k x a b zero lt = a
first_and_others l d k x a b (suc i) lt = b i (omega (arith, lt))

pub after_is : (l : Body) (d k : ℕ) (x y : List ℤ) → after l d k x y ↔ ((iterated l d k x ≡ y) × AreAllowed l d x k)
unfolding after iterated
after_is l d zero x y = (λ h. (h, λ i lt. absurd (omega (arith, lt))), λ h. h.0)
after_is l d (suc k) x y =
    let rec = after_is l d k (turned l d x) y in
    (λ h. ((rec.0 h.1).0, first_and_others l d k x h.0 (rec.0 h.1).1), λ h. (h.1 0 (omega arith), rec.1 (h.0, λ i lt. h.1 (suc i) (omega (arith, lt)))))

-- the vectors after p m + j turns lie on a line
line : (l : Body) (p d j : ℕ) (x : List ℤ) → IsPower l.matrix p → length x ≡ l.matrix.side → IsLine (λ k. iterated l d (p * suc k + j) x)
line l p d j x h e place = elim (cases_lt place l.matrix.side) [
  | inl lt ↦ record { start = at_row (iterated l d (p + j) x) place; step = stride l.matrix l.shift p j place *ℤ pos d; each = λ k. on_line l p d k j x place h lt }
  | inr past ↦ record { start = pos 0; step = pos 0; each = λ k. get_or_past (iterated l d (p * suc k + j) x) place (pos 0) (omega (arith, past, length-iterated l d (p * suc k + j) x e)) ∙ omega (arith, ints, times_zero (pos k)) }
]

-- what a guard says at the first and the last turns of each remainder
pub record AreTested (l : Body) (p d m i : ℕ) (x : List ℤ) : Type 0 where
  pub early : AreAllowed l d x p
  pub ends : (j : ℕ) → j < p → 0 < m → Allows l d x (p + j) × Allows l d x (p * m + j)
  pub late : (j : ℕ) → j < i → Allows l d x (p + j) × Allows l d x (p * suc m + j)

between_ends : (l : Body) (p d q m j : ℕ) (x : List ℤ) → IsPower l.matrix p → IsGuard l.guard → length x ≡ l.matrix.side → q < m → Allows l d x (p + j) → Allows l d x (p * m + j) → Allows l d x (p * suc q + j)
between_ends l p d q zero j x h g e lt a b = absurd (omega (arith, lt))
between_ends l p d q (suc m) j x h g e lt a b = guard_on_line l.guard (λ k. iterated l d (p * suc k + j) x) d q m g (line l p d j x h e) (omega (arith, lt)) (subst (Allows l d x) once a) b
  where
    once : p + j ≡ p * suc 0 + j
    once = omega arith

tested_at : (l : Body) (p d m i : ℕ) (x : List ℤ) → i ≤ p → IsPower l.matrix p → IsGuard l.guard → length x ≡ l.matrix.side → AreTested l p d m i x → (q j : ℕ) → j < p → p * q + j < p * suc m + i → Allows l d x (p * q + j)
tested_at l p d m i x few h g e t zero j below lt = subst (Allows l d x) first (t.early j below)
  where
    first : j ≡ p * zero + j
    first = omega arith
tested_at l p d m i x few h g e t (suc q) j below lt = elim (cases_order q m) [
  | inl same ↦ subst (λ k. Allows l d x (p * suc k + j)) (sym same) (t.late j (omega (arith, lt, ap (λ k. p * k) same))).1
  | inr other ↦ elim other [
    | inl less ↦ let ends = t.ends j below (omega (arith, less)) in between_ends l p d q m j x h g e less ends.0 ends.1
    | inr more ↦ absurd (omega (arith, lt, few, mul-le p (suc (suc m)) p (suc q) (omega arith) (omega (arith, more))))
  ]
]

-- all turns are allowed where the first and the last of each remainder are
pub all_allowed : (l : Body) (p d m i : ℕ) (x : List ℤ) → 0 < p → i ≤ p → IsPower l.matrix p → IsGuard l.guard → length x ≡ l.matrix.side → AreTested l p d m i x → AreAllowed l d x (p * suc m + i)
all_allowed l p d m i x some few h g e t k lt = subst (Allows l d x) whole (tested_at l p d m i x few h g e t (k / p) (k % p) (mod_below k p some) (omega (arith, whole, lt)))
  where
    whole : p * (k / p) + k % p ≡ k
    whole = omega (arith, div-add-mod' k p)

-- and the other way round
pub all_tested : (l : Body) (p d m i : ℕ) (x : List ℤ) → AreAllowed l d x (p * suc m + i) → AreTested l p d m i x
all_tested l p d m i x h = record {
  early = λ k lt. h k (omega (arith, lt));
  ends = λ j lt some. (h (p + j) (omega (arith, lt, some, mul-le p 1 p m (omega arith) (omega (arith, some)))), h (p * m + j) (omega (arith, lt)));
  late = λ j lt. (h (p + j) (omega (arith, lt)), h (p * suc m + j) (omega (arith, lt)));
}
