-- Joined formulas hold where all, or some, of their members do.
use Rattle.std.proofs.Common.{◌≡◌, ℕ, zero, suc, ◌<◌, List, [], ◌∷◌, ◌++◌, length, arith, refl, subst}
use mathlib.Core.Logic.{◌⊎◌, inl, inr}
use Rattle.std.proofs.Math.IntN.{ℤ, pos}
use Rattle.std.specs.Prelude.{◌↔◌}
use Rattle.std.proofs.lemmas.Bool.{cases_lt}
use Rattle.std.proofs.lemmas.Int.{ints}
use Rattle.std.proofs.lemmas.List.{length-append}
use Rattle.lash_model.specs.Formulas.{Formula, And, Or}
use Rattle.lash_model.specs.Meaning.{total, holds}
use Rattle.loop_laws.specs.Closures.{gathered, joined_to, joined}
use Rattle.loop_laws.proofs.Sums.{zero_times}

-- each member holds
abbrev pub AllHold : List Formula → List ℤ → ℕ → Type 0
AllHold [] ns d = Unit {0}
AllHold (f ∷ fs) ns d = holds f ns d × AllHold fs ns d

-- some member holds
abbrev pub SomeHolds : List Formula → List ℤ → ℕ → Type 0
SomeHolds [] ns d = ⊥
SomeHolds (f ∷ fs) ns d = holds f ns d ⊎ SomeHolds fs ns d

and_joined : (f : Formula) (fs : List Formula) (ns : List ℤ) (d : ℕ) → holds (joined_to And f fs) ns d ↔ (holds f ns d × AllHold fs ns d)
unfolding joined_to holds
and_joined f [] ns d = (λ h. (h, tt), λ h. h.0)
and_joined f (g ∷ gs) ns d = let rec = and_joined (And f g) gs ns d in (λ h. let r = rec.0 h in (r.0.0, (r.0.1, r.1)), λ h. rec.1 ((h.0, h.1.0), h.1.1))

or_joined : (f : Formula) (fs : List Formula) (ns : List ℤ) (d : ℕ) → holds (joined_to Or f fs) ns d ↔ (holds f ns d ⊎ SomeHolds fs ns d)
unfolding joined_to holds
or_joined f [] ns d = (λ h. inl h, λ h. elim h [ inl x ↦ x | inr y ↦ absurd y ])
or_joined f (g ∷ gs) ns d =
    let rec = or_joined (Or f g) gs ns d in (
      λ h. elim (rec.0 h) [ inl x ↦ elim x [ inl y ↦ inl y | inr y ↦ inr (inl y) ] | inr y ↦ inr (inr y) ],
      λ h. elim h [ inl x ↦ rec.1 (inl (inl x)) | inr y ↦ elim y [ inl z ↦ rec.1 (inl (inr z)) | inr z ↦ rec.1 (inr z) ] ],
    )

pub all_joined : (fs : List Formula) (ns : List ℤ) (d : ℕ) → holds (joined And fs) ns d ↔ AllHold fs ns d
unfolding holds total
all_joined [] ns d = (λ h. tt, λ h. omega (arith, ints, zero_times (pos d)))
all_joined (f ∷ fs) ns d = and_joined f fs ns d

pub some_joined : (fs : List Formula) (ns : List ℤ) (d : ℕ) → 0 < length fs → holds (joined Or fs) ns d ↔ SomeHolds fs ns d
some_joined [] ns d h = absurd (omega (arith, h))
some_joined (f ∷ fs) ns d h = or_joined f fs ns d

pub all_append : (fs gs : List Formula) (ns : List ℤ) (d : ℕ) → AllHold (fs ++ gs) ns d ↔ (AllHold fs ns d × AllHold gs ns d)
all_append [] gs ns d = (λ h. (tt, h), λ h. h.1)
all_append (f ∷ fs) gs ns d = let rec = all_append fs gs ns d in (λ h. ((h.0, (rec.0 h.1).0), (rec.0 h.1).1), λ h. (h.0.0, rec.1 (h.0.1, h.1)))

pub some_append : (fs gs : List Formula) (ns : List ℤ) (d : ℕ) → SomeHolds (fs ++ gs) ns d ↔ (SomeHolds fs ns d ⊎ SomeHolds gs ns d)
some_append [] gs ns d = (λ h. inr h, λ h. elim h [ inl x ↦ absurd x | inr y ↦ y ])
some_append (f ∷ fs) gs ns d =
    let rec = some_append fs gs ns d in (
      λ h. elim h [ inl x ↦ inl (inl x) | inr y ↦ elim (rec.0 y) [ inl z ↦ inl (inr z) | inr z ↦ inr z ] ],
      λ h. elim h [ inl x ↦ elim x [ inl y ↦ inl y | inr y ↦ inr (rec.1 (inl y)) ] | inr y ↦ inr (rec.1 (inr y)) ],
    )

pub all_gathered : (f : ℕ → List Formula) (n : ℕ) (ns : List ℤ) (d : ℕ) → AllHold (gathered f n) ns d ↔ ((i : ℕ) → i < n → AllHold (f i) ns d)
unfolding gathered
all_gathered f zero ns d = (λ h i lt. absurd (omega (arith, lt)), λ h. tt)
all_gathered f (suc n) ns d =
    let rec = all_gathered f n ns d in
    let parts = all_append (gathered f n) (f n) ns d in (
      λ h i lt. elim (cases_lt i n) [ inl below ↦ rec.0 (parts.0 h).0 i below | inr above ↦ at_end i (omega (arith, lt, above)) (parts.0 h).1 ],
      λ h. parts.1 (rec.1 (λ i lt. h i (omega (arith, lt))), h n (omega arith)),
    )
  where
    at_end : (i : ℕ) → n ≡ i → AllHold (f n) ns d → AllHold (f i) ns d
    at_end i e h = subst (λ k. AllHold (f k) ns d) e h

-- some member is among those of a number below n
pub record IsAmong (f : ℕ → List Formula) (n : ℕ) (ns : List ℤ) (d : ℕ) : Type 0 where
  pub number : ℕ
  pub below : number < n
  pub held : SomeHolds (f number) ns d

pub some_gathered : (f : ℕ → List Formula) (n : ℕ) (ns : List ℤ) (d : ℕ) → SomeHolds (gathered f n) ns d ↔ IsAmong f n ns d
unfolding gathered
some_gathered f zero ns d = (λ h. absurd h, λ h. absurd (omega (arith, h.below)))
some_gathered f (suc n) ns d =
    let rec = some_gathered f n ns d in
    let parts = some_append (gathered f n) (f n) ns d in (
      λ h. elim (parts.0 h) [ inl x ↦ widened (rec.0 x) | inr y ↦ record { number = n; below = omega arith; held = y } ],
      λ h. parts.1 (elim (cases_lt h.number n) [ inl lt ↦ inl (rec.1 (record { number = h.number; below = lt; held = h.held })) | inr le ↦ inr (subst (λ k. SomeHolds (f k) ns d) (omega (arith, le, h.below)) h.held) ]),
    )
  where
    widened : IsAmong f n ns d → IsAmong f (suc n) ns d
    widened h = record { number = h.number; below = omega (arith, h.below); held = h.held }

pub length-gathered : {A : Type 0} (f : ℕ → A) (n : ℕ) → length (gathered (λ i. f i ∷ []) n) ≡ n
unfolding gathered
length-gathered f zero = refl
length-gathered f (suc n) = omega (arith, length-append (gathered (λ i. f i ∷ []) n) (f n ∷ []), length-gathered f n)
