-- A closure holds of two vectors where some number of turns leads from the first to the second: fewer than p, or p M + i.
use Rattle.std.proofs.Common.{◌≡◌, ℕ, suc, ◌+◌, ◌-◌, ◌*◌, ◌/◌, ◌%◌, ◌<◌, ◌≤◌, Bool, true, false, List, [], ◌∷◌, ◌++◌, length, arith, sym, ap, ◌∙◌, subst}
use mathlib.Core.Logic.{◌⊎◌, inl, inr}
use Rattle.std.proofs.Math.IntN.{ℤ, pos, ◌*ℤ◌}
use Rattle.std.specs.Prelude.{◌↔◌}
use Rattle.std.proofs.lemmas.Bool.{cases_lt}
use Rattle.std.proofs.lemmas.List.{length-append, length_push, get_or_push, get_or_append_left, get_or-append-add}
use Rattle.std.proofs.lemmas.Nat.{div-add-mod', mod_below, le-div}
use Rattle.lash_model.specs.Formulas.{Int, Formula, And, Exists}
use Rattle.lash_model.specs.Meaning.{holds}
use Rattle.matrix_powers.specs.Powers.{IsPower}
use Rattle.matrix_powers.specs.Orbits.{at_row}
use Rattle.loop_laws.specs.Turns.{Body, IsGuard, after}
use Rattle.loop_laws.specs.Closures.{gathered, joined, count_place, places_of, short, long, closure_of}
use Rattle.loop_laws.proofs.Joining.{AllHold, SomeHolds, IsAmong, all_joined, some_joined, some_append, some_gathered, length-gathered}
use Rattle.loop_laws.proofs.TermVectors.{Stands}
use Rattle.loop_laws.proofs.Shorts.{IsCount, short_means}
use Rattle.loop_laws.proofs.Longs.{IsLong, IsSome, is_some_means, long_means}

-- so many turns lead from x to y, and their number is as it is asked for
pub record AreTurns (counted : Bool) (l : Body) (d : ℕ) (x y : List ℤ) (count : ℤ) : Type 0 where
  pub turns : ℕ
  pub leads : after l d turns x y
  pub counts : IsCount counted count turns d

-- one entry more behind the vector
pub pushed : (n places : ℕ) (x y ns : List ℤ) (c : ℤ) → Stands n places x y ns → Stands n (places + 1) x y (ns ++ c ∷ [])
pushed n places x y ns c s = record {
  count = omega (arith, length_push ns c, s.count);
  room = omega (arith, s.room);
  first = λ k lt. get_or_append_left ns (c ∷ []) (pos 0) k (omega (arith, lt, s.room, s.count)) ∙ s.first k lt;
  second = λ k lt. get_or_append_left ns (c ∷ []) (pos 0) (n + k) (omega (arith, lt, s.room, s.count)) ∙ s.second k lt;
}

-- two vectors, one behind the other
pub both : (n : ℕ) (x y : List ℤ) → length x ≡ n → length y ≡ n → Stands n (n + n) x y (x ++ y)
both n x y e f = record {
  count = omega (arith, length-append x y, e, f);
  room = omega arith;
  first = λ k lt. get_or_append_left x y (pos 0) k (omega (arith, lt, e));
  second = λ k lt. ap (λ m. at_row (x ++ y) (m + k)) (sym e) ∙ get_or-append-add x y k (pos 0);
}

-- the number of turns stands before M
count_stays : (counted : Bool) (l : Body) (ns : List ℤ) (c : ℤ) (k d : ℕ) → length ns ≡ places_of counted l → IsCount counted (at_row (ns ++ c ∷ []) (count_place l)) k d ↔ IsCount counted (at_row ns (count_place l)) k d
count_stays false l ns c k d e = (λ h. tt, λ h. tt)
count_stays true l ns c k d e = let there = get_or_append_left ns (c ∷ []) (pos 0) (count_place l) (omega (arith, e)) in (λ h. sym there ∙ h, λ h. there ∙ h)

exists_means : (f : Formula) (ns : List ℤ) (d : ℕ) → holds (Exists Int f) ns d ↔ ((m : ℤ) × holds f (ns ++ (m *ℤ pos d) ∷ []) d)
unfolding holds
exists_means f ns d = (λ h. h, λ h. h)

-- what is known of the loop, and where its two vectors stand
pub record IsKnown (counted : Bool) (l : Body) (p d : ℕ) (x y ns : List ℤ) : Type 0 where
  pub some : 0 < p
  pub power : IsPower l.matrix p
  pub guard : IsGuard l.guard
  pub whole_x : length x ≡ l.matrix.side
  pub whole_y : length y ≡ l.matrix.side
  pub positive : 0 < d
  pub stands : Stands l.matrix.side (places_of counted l) x y ns

long_of : (counted : Bool) (l : Body) (p d m : ℕ) (x y ns : List ℤ) → IsKnown counted l p d x y ns → IsLong l p d m (places_of counted l) x y (ns ++ (pos (suc m) *ℤ pos d) ∷ [])
long_of counted l p d m x y ns h = record {
  power = h.power;
  whole_x = h.whole_x;
  whole_y = h.whole_y;
  positive = h.positive;
  stands = pushed l.matrix.side (places_of counted l) x y ns (pos (suc m) *ℤ pos d) h.stands;
  turns = get_or_push ns (pos (suc m) *ℤ pos d) (pos 0) (places_of counted l) h.stands.count;
}

from_long : (counted : Bool) (l : Body) (p i d : ℕ) (x y ns : List ℤ) → IsKnown counted l p d x y ns → i < p → (turns : ℤ) → AllHold (long counted l p i) (ns ++ (turns *ℤ pos d) ∷ []) d → IsSome turns → AreTurns counted l d x y (at_row ns (count_place l))
from_long counted l p i d x y ns h lt turns held is =
    let m = is.less in
    let held : AllHold (long counted l p i) (ns ++ (pos (suc m) *ℤ pos d) ∷ []) d = subst (λ k. AllHold (long counted l p i) (ns ++ (k *ℤ pos d) ∷ []) d) is.one_more held in
    let q = (long_means counted l p i d m x y (ns ++ (pos (suc m) *ℤ pos d) ∷ []) h.some (omega (arith, lt)) h.guard (long_of counted l p d m x y ns h)).0 held in
    record { turns = p * suc m + i; leads = q.0; counts = (count_stays counted l ns (pos (suc m) *ℤ pos d) (p * suc m + i) d h.stands.count).0 q.1 }

-- the first member of the second case says that M is at least 1
long_is_some : (counted : Bool) (l : Body) (p i d : ℕ) (x y ns : List ℤ) → IsKnown counted l p d x y ns → (turns : ℤ) → AllHold (long counted l p i) (ns ++ (turns *ℤ pos d) ∷ []) d → IsSome turns
long_is_some counted l p i d x y ns h turns held = is_some_means (places_of counted l) d turns (ns ++ (turns *ℤ pos d) ∷ []) (get_or_push ns (turns *ℤ pos d) (pos 0) (places_of counted l) h.stands.count) h.positive held.0

of_member : (f : Formula) (ns : List ℤ) (d : ℕ) → SomeHolds (f ∷ []) ns d → holds f ns d
of_member f ns d (inl h) = h
of_member f ns d (inr h) = absurd h

-- the two cases, one formula for each remainder
shorts : Bool → Body → ℕ → List Formula
shorts counted l p = gathered (λ i. joined And (short counted l i) ∷ []) p

longs : Bool → Body → ℕ → List Formula
longs counted l p = gathered (λ i. Exists Int (joined And (long counted l p i)) ∷ []) p

closure_parts : (counted : Bool) (l : Body) (p d : ℕ) (ns : List ℤ) → 0 < p → holds (closure_of counted l p) ns d ↔ (IsAmong (λ i. joined And (short counted l i) ∷ []) p ns d ⊎ IsAmong (λ i. Exists Int (joined And (long counted l p i)) ∷ []) p ns d)
unfolding shorts longs
closure_parts counted l p d ns some =
    let whole = some_joined (shorts counted l p ++ longs counted l p) ns d (omega (arith, some, length-append (shorts counted l p) (longs counted l p), length-gathered (λ i. joined And (short counted l i)) p)) in
    let parts = some_append (shorts counted l p) (longs counted l p) ns d in
    let first = some_gathered (λ i. joined And (short counted l i) ∷ []) p ns d in
    let second = some_gathered (λ i. Exists Int (joined And (long counted l p i)) ∷ []) p ns d in (
      λ h. elim (parts.0 (whole.0 h)) [ inl a ↦ inl (first.0 a) | inr b ↦ inr (second.0 b) ],
      λ h. whole.1 (parts.1 (elim h [ inl a ↦ inl (first.1 a) | inr b ↦ inr (second.1 b) ])),
    )

from_closure : (counted : Bool) (l : Body) (p d : ℕ) (x y ns : List ℤ) → IsKnown counted l p d x y ns → holds (closure_of counted l p) ns d → AreTurns counted l d x y (at_row ns (count_place l))
from_closure counted l p d x y ns h held = elim ((closure_parts counted l p d ns h.some).0 held) [
  | inl a ↦ let q = (short_means counted l a.number d x y ns h.whole_x h.whole_y h.stands).0 ((all_joined (short counted l a.number) ns d).0 (of_member _ ns d a.held)) in record { turns = a.number; leads = q.0; counts = q.1 }
  | inr b ↦
      let some = (exists_means (joined And (long counted l p b.number)) ns d).0 (of_member _ ns d b.held) in
      let all = (all_joined (long counted l p b.number) (ns ++ (some.0 *ℤ pos d) ∷ []) d).0 some.1 in
      from_long counted l p b.number d x y ns h b.below some.0 all (long_is_some counted l p b.number d x y ns h some.0 all)
]

to_short : (counted : Bool) (l : Body) (p d : ℕ) (x y ns : List ℤ) → IsKnown counted l p d x y ns → (t : AreTurns counted l d x y (at_row ns (count_place l))) → t.turns < p → holds (closure_of counted l p) ns d
to_short counted l p d x y ns h t lt = (closure_parts counted l p d ns h.some).1 (inl (record { number = t.turns; below = lt; held = inl ((all_joined (short counted l t.turns) ns d).1 ((short_means counted l t.turns d x y ns h.whole_x h.whole_y h.stands).1 (t.leads, t.counts))) }))

to_long : (counted : Bool) (l : Body) (p d m i : ℕ) (x y ns : List ℤ) → IsKnown counted l p d x y ns → i < p → after l d (p * suc m + i) x y → IsCount counted (at_row ns (count_place l)) (p * suc m + i) d → holds (closure_of counted l p) ns d
to_long counted l p d m i x y ns h lt leads counts =
    let vs = ns ++ (pos (suc m) *ℤ pos d) ∷ [] in
    let all = (long_means counted l p i d m x y vs h.some (omega (arith, lt)) h.guard (long_of counted l p d m x y ns h)).1 (leads, (count_stays counted l ns (pos (suc m) *ℤ pos d) (p * suc m + i) d h.stands.count).1 counts) in
    let exists = (exists_means (joined And (long counted l p i)) ns d).1 (pos (suc m), (all_joined (long counted l p i) vs d).1 all) in
    (closure_parts counted l p d ns h.some).1 (inr (record { number = i; below = lt; held = inl exists }))

to_closure : (counted : Bool) (l : Body) (p d : ℕ) (x y ns : List ℤ) → IsKnown counted l p d x y ns → AreTurns counted l d x y (at_row ns (count_place l)) → holds (closure_of counted l p) ns d
to_closure counted l p d x y ns h t = elim (cases_lt t.turns p) [
  | inl lt ↦ to_short counted l p d x y ns h t lt
  | inr le ↦
      let more : 1 ≤ t.turns / p = le-div 1 t.turns p h.some (omega (arith, le)) in
      let split : t.turns ≡ p * suc (t.turns / p - 1) + t.turns % p = split_off t.turns p more in
      to_long counted l p d (t.turns / p - 1) (t.turns % p) x y ns h (mod_below t.turns p h.some) (subst (λ k. after l d k x y) split t.leads) (subst (λ k. IsCount counted (at_row ns (count_place l)) k d) split t.counts)
]
  where
    again : (k : ℕ) → 1 ≤ k → suc (k - 1) ≡ k
    again k h = omega (arith, h)

    split_off : (k p : ℕ) → 1 ≤ k / p → k ≡ p * suc (k / p - 1) + k % p
    split_off k p h = sym (div-add-mod' k p) ∙ ap (λ q. q * p + k % p) (sym (again (k / p) h)) ∙ turned (suc (k / p - 1)) p (k % p)
      where
        turned : (q p r : ℕ) → q * p + r ≡ p * q + r
        turned q p r = omega arith

pub closure_means : (counted : Bool) (l : Body) (p d : ℕ) (x y ns : List ℤ) → IsKnown counted l p d x y ns → holds (closure_of counted l p) ns d ↔ AreTurns counted l d x y (at_row ns (count_place l))
closure_means counted l p d x y ns h = (from_closure counted l p d x y ns h, to_closure counted l p d x y ns h)
