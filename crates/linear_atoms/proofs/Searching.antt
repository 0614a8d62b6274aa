-- The steps of the search for thresholds.
use Rattle.std.proofs.Common.{◌≡◌, ℕ, zero, suc, ◌+◌, ◌*◌, ◌^◌, ◌≤◌, ◌<◌, Bool, true, false, List, [], ◌∷◌, ◌++◌, length, arith, refl, ◌∙◌, sym, ap, subst, unsigned_abs}
use Rattle.std.proofs.Math.IntN.{ℤ, pos}
use Rattle.std.specs.Prelude.{All}
use Rattle.std.specs.List.{slice_index_or, AllPairs, AllByRecursion}
use Rattle.std.proofs.lemmas.List.{get_or_default}
use Rattle.std.proofs.lemmas.List.Elements.{All-push, All-nil}
use Rattle.std.proofs.lemmas.Bool.{cases_lt}
use mathlib.Core.Logic.{◌⊎◌, inl, inr}
use Rattle.threshold_laws.specs.Thresholds.{lowered_by, lowered, Among, IsThreshold}
use Rattle.threshold_laws.proofs.AtomTables.{threshold_lowered, seed_is_threshold}
use Rattle.linear_atoms.specs.Closing.{entry, IsSmall, IsDistinct, Met, AreFound, IsStarting, IsClosing, IsOverfull}
use Rattle.linear_atoms.specs.Closing.Met.{known, added}
use Rattle.linear_atoms.proofs.Members.{among_append, among_last, among_entry, place_of}

entry-append : (ks : List ℤ) (z : ℤ) (i : ℕ) (d : ℤ) → i < length ks → slice_index_or (ks ++ z ∷ []) i d ≡ slice_index_or ks i d
entry-append [] z i d h = absurd (omega arith)
entry-append (k ∷ ks) z zero d h = refl
entry-append (k ∷ ks) z (suc i) d h = entry-append ks z i d (omega (arith, h))

entry-last : (ks : List ℤ) (z : ℤ) (d : ℤ) → slice_index_or (ks ++ z ∷ []) (length ks) d ≡ z
entry-last [] z d = refl
entry-last (k ∷ ks) z d = entry-last ks z d

length-push : (ks : List ℤ) (z : ℤ) → length (ks ++ z ∷ []) ≡ suc (length ks)
length-push [] z = refl
length-push (k ∷ ks) z = ap suc (length-push ks z)

distinct-push : (ks : List ℤ) (z : ℤ) → IsDistinct ks → (Among z ks → ⊥) → IsDistinct (ks ++ z ∷ [])
distinct-push ks z d new i j e less inside = elim (cases_lt j (length ks)) [
  | inl before ↦ λ same. d i j e less before (sym (entry-append ks z i e (omega (arith, less, before))) ∙ same ∙ entry-append ks z j e before)
  | inr last ↦ λ same. new (subst (λ y. Among y ks) (at_z (omega (arith, last, inside, length-push ks z)) same) (among_entry ks i (omega (arith, less, inside, length-push ks z))))
]
  where
    at_z : j ≡ length ks → slice_index_or (ks ++ z ∷ []) i e ≡ slice_index_or (ks ++ z ∷ []) j e → entry ks i ≡ z
    at_z is same = get_or_default ks i (pos 0) e (omega (arith, less, is)) ∙ sym (entry-append ks z i e (omega (arith, less, is))) ∙ same ∙ ap (λ k. slice_index_or (ks ++ z ∷ []) k e) is ∙ entry-last ks z e

found_met : (base : ℕ) (totals seeds ks js : List ℤ) (z : ℤ) → AreFound base totals seeds ks → IsSmall z → IsThreshold base (length totals) (entry totals) seeds z → Met ks z js → AreFound base totals seeds js
found_met base totals seeds ks js z f small sound (known a e) = subst (AreFound base totals seeds) (sym e) f
found_met base totals seeds ks js z f small sound (added new e) = subst (AreFound base totals seeds) (sym e) (record {
  small = All-push IsSmall ks z f.small small;
  distinct = distinct-push ks z f.distinct new;
  sound = All-push (IsThreshold base (length totals) (entry totals) seeds) ks z f.sound sound;
})

-- what was found stays, and the bound is found now
still : (ks js : List ℤ) (z y : ℤ) → Met ks z js → Among y ks → Among y js
still ks js z y (known a e) b = subst (Among y) (sym e) b
still ks js z y (added new e) b = subst (Among y) (sym e) (among_append y ks (z ∷ []) b)

now_found : (ks js : List ℤ) (z : ℤ) → Met ks z js → Among z js
now_found ks js z (known a e) = subst (Among z) (sym e) a
now_found ks js z (added new e) = subst (Among z) (sym e) (among_last z ks)

same_entry : (ks js : List ℤ) (z : ℤ) (i : ℕ) → Met ks z js → i < length ks → entry js i ≡ entry ks i
same_entry ks js z i (known a e) h = ap (λ xs. entry xs i) e
same_entry ks js z i (added new e) h = ap (λ xs. entry xs i) e ∙ entry-append ks z i (pos 0) h

pub met_grows : (ks js : List ℤ) (z : ℤ) → Met ks z js → length ks ≤ length js
met_grows ks js z (known a e) = omega (arith, ap length e)
met_grows ks js z (added new e) = omega (arith, ap length e, length-push ks z)

pub starting_none : (base : ℕ) (totals seeds : List ℤ) → IsStarting base totals seeds [] 0
starting_none base totals seeds = record {
  found_so_far = record { small = All-nil IsSmall; distinct = λ i j d less inside. absurd (omega arith); sound = All-nil (IsThreshold base (length totals) (entry totals) seeds) };
  given = λ i h. absurd (omega (arith, h));
}

seed_sound : (base : ℕ) (totals seeds : List ℤ) (i : ℕ) → i < length seeds → IsThreshold base (length totals) (entry totals) seeds (entry seeds i)
seed_sound base totals seeds i h = seed_is_threshold base (length totals) (entry totals) seeds (entry seeds i) (among_entry seeds i h)

pub starting_more : (base : ℕ) (totals seeds ks js : List ℤ) (n : ℕ) → IsStarting base totals seeds ks n → n < length seeds → IsSmall (entry seeds n) → Met ks (entry seeds n) js → IsStarting base totals seeds js (n + 1)
starting_more base totals seeds ks js n s h small m = record {
  found_so_far = found_met base totals seeds ks js (entry seeds n) s.found_so_far small (seed_sound base totals seeds n h) m;
  given = λ i lt. elim (cases_lt i n) [ inl before ↦ still ks js (entry seeds n) (entry seeds i) m (s.given i before) | inr last ↦ subst (λ k. Among (entry seeds k) js) (same i n lt last) (now_found ks js (entry seeds n) m) ];
}
  where
    same : (i n : ℕ) → i < n + 1 → n ≤ i → n ≡ i
    same i n h k = omega (arith, h, k)

overfull : (base : ℕ) (totals seeds ks : List ℤ) (z : ℤ) (room : ℕ) → AreFound base totals seeds ks → IsThreshold base (length totals) (entry totals) seeds z → (Among z ks → ⊥) → length ks ≡ room → IsOverfull base totals seeds room
overfull base totals seeds ks z room f sound new full = record {
  found = ks ++ z ∷ [];
  distinct = distinct-push ks z f.distinct new;
  sound = All-push (IsThreshold base (length totals) (entry totals) seeds) ks z f.sound sound;
  over = omega (arith, full, length-push ks z);
}

pub starting_overfull : (base : ℕ) (totals seeds ks : List ℤ) (n room : ℕ) → IsStarting base totals seeds ks n → n < length seeds → (Among (entry seeds n) ks → ⊥) → length ks ≡ room → IsOverfull base totals seeds room
starting_overfull base totals seeds ks n room s h new full = overfull base totals seeds ks (entry seeds n) room s.found_so_far (seed_sound base totals seeds n h) new full

pub closing_none : (base : ℕ) (totals seeds ks : List ℤ) → IsStarting base totals seeds ks (length seeds) → IsClosing base totals seeds ks 0 0
closing_none base totals seeds ks s = record {
  found_so_far = s.found_so_far;
  given = s.given;
  upto = omega arith;
  followed = λ i l h k. absurd (omega (arith, h));
  following = λ l h k. absurd (omega (arith, h));
}

lowered_sound : (base : ℕ) (totals seeds ks : List ℤ) (at l : ℕ) → AreFound base totals seeds ks → at < length ks → l < length totals → IsThreshold base (length totals) (entry totals) seeds (lowered_by base (entry totals l) (entry ks at))
lowered_sound base totals seeds ks at l f inside h = threshold_lowered base (length totals) (entry totals) seeds (entry ks at) l h (f.sound at (pos 0) inside)

pub closing_more : (base : ℕ) (totals seeds ks js : List ℤ) (at l : ℕ) → IsClosing base totals seeds ks at l → at < length ks → l < length totals → IsSmall (lowered_by base (entry totals l) (entry ks at)) → Met ks (lowered_by base (entry totals l) (entry ks at)) js → IsClosing base totals seeds js at (l + 1)
closing_more base totals seeds ks js at l c inside h small m = record {
  found_so_far = found_met base totals seeds ks js (lowered_by base (entry totals l) (entry ks at)) c.found_so_far small (lowered_sound base totals seeds ks at l c.found_so_far inside h) m;
  given = λ i lt. still ks js (lowered_by base (entry totals l) (entry ks at)) (entry seeds i) m (c.given i lt);
  upto = omega (arith, met_grows ks js (lowered_by base (entry totals l) (entry ks at)) m, inside);
  followed = λ i k before lt. kept i k (omega (arith, before, inside)) (c.followed i k before lt);
  following = λ k lt now. elim (cases_lt k l) [ inl before ↦ kept at k inside (c.following k before inside) | inr last ↦ subst (λ x. Among (lowered_by base (entry totals x) (entry js at)) js) (same k l lt last) (subst (λ y. Among (lowered_by base (entry totals l) y) js) (sym (same_entry ks js (lowered_by base (entry totals l) (entry ks at)) at m inside)) (now_found ks js (lowered_by base (entry totals l) (entry ks at)) m)) ];
}
  where
    same : (i n : ℕ) → i < n + 1 → n ≤ i → n ≡ i
    same i n h k = omega (arith, h, k)

    kept : (i k : ℕ) → i < length ks → Among (lowered_by base (entry totals k) (entry ks i)) ks → Among (lowered_by base (entry totals k) (entry js i)) js
    kept i k lt a = subst (λ y. Among (lowered_by base (entry totals k) y) js) (sym (same_entry ks js (lowered_by base (entry totals l) (entry ks at)) i m lt)) (still ks js (lowered_by base (entry totals l) (entry ks at)) (lowered_by base (entry totals k) (entry ks i)) m a)

pub closing_overfull : (base : ℕ) (totals seeds ks : List ℤ) (at l room : ℕ) → IsClosing base totals seeds ks at l → at < length ks → l < length totals → (Among (lowered_by base (entry totals l) (entry ks at)) ks → ⊥) → length ks ≡ room → IsOverfull base totals seeds room
closing_overfull base totals seeds ks at l room c inside h new full = overfull base totals seeds ks (lowered_by base (entry totals l) (entry ks at)) room c.found_so_far (lowered_sound base totals seeds ks at l c.found_so_far inside h) new full

pub closing_next : (base : ℕ) (totals seeds ks : List ℤ) (at : ℕ) → IsClosing base totals seeds ks at (length totals) → at < length ks → IsClosing base totals seeds ks (at + 1) 0
closing_next base totals seeds ks at c inside = record {
  found_so_far = c.found_so_far;
  given = c.given;
  upto = omega (arith, inside);
  followed = λ i l lt h. elim (cases_lt i at) [ inl before ↦ c.followed i l before h | inr last ↦ subst (λ k. Among (lowered_by base (entry totals l) (entry ks k)) ks) (same i at lt last) (c.following l h inside) ];
  following = λ l h k. absurd (omega (arith, h));
}
  where
    same : (i n : ℕ) → i < n + 1 → n ≤ i → n ≡ i
    same i n h k = omega (arith, h, k)

reached : (base : ℕ) (totals seeds ks : List ℤ) → IsClosing base totals seeds ks (length ks) 0 → (z : ℤ) (w : List ℕ) → Among z ks → AllByRecursion (λ l. l < length totals) w → Among (lowered base (entry totals) z w) ks
reached base totals seeds ks c z [] a letters = a
reached base totals seeds ks c z (l ∷ w) a letters = let p = place_of z ks a in
    reached base totals seeds ks c (lowered_by base (entry totals l) z) w (subst (λ y. Among (lowered_by base (entry totals l) y) ks) p.1.1 (c.followed p.0 l p.1.0 letters.0)) letters.1

-- when all have been lowered, every threshold is found
pub all_found : (base : ℕ) (totals seeds ks : List ℤ) → IsClosing base totals seeds ks (length ks) 0 → (z : ℤ) → IsThreshold base (length totals) (entry totals) seeds z → Among z ks
all_found base totals seeds ks c z t = let p = place_of t.seed seeds t.given in
    subst (λ y. Among y ks) t.leads (reached base totals seeds ks c t.seed t.word (subst (λ y. Among y ks) p.1.1 (c.given p.0 p.1.0)) t.letters)

pub small_met : (ks js : List ℤ) (z : ℤ) → All IsSmall ks → IsSmall z → Met ks z js → All IsSmall js
small_met ks js z h small (known a e) = subst (All IsSmall) (sym e) h
small_met ks js z h small (added new e) = subst (All IsSmall) (sym e) (All-push IsSmall ks z h small)
