-- A torn table has one list of words: the order of arrivals and that of words are antisymmetric.
use Rattle.std.proofs.Common.{◌≡◌, ℕ, List, [], ◌∷◌, length, arith, refl, ◌∙◌, sym, ap, subst}
use Rattle.std.specs.Prelude.{slice_index}
use mathlib.Core.Logic.{◌⊎◌, inl, inr}
use Rattle.graph_laws.specs.Paths.{Path, AtMost, Before, first}
use Rattle.graph_laws.specs.Paths.Before.{shorter, lower, earlier}
use Rattle.graph_laws.proofs.PathOrder.{chained, at_most_before}
use Rattle.graph_laws.specs.Walks.{go}
use Rattle.lash_model.specs.Tables.{Table, letters}
use Rattle.lash_model.specs.Acceptance.{int_state}
use Rattle.marked_laws.specs.TornTables.{Arrival, IsEarlier, IsNoLater, IsWordAtMost, arrival, AreTornWords}
use Rattle.marked_laws.specs.Weakening.{IsClearLoop, IsMarkedLoop}

not_first : (w : List ℕ) → first w w → ⊥
not_first [] h = h
not_first (l ∷ w) (inl h) = omega (arith, h)
not_first (l ∷ w) (inr h) = not_first w h.1

not_before : (x : Path) → Before x x → ⊥
not_before x (shorter h) = omega (arith, h)
not_before x (lower e h) = omega (arith, h)
not_before x (earlier e s h) = not_first x.word h

one_path : (x y : Path) → AtMost x y → AtMost y x → x ≡ y
one_path x y (inl e) k = e
one_path x y (inr h) k = absurd (not_before y (at_most_before y x y k h))

-- a word as a path
abbrev word_path : List ℕ → Path
word_path w = record { start = 0; word = w }

one_word : (u v : List ℕ) → IsWordAtMost u v → IsWordAtMost v u → u ≡ v
one_word u v h k = ap (λ x. x.word) (one_path (word_path u) (word_path v) h k)

not_both_first : (u v : List ℕ) → length u ≡ length v → first u v → first v u → ⊥
not_both_first u v e h k = not_before (word_path u) (chained (word_path u) (word_path v) (word_path u) (earlier e refl h) (earlier (sym e) refl k))

one_stem : (u v : List ℕ) → length u ≡ length v → (u ≡ v) ⊎ first u v → (v ≡ u) ⊎ first v u → u ≡ v
one_stem u v e (inl i) k = i
one_stem u v e (inr h) (inl k) = sym k
one_stem u v e (inr h) (inr k) = absurd (not_both_first u v e h k)

one_of_length : (a b : Arrival) → length a.stem ≡ length b.stem → IsEarlier a b → IsEarlier b a → a ≡ b
one_of_length a b e (inl h) (inl k) = absurd (not_before a.pair (chained a.pair b.pair a.pair h k))
one_of_length a b e (inl h) (inr k) = absurd (not_before a.pair (subst (λ x. Before a.pair x) k.0 h))
one_of_length a b e (inr h) (inl k) = absurd (not_before b.pair (subst (λ x. Before b.pair x) h.0 k))
one_of_length a b e (inr h) (inr k) = ap (λ x. record { pair = x; stem = a.stem }) h.0
    ∙ ap (λ u. record { pair = b.pair; stem = u }) (one_stem a.stem b.stem e h.1 k.1)

one_arrival : (a b : Arrival) → IsNoLater a b → IsNoLater b a → a ≡ b
one_arrival a b (inl h) (inl k) = absurd (omega (arith, h, k))
one_arrival a b (inl h) (inr k) = absurd (omega (arith, h, k.0))
one_arrival a b (inr h) (inl k) = absurd (omega (arith, h.0, k))
one_arrival a b (inr h) (inr k) = one_of_length a b h.0 h.1 k.1

pub least_words : (t : Table) (s1 s2 : ℕ) (w1 w2 p1 p2 a1 a2 r1 r2 : List ℕ) → AreTornWords t s1 w1 p1 a1 r1 → AreTornWords t s2 w2 p2 a2 r2
    → (s1 ≡ s2) × ((w1 ≡ w2) × ((p1 ≡ p2) × ((a1 ≡ a2) × (r1 ≡ r2))))
least_words t s1 s2 w1 w2 p1 p2 a1 a2 r1 r2 x y =
    (ap (λ a. a.pair.start) same, (ap (λ a. a.pair.word) same, (ap (λ a. a.stem) same, (accepts, rejects))))
  where
    same : arrival s1 w1 p1 ≡ arrival s2 w2 p2
    same = one_arrival (arrival s1 w1 p1) (arrival s2 w2 p2) (x.least y.state s2 w2 p2 y.torn y.led) (y.least x.state s1 w1 p1 x.torn x.led)

    -- both ways lead to the same state
    states : x.state ≡ y.state
    states = sym x.led.leads
        ∙ ap (λ a. go t.frac_rows (letters t) (slice_index t.outs (int_state t a.pair.start a.pair.word)) a.stem) same ∙ y.led.leads

    accepts : a1 ≡ a2
    accepts = one_word a1 a2 (x.accept_least a2 (subst (λ q. IsClearLoop t q a2) (sym states) y.accepts))
        (y.accept_least a1 (subst (λ q. IsClearLoop t q a1) states x.accepts))

    rejects : r1 ≡ r2
    rejects = one_word r1 r2 (x.reject_least r2 (subst (λ q. IsMarkedLoop t q r2) (sym states) y.rejects))
        (y.reject_least r1 (subst (λ q. IsMarkedLoop t q r1) states x.rejects))
