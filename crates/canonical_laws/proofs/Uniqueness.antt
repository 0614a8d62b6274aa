-- Two minimal parts whose outputs are in a one-to-one relation after every path are the same, but for the outputs themselves.
use Rattle.std.proofs.Common.{◌≡◌, ℕ, zero, suc, ◌+◌, ◌*◌, ◌≤◌, ◌<◌, List, [], ◌∷◌, ◌++◌, length, arith, refl, ◌∙◌, sym, ap, subst, append_assoc}
use Rattle.std.specs.Prelude.{slice_index}
use Rattle.std.specs.List.{AllByRecursion}
use mathlib.Core.Logic.{◌⊎◌, inl, inr}
use Rattle.std.proofs.lemmas.Bool.{cases_order, cases_lt}
use Rattle.graph_laws.specs.Walks.{go}
use Rattle.graph_laws.specs.Paths.{Path, first, Before, AtMost, path_at, IsRising, start_path}
use Rattle.graph_laws.specs.Paths.Before.{shorter, lower, earlier}
use Rattle.graph_laws.proofs.Joining.{go-append}
use Rattle.graph_laws.proofs.PathOrder.{chained}
use Rattle.canonical_laws.specs.Behaviour.{Behaves}
use Rattle.canonical_laws.specs.Canonical.{IsPathOf, walked, IsNumbered, IsSeparated}
use Rattle.canonical_laws.specs.Twins.{Part, IsClosed, IsMinimal, IsOneToOne, AreRelated}

-- ---- the order of paths
first_never : (u : List ℕ) → first u u → ⊥
first_never [] h = h
first_never (a ∷ u) (inl h) = omega (arith, h)
first_never (a ∷ u) (inr h) = first_never u h.1

never : (x : Path) → Before x x → ⊥
never x (shorter h) = omega (arith, h)
never x (lower e h) = omega (arith, h)
never x (earlier e f h) = first_never x.word h

meet : (x y : Path) → AtMost x y → AtMost y x → x ≡ y
meet x y (inl e) k = e
meet x y (inr b) (inl e) = sym e
meet x y (inr b) (inr c) = absurd (never x (chained x y x b c))

-- ---- walks stay among the states
pub go_below : (width : ℕ) (g : Part) → IsClosed width g → (q : ℕ) (w : List ℕ) → q < length g.outs → AllByRecursion (λ l. l < width) w → go g.rows width q w < length g.outs
go_below width g c q [] h letters = h
go_below width g c q (l ∷ w) h letters = go_below width g c (slice_index g.rows (q * width + l)) w (c.rows_in q l h letters.0) letters.1

after : ℕ → Part → Path → ℕ
after width g p = walked g.starts g.rows width p

after_below : (width : ℕ) (g : Part) → IsClosed width g → (p : Path) → IsPathOf g.starts width p → after width g p < length g.outs
unfolding after
after_below width g c p v = go_below width g c (slice_index g.starts p.start) p.word (c.starts_in p.start v.start) v.letters

letters-append : (width : ℕ) (v w : List ℕ) → AllByRecursion (λ l. l < width) v → AllByRecursion (λ l. l < width) w → AllByRecursion (λ l. l < width) (v ++ w)
letters-append width [] w a b = b
letters-append width (l ∷ v) w a b = (a.0, letters-append width v w a.1 b)

longer : Path → List ℕ → Path
longer x w = record { start = x.start; word = x.word ++ w }

longer_valid : (starts : List ℕ) (width : ℕ) (x : Path) (w : List ℕ) → IsPathOf starts width x → AllByRecursion (λ l. l < width) w → IsPathOf starts width (longer x w)
unfolding longer
longer_valid starts width x w v letters = record { start = v.start; letters = letters-append width x.word w v.letters letters }

after_longer : (width : ℕ) (g : Part) (x : Path) (w : List ℕ) → after width g (longer x w) ≡ go g.rows width (after width g x) w
unfolding longer after
after_longer width g x w = go-append g.rows width (slice_index g.starts x.start) x.word w

other_valid : (width : ℕ) (rel : ℕ → ℕ → Type 0) (a b : Part) → AreRelated width rel a b → (p : Path) → IsPathOf a.starts width p → IsPathOf b.starts width p
other_valid width rel a b r p v = record { start = subst (λ n. p.start < n) r.starts v.start; letters = v.letters }

-- ---- two parts, each minimal, with related outputs
record Twins (width : ℕ) (rel : ℕ → ℕ → Type 0) (a b : Part) : Type 0 where
  pub one : IsMinimal width a
  pub other : IsMinimal width b
  pub apart : IsOneToOne rel
  pub related : AreRelated width rel a b

turned : (width : ℕ) (rel : ℕ → ℕ → Type 0) (a b : Part) → Twins width rel a b → Twins width (λ x y. rel y x) b a
unfolding after
turned width rel a b t = record {
  one = t.other;
  other = t.one;
  apart = record { right = λ x y z r s. t.apart.left y z x r s; left = λ x y z r s. t.apart.right z x y r s };
  related = record { starts = sym t.related.starts; outs = λ p v. t.related.outs p (record { start = subst (λ n. p.start < n) (sym t.related.starts) v.start; letters = v.letters }) };
}

related_at : (width : ℕ) (rel : ℕ → ℕ → Type 0) (a b : Part) → AreRelated width rel a b → (x : Path) → IsPathOf a.starts width x → rel (slice_index a.outs (after width a x)) (slice_index b.outs (after width b x))
unfolding after
related_at width rel a b r x v = r.outs x v

-- paths that meet in the one part meet in the other
meet_too : (width : ℕ) (rel : ℕ → ℕ → Type 0) (a b : Part) (t : Twins width rel a b) (p q : Path) → IsPathOf a.starts width p → IsPathOf a.starts width q → after width a p ≡ after width a q → after width b p ≡ after width b q
meet_too width rel a b t p q vp vq e = t.other.separated (after width b p) (after width b q)
    (after_below width b t.other.closed p (other_valid width rel a b t.related p vp))
    (after_below width b t.other.closed q (other_valid width rel a b t.related q vq))
    every
  where
    meets : (w : List ℕ) → after width a (longer q w) ≡ after width a (longer p w)
    meets w = after_longer width a q w ∙ ap (λ s. go a.rows width s w) (sym e) ∙ sym (after_longer width a p w)

    rel_at : (x : Path) → IsPathOf a.starts width x → rel (slice_index a.outs (after width a x)) (slice_index b.outs (after width b x))
    rel_at x v = related_at width rel a b t.related x v

    every : (w : List ℕ) → AllByRecursion (λ l. l < width) w → slice_index b.outs (go b.rows width (after width b p) w) ≡ slice_index b.outs (go b.rows width (after width b q) w)
    every w letters = ap (slice_index b.outs) (sym (after_longer width b p w))
        ∙ t.apart.right (slice_index a.outs (after width a (longer p w))) (slice_index b.outs (after width b (longer p w))) (slice_index b.outs (after width b (longer q w))) (rel_at (longer p w) (longer_valid a.starts width p w vp letters)) (subst (λ s. rel (slice_index a.outs s) (slice_index b.outs (after width b (longer q w)))) (meets w) (rel_at (longer q w) (longer_valid a.starts width q w vq letters)))
        ∙ ap (slice_index b.outs) (after_longer width b q w)

-- the twin of a state: where the other part is after the state's least path
twin : (width : ℕ) (rel : ℕ → ℕ → Type 0) (a b : Part) → Twins width rel a b → ℕ → ℕ
twin width rel a b t i = after width b (path_at t.one.numbered.paths i)

home : (width : ℕ) (g : Part) (m : IsMinimal width g) (i : ℕ) → i < length g.outs → after width g (path_at m.numbered.paths i) ≡ i
unfolding after
home width g m i h = m.numbered.leads i h

every_path : (width : ℕ) (rel : ℕ → ℕ → Type 0) (a b : Part) (t : Twins width rel a b) (p : Path) → IsPathOf a.starts width p → twin width rel a b t (after width a p) ≡ after width b p
unfolding twin
every_path width rel a b t p v = let q : ℕ = after width a p in let inside : q < length a.outs = after_below width a t.one.closed p v in
    meet_too width rel a b t (path_at t.one.numbered.paths q) p (t.one.numbered.valid q inside) v (home width a t.one q inside)

there_and_back : (width : ℕ) (rel : ℕ → ℕ → Type 0) (a b : Part) (t : Twins width rel a b) (i : ℕ) → i < length a.outs → twin width (λ x y. rel y x) b a (turned width rel a b t) (twin width rel a b t i) ≡ i
unfolding twin
there_and_back width rel a b t i h = every_path width (λ x y. rel y x) b a (turned width rel a b t) (path_at t.one.numbered.paths i) (other_valid width rel a b t.related (path_at t.one.numbered.paths i) (t.one.numbered.valid i h)) ∙ home width a t.one i h

twin_below : (width : ℕ) (rel : ℕ → ℕ → Type 0) (a b : Part) (t : Twins width rel a b) (i : ℕ) → i < length a.outs → twin width rel a b t i < length b.outs
unfolding twin
twin_below width rel a b t i h = after_below width b t.other.closed (path_at t.one.numbered.paths i) (other_valid width rel a b t.related (path_at t.one.numbered.paths i) (t.one.numbered.valid i h))

least_at : (width : ℕ) (g : Part) (m : IsMinimal width g) (p : Path) → IsPathOf g.starts width p → AtMost (path_at m.numbered.paths (after width g p)) p
unfolding after
least_at width g m p v = m.numbered.least p v

-- twins have one least path
one_least : (width : ℕ) (rel : ℕ → ℕ → Type 0) (a b : Part) (t : Twins width rel a b) (i : ℕ) → i < length a.outs → path_at t.other.numbered.paths (twin width rel a b t i) ≡ path_at t.one.numbered.paths i
unfolding twin turned
one_least width rel a b t i h = let k : ℕ = after width b (path_at t.one.numbered.paths i) in
    let k_in : k < length b.outs = twin_below width rel a b t i h in
    let back_valid : IsPathOf a.starts width (path_at t.other.numbered.paths k) = other_valid width (λ x y. rel y x) b a (turned width rel a b t).related (path_at t.other.numbered.paths k) (t.other.numbered.valid k k_in) in
    meet (path_at t.other.numbered.paths k) (path_at t.one.numbered.paths i)
    (least_at width b t.other (path_at t.one.numbered.paths i) (other_valid width rel a b t.related (path_at t.one.numbered.paths i) (t.one.numbered.valid i h)))
    (subst (λ x. AtMost (path_at t.one.numbered.paths x) (path_at t.other.numbered.paths k)) (there_and_back width rel a b t i h) (least_at width a t.one (path_at t.other.numbered.paths k) back_valid))

twin_rises : (width : ℕ) (rel : ℕ → ℕ → Type 0) (a b : Part) (t : Twins width rel a b) (i j : ℕ) → i < j → j < length a.outs → twin width rel a b t i < twin width rel a b t j
twin_rises width rel a b t i j h k = elim (cases_order x y) [ inl e ↦ absurd (equal e) | inr c ↦ elim c [ inl l ↦ l | inr g ↦ absurd (greater g) ] ]
  where
    x : ℕ
    x = twin width rel a b t i

    y : ℕ
    y = twin width rel a b t j

    hi : i < length a.outs
    hi = omega (arith, h, k)

    equal : x ≡ y → ⊥
    equal e = omega (arith, h, sym (there_and_back width rel a b t i hi) ∙ ap (twin width (λ x y. rel y x) b a (turned width rel a b t)) e ∙ there_and_back width rel a b t j k)

    greater : y < x → ⊥
    greater g = never (path_at t.one.numbered.paths i) (chained (path_at t.one.numbered.paths i) (path_at t.one.numbered.paths j) (path_at t.one.numbered.paths i)
        (t.one.numbered.rising i j (start_path 0) h (subst (λ n. j < n) (sym t.one.numbered.count) k))
        (subst (λ p. Before p (path_at t.one.numbered.paths i)) (one_least width rel a b t j k) (subst (λ p. Before (path_at t.other.numbered.paths y) p) (one_least width rel a b t i hi) (t.other.numbered.rising y x (start_path 0) g (subst (λ n. x < n) (sym t.other.numbered.count) (twin_below width rel a b t i hi))))))

at_least : (n : ℕ) (f : ℕ → ℕ) → ((i j : ℕ) → i < j → j < n → f i < f j) → (i : ℕ) → i < n → i ≤ f i
at_least n f up zero h = omega arith
at_least n f up (suc i) h = omega (arith, at_least n f up i (omega (arith, h)), up i (suc i) (omega arith) h)

-- the twin of a state has its number
same_number : (width : ℕ) (rel : ℕ → ℕ → Type 0) (a b : Part) (t : Twins width rel a b) (i : ℕ) → i < length a.outs → twin width rel a b t i ≡ i
same_number width rel a b t i h = omega (arith, low, high, back)
  where
    u : Twins width (λ x y. rel y x) b a
    u = turned width rel a b t

    j : ℕ
    j = twin width rel a b t i

    low : i ≤ j
    low = at_least (length a.outs) (twin width rel a b t) (twin_rises width rel a b t) i h

    high : j ≤ twin width (λ x y. rel y x) b a u j
    high = at_least (length b.outs) (twin width (λ x y. rel y x) b a u) (twin_rises width (λ x y. rel y x) b a u) j (twin_below width rel a b t i h)

    back : twin width (λ x y. rel y x) b a u j ≡ i
    back = there_and_back width rel a b t i h

no_fewer : (width : ℕ) (rel : ℕ → ℕ → Type 0) (a b : Part) (t : Twins width rel a b) (i : ℕ) → i < length a.outs → i < length b.outs
no_fewer width rel a b t i h = subst (λ x. x < length b.outs) (same_number width rel a b t i h) (twin_below width rel a b t i h)

up_to : (m n : ℕ) → ((i : ℕ) → i < m → i < n) → m ≤ n
up_to zero n f = omega arith
up_to (suc m) n f = f m (omega arith)

-- the two parts have as many states
pub same_states : (width : ℕ) (rel : ℕ → ℕ → Type 0) (a b : Part) → IsMinimal width a → IsMinimal width b → IsOneToOne rel → AreRelated width rel a b → length a.outs ≡ length b.outs
same_states width rel a b m n o r = let t : Twins width rel a b = record { one = m; other = n; apart = o; related = r } in
    omega (arith, up_to (length a.outs) (length b.outs) (no_fewer width rel a b t), up_to (length b.outs) (length a.outs) (no_fewer width (λ x y. rel y x) b a (turned width rel a b t)))

same_paths : (width : ℕ) (rel : ℕ → ℕ → Type 0) (a b : Part) (t : Twins width rel a b) (p : Path) → IsPathOf a.starts width p → after width a p ≡ after width b p
same_paths width rel a b t p v = sym (same_number width rel a b t (after width a p) (after_below width a t.one.closed p v)) ∙ every_path width rel a b t p v

-- and the same starts
pub same_starts : (width : ℕ) (rel : ℕ → ℕ → Type 0) (a b : Part) → IsMinimal width a → IsMinimal width b → IsOneToOne rel → AreRelated width rel a b → (j : ℕ) → j < length a.starts → slice_index a.starts j ≡ slice_index b.starts j
unfolding after
same_starts width rel a b m n o r j h = same_paths width rel a b (record { one = m; other = n; apart = o; related = r }) (start_path j) (record { start = h; letters = tt })

-- and the same targets
pub same_targets : (width : ℕ) (rel : ℕ → ℕ → Type 0) (a b : Part) → IsMinimal width a → IsMinimal width b → IsOneToOne rel → AreRelated width rel a b → (q l : ℕ) → q < length a.outs → l < width → slice_index a.rows (q * width + l) ≡ slice_index b.rows (q * width + l)
same_targets width rel a b m n o r q l h k =
    ap (λ x. slice_index a.rows (x * width + l)) (sym (home width a m q h))
    ∙ sym (after_longer width a p (l ∷ []))
    ∙ same_paths width rel a b t (longer p (l ∷ [])) (longer_valid a.starts width p (l ∷ []) (m.numbered.valid q h) (k, tt))
    ∙ after_longer width b p (l ∷ [])
    ∙ ap (λ x. slice_index b.rows (x * width + l)) (sym (same_paths width rel a b t p (m.numbered.valid q h)) ∙ home width a m q h)
  where
    t : Twins width rel a b
    t = record { one = m; other = n; apart = o; related = r }

    p : Path
    p = path_at m.numbered.paths q

-- and related outputs
pub related_outs : (width : ℕ) (rel : ℕ → ℕ → Type 0) (a b : Part) → IsMinimal width a → IsMinimal width b → IsOneToOne rel → AreRelated width rel a b → (q : ℕ) → q < length a.outs → rel (slice_index a.outs q) (slice_index b.outs q)
related_outs width rel a b m n o r q h = subst (λ x. rel (slice_index a.outs x) (slice_index b.outs q)) (home width a m q h)
    (subst (λ x. rel (slice_index a.outs (after width a p)) (slice_index b.outs x)) (sym (same_paths width rel a b t p (m.numbered.valid q h)) ∙ home width a m q h) (related_at width rel a b r p (m.numbered.valid q h)))
  where
    t : Twins width rel a b
    t = record { one = m; other = n; apart = o; related = r }

    p : Path
    p = path_at m.numbered.paths q
