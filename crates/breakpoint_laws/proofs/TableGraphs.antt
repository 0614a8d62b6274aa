-- The fraction part of a table as a graph, where letters out of range act as the last one: walks over letters in range are those of the
-- rows, acceptance and marked acceptance are those of the table, and weakness is that of the graph.
use Rattle.std.proofs.Common.{◌≡◌, ℕ, zero, suc, ◌+◌, ◌*◌, ◌<◌, true, List, [], ◌∷◌, ◌++◌, length, map, arith, refl, ◌∙◌, sym, ap, subst}
use Rattle.std.specs.Prelude.{slice_index, All, nat_eq}
use Rattle.std.specs.List.{AllByRecursion}
use Rattle.std.proofs.lemmas.Bool.{and_parts, and_from}
use Rattle.graph_laws.specs.Walks.{go, copies}
use Rattle.canonical_laws.proofs.Diagrams.{read_below, place_within}
use Rattle.lash_model.specs.Tables.{Table, letters, ints, fracs, IsTable}
use Rattle.lash_model.specs.Acceptance.{is_clear}
use Rattle.lash_model.proofs.Digits.{power_positive}
use Rattle.part_laws.specs.Graphs.{Reaches, IsLooping, IsWeak}
use Rattle.part_laws.specs.CanonicalMixed.{fraction_graph}
use Rattle.part_laws.proofs.Walking.{word-append, word-copies}
use Rattle.part_laws.proofs.Turning.{turns}
use Rattle.breakpoint_laws.proofs.Graphs as graphs
use Rattle.breakpoint_laws.proofs.Graphs.{Graph, walk, walk-append, walk_below, walk-copies, round, accept}
use Rattle.breakpoint_laws.proofs.Marked.{Clear, MarkedAccept, end_clear}
use Rattle.breakpoint_laws.proofs.KeptParts.{clamp, clamp_small, clamp_below}

pub letters_positive : (t : Table) → IsTable t → 0 < letters t
letters_positive t h = power_positive t.base t.tracks (omega (arith, h.shape.base_low))

-- rows of so many states, whose targets are states
unfoldable pub rows_graph : (rows colours : List ℕ) (width states : ℕ) → 0 < width → length rows ≡ states * width → All (λ q. q < states) rows → Graph
rows_graph rows colours width states some count inside = record {
  states = states;
  step = λ q l. slice_index rows (q * width + clamp width l);
  colour = λ q. slice_index colours q;
  closed = λ q l lt. read_below rows states (q * width + clamp width l) inside
      (subst (λ n. q * width + clamp width l < n) (sym count) (place_within q states width (clamp width l) lt (clamp_below width l some)));
}

-- a walk over any letters is that over the letters they act as
pub walk_clamped : (rows colours : List ℕ) (width states : ℕ) (some : 0 < width) (count : length rows ≡ states * width)
    (inside : All (λ q. q < states) rows) (q : ℕ) (w : List ℕ)
    → walk (rows_graph rows colours width states some count inside) q w ≡ go rows width q (map (clamp width) w)
unfolding walk rows_graph
walk_clamped rows colours width states some count inside q [] = refl
walk_clamped rows colours width states some count inside q (l ∷ w) =
    walk_clamped rows colours width states some count inside (slice_index rows (q * width + clamp width l)) w

pub map-clamp_small : (width : ℕ) (w : List ℕ) → AllByRecursion (λ l. l < width) w → map (clamp width) w ≡ w
map-clamp_small width [] h = refl
map-clamp_small width (l ∷ w) h = ap (λ k. k ∷ map (clamp width) w) (clamp_small width l h.0) ∙ ap (λ ks. l ∷ ks) (map-clamp_small width w h.1)

pub clamped_letters : (width : ℕ) (w : List ℕ) → 0 < width → AllByRecursion (λ l. l < width) (map (clamp width) w)
clamped_letters width [] h = tt
clamped_letters width (l ∷ w) h = (clamp_below width l h, clamped_letters width w h)

-- ---- the two graphs of a table
unfoldable pub frac_graph : (t : Table) → IsTable t → Graph
frac_graph t h = rows_graph t.frac_rows t.colours (letters t) (fracs t) (letters_positive t h) h.frac_rows_count h.frac_rows_in

unfoldable pub int_graph : (t : Table) → IsTable t → Graph
int_graph t h = rows_graph t.rows t.outs (letters t) (ints t) (letters_positive t h) h.rows_count h.rows_in

-- ---- acceptance
map-append_clamp : (width : ℕ) (u v : List ℕ) → map (clamp width) (u ++ v) ≡ map (clamp width) u ++ map (clamp width) v
map-append_clamp width [] v = refl
map-append_clamp width (l ∷ u) v = ap (λ ks. clamp width l ∷ ks) (map-append_clamp width u v)

map-copies_clamp : (width n : ℕ) (v : List ℕ) → map (clamp width) (copies n v) ≡ copies n (map (clamp width) v)
map-copies_clamp width zero v = refl
map-copies_clamp width (suc n) v = map-append_clamp width v (copies n v) ∙ ap (λ w. map (clamp width) v ++ w) (map-copies_clamp width n v)

after_turns : (g : Graph) (q : ℕ) (u v : List ℕ) → turns (round g v) g.states (walk g q u) ≡ walk g q (u ++ copies g.states v)
after_turns g q u v = sym (walk-copies g g.states v (walk g q u)) ∙ sym (walk-append g q u (copies g.states v))

pub accept_is : (t : Table) (h : IsTable t) (q : ℕ) (u v : List ℕ)
    → accept (frac_graph t h) q u v ≡ slice_index t.colours
    (go t.frac_rows (letters t) q (map (clamp (letters t)) u ++ copies (fracs t) (map (clamp (letters t)) v)))
unfolding frac_graph accept rows_graph
accept_is t h q u v = ap (slice_index t.colours) (
    after_turns (frac_graph t h) q u v
    ∙ walk_clamped t.frac_rows t.colours (letters t) (fracs t) (letters_positive t h) h.frac_rows_count h.frac_rows_in q (u ++ copies (fracs t) v)
    ∙ ap (go t.frac_rows (letters t) q) (map-append_clamp (letters t) u (copies (fracs t) v)
    ∙ ap (λ w. map (clamp (letters t)) u ++ w) (map-copies_clamp (letters t) (fracs t) v)))

pub walk_in : (t : Table) (h : IsTable t) (q : ℕ) (w : List ℕ) → AllByRecursion (λ l. l < letters t) w
    → walk (frac_graph t h) q w ≡ go t.frac_rows (letters t) q w
unfolding frac_graph
walk_in t h q w a = walk_clamped t.frac_rows t.colours (letters t) (fracs t) (letters_positive t h) h.frac_rows_count h.frac_rows_in q w
    ∙ ap (go t.frac_rows (letters t) q) (map-clamp_small (letters t) w a)

-- ---- marks
pub yes_is : (c : ℕ) → nat_eq c 1 ≡ true → c ≡ 1
yes_is c h = grind arith

yes_of : (c : ℕ) → c < 2 → ¬ (c ≡ 0) → nat_eq c 1 ≡ true
yes_of zero h d = absurd (d refl)
yes_of (suc zero) h d = refl
yes_of (suc (suc c)) h d = absurd (omega (arith, h))

pub not_both : (c : ℕ) → nat_eq c 1 ≡ true → ¬ (c ≡ 0)
not_both c h e = absurd (omega (arith, yes_is c h, e))

colour_below : (t : Table) → IsTable t → (q : ℕ) → q < fracs t → slice_index t.colours q < 2
colour_below t h q lt = read_below t.colours 2 q h.colours_in lt

pub clear_from : (t : Table) (h : IsTable t) (q : ℕ) (w : List ℕ) → q < fracs t → AllByRecursion (λ l. l < letters t) w → Clear (frac_graph t h) q w
    → ¬ ((frac_graph t h).colour (walk (frac_graph t h) q w) ≡ 0) → is_clear t q w ≡ true
unfolding Clear walk frac_graph rows_graph
clear_from t h q [] lt a c e = yes_of (slice_index t.colours q) (colour_below t h q lt) e
clear_from t h q (l ∷ w) lt a c e = and_from (nat_eq (slice_index t.colours q) 1) (is_clear t (go t.frac_rows (letters t) q (l ∷ [])) w)
    (yes_of (slice_index t.colours q) (colour_below t h q lt) c.0)
    (subst (λ p. is_clear t (slice_index t.frac_rows (q * letters t + p)) w ≡ true) (clamp_small (letters t) l a.0)
    (clear_from t h (slice_index t.frac_rows (q * letters t + clamp (letters t) l)) w ((frac_graph t h).closed q l lt) a.1 c.1 e))

pub clear_to : (t : Table) (h : IsTable t) (q : ℕ) (w : List ℕ) → AllByRecursion (λ l. l < letters t) w → is_clear t q w ≡ true → Clear (frac_graph t h) q w
unfolding Clear frac_graph rows_graph
clear_to t h q [] a c = tt
clear_to t h q (l ∷ w) a c = let both = and_parts (nat_eq (slice_index t.colours q) 1) (is_clear t (go t.frac_rows (letters t) q (l ∷ [])) w) c in (
  not_both (slice_index t.colours q) both.0,
  clear_to t h (slice_index t.frac_rows (q * letters t + clamp (letters t) l)) w a.1
      (subst (λ p. is_clear t (slice_index t.frac_rows (q * letters t + p)) w ≡ true) (sym (clamp_small (letters t) l a.0)) both.1),
)

-- the state after the stem and the iterations
pub turned_is : (t : Table) (h : IsTable t) (q : ℕ) (u v : List ℕ) → AllByRecursion (λ l. l < letters t) u → AllByRecursion (λ l. l < letters t) v
    → turns (round (frac_graph t h) v) (fracs t) (walk (frac_graph t h) q u) ≡ go t.frac_rows (letters t) q (u ++ copies (fracs t) v)
unfolding frac_graph rows_graph
turned_is t h q u v a b = after_turns (frac_graph t h) q u v
    ∙ walk_in t h q (u ++ copies (fracs t) v) (word-append (letters t) u (copies (fracs t) v) a (word-copies (letters t) (fracs t) v b))

pub marked_from : (t : Table) (h : IsTable t) (q : ℕ) (u : List ℕ) (l : ℕ) (v : List ℕ) → q < fracs t → AllByRecursion (λ l. l < letters t) u
    → AllByRecursion (λ l. l < letters t) (l ∷ v) → MarkedAccept (frac_graph t h) q u (l ∷ v)
    → is_clear t (go t.frac_rows (letters t) q (u ++ copies (fracs t) (l ∷ v))) (copies (fracs t) (l ∷ v)) ≡ true
unfolding MarkedAccept frac_graph rows_graph
marked_from t h q u l v lt a b m = subst (λ x. is_clear t x (copies (fracs t) (l ∷ v)) ≡ true) (turned_is t h q u (l ∷ v) a b)
    (clear_from t h x (copies (fracs t) (l ∷ v)) x_below (word-copies (letters t) (fracs t) (l ∷ v) b) m (end_clear (frac_graph t h) q u l v lt m))
  where
    x : ℕ
    x = turns (round (frac_graph t h) (l ∷ v)) (fracs t) (walk (frac_graph t h) q u)

    x_below : x < fracs t
    x_below = subst (λ y. y < fracs t) (sym (after_turns (frac_graph t h) q u (l ∷ v))) (walk_below (frac_graph t h) q (u ++ copies (fracs t) (l ∷ v)) lt)

pub marked_to : (t : Table) (h : IsTable t) (q : ℕ) (u v : List ℕ) → AllByRecursion (λ l. l < letters t) u → AllByRecursion (λ l. l < letters t) v
    → is_clear t (go t.frac_rows (letters t) q (u ++ copies (fracs t) v)) (copies (fracs t) v) ≡ true → MarkedAccept (frac_graph t h) q u v
unfolding MarkedAccept frac_graph rows_graph
marked_to t h q u v a b c = clear_to t h (turns (round (frac_graph t h) v) (fracs t) (walk (frac_graph t h) q u)) (copies (fracs t) v)
    (word-copies (letters t) (fracs t) v b) (subst (λ x. is_clear t x (copies (fracs t) v) ≡ true) (sym (turned_is t h q u v a b)) c)

-- ---- weakness
pub reaches_from : (t : Table) (h : IsTable t) (p q : ℕ) → graphs.Reaches (frac_graph t h) p q → Reaches t.frac_rows (letters t) p q
unfolding frac_graph
reaches_from t h p q r = record {
  word = map (clamp (letters t)) r.word;
  letters = clamped_letters (letters t) r.word (letters_positive t h);
  leads = sym (walk_clamped t.frac_rows t.colours (letters t) (fracs t) (letters_positive t h) h.frac_rows_count h.frac_rows_in p r.word) ∙ r.leads;
}

looping_from : (t : Table) (h : IsTable t) (q : ℕ) → graphs.Looping (frac_graph t h) q → IsLooping t.frac_rows (letters t) q
unfolding frac_graph
looping_from t h q l = record {
  word = clamp (letters t) l.letter ∷ map (clamp (letters t)) l.word;
  some = omega arith;
  letters = clamped_letters (letters t) (l.letter ∷ l.word) (letters_positive t h);
  leads = sym (walk_clamped t.frac_rows t.colours (letters t) (fracs t) (letters_positive t h) h.frac_rows_count h.frac_rows_in q (l.letter ∷ l.word))
      ∙ l.leads;
}

pub weak_from : (t : Table) (h : IsTable t) → IsWeak (letters t) (fraction_graph t) → graphs.IsWeak (frac_graph t h)
unfolding graphs.IsWeak frac_graph rows_graph
weak_from t h weak p q kp kq lp lq pq qp =
    weak p q kp kq (looping_from t h p lp) (looping_from t h q lq) (record { there = reaches_from t h p q pq; back = reaches_from t h q p qp })

pub walk_int : (t : Table) (h : IsTable t) (q : ℕ) (w : List ℕ) → AllByRecursion (λ l. l < letters t) w → walk (int_graph t h) q w ≡ go t.rows (letters t) q w
unfolding int_graph
walk_int t h q w a = walk_clamped t.rows t.outs (letters t) (ints t) (letters_positive t h) h.rows_count h.rows_in q w
    ∙ ap (go t.rows (letters t) q) (map-clamp_small (letters t) w a)

pub walk_int_clamped : (t : Table) (h : IsTable t) (q : ℕ) (w : List ℕ) → walk (int_graph t h) q w ≡ go t.rows (letters t) q (map (clamp (letters t)) w)
unfolding int_graph
walk_int_clamped t h q w = walk_clamped t.rows t.outs (letters t) (ints t) (letters_positive t h) h.rows_count h.rows_in q w
