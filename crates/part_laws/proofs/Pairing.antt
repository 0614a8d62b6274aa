-- Pairs of states of two weak graphs: the graph of pairs is weak, and accepts by the truth function of what the operands accept, whatever
-- the numbers of states are.
use Rattle.std.proofs.Common.{◌≡◌, ℕ, zero, suc, ◌+◌, ◌*◌, ◌<◌, Bool, List, [], ◌∷◌, length, arith, refl, ◌∙◌, sym, ap}
use Rattle.std.specs.Prelude.{slice_index, nat_eq, map}
use Rattle.graph_laws.specs.Walks.{go}
use Rattle.canonical_laws.proofs.Diagrams.{same_truth}
use Rattle.part_laws.specs.Graphs.{Graph, states, colour, IsWord, IsGraph, Reaches, AreOnePart, IsLooping, IsWeak}
use Rattle.part_laws.specs.Endings.{accepts_from}
use Rattle.part_laws.specs.Images.{RunsOver, Side, IsPairGraph}
use Rattle.part_laws.proofs.Turning.{turns, Back, on_its_loop}
use Rattle.part_laws.proofs.Walking.{round, walk_below, turned_below}
use Rattle.part_laws.proofs.Accepting.{ending, accepts_ending, ending_on_loop}

pub read_word : (width : ℕ) (p : Graph) (narrow : ℕ) (a : Graph) (read : ℕ → ℕ) → RunsOver width p narrow a read → (w : List ℕ) → IsWord width w
    → IsWord narrow (map read w)
read_word width p narrow a read h [] ls = tt
read_word width p narrow a read h (l ∷ w) ls = (h.read_in l ls.0, read_word width p narrow a read h w ls.1)

some_read : (read : ℕ → ℕ) (w : List ℕ) → 0 < length w → 0 < length (map read w)
some_read read [] h = h
some_read read (l ∷ w) h = omega arith

pub runs_over : (width : ℕ) (p : Graph) (narrow : ℕ) (a : Graph) (read : ℕ → ℕ) → IsGraph width p
    → (h : RunsOver width p narrow a read) (q : ℕ) (w : List ℕ) → q < states p → IsWord width w
    → h.place (go p.rows width q w) ≡ go a.rows narrow (h.place q) (map read w)
runs_over width p narrow a read s h q [] k ls = refl
runs_over width p narrow a read s h q (l ∷ w) k ls = runs_over width p narrow a read s h (slice_index p.rows (q * width + l)) w (s.rows_in q l k ls.0) ls.1
    ∙ ap (λ x. go a.rows narrow x (map read w)) (h.steps q l k ls.0)

turns_over : (width : ℕ) (p : Graph) (narrow : ℕ) (a : Graph) (read : ℕ → ℕ) → IsGraph width p
    → (h : RunsOver width p narrow a read) (q : ℕ) (v : List ℕ) (n : ℕ) → q < states p → IsWord width v
    → h.place (turns (round p.rows width v) n q) ≡ turns (round a.rows narrow (map read v)) n (h.place q)
unfolding turns
turns_over width p narrow a read s h q v zero k ls = refl
turns_over width p narrow a read s h q v (suc n) k ls = turns_over width p narrow a read s h (go p.rows width q v) v n (walk_below width p s q v k ls) ls
    ∙ ap (turns (round a.rows narrow (map read v)) n) (runs_over width p narrow a read s h q v k ls)

-- at the place of the state in which the run of p ends, a has the colour by which it accepts
ends_over : (width : ℕ) (p : Graph) (narrow : ℕ) (a : Graph) (read : ℕ → ℕ) → IsGraph width p → IsGraph narrow a → IsWeak narrow a
    → (h : RunsOver width p narrow a read) (q : ℕ) (u v : List ℕ) → q < states p → IsWord width u → IsWord width v → 0 < length v
    → colour a (h.place (turns (round p.rows width v) (states p) (go p.rows width q u))) ≡ ending narrow a (h.place q) (map read u) (map read v)
ends_over width p narrow a read s sa w h q u v k ul vl some = ap (colour a) moved
    ∙ ending_on_loop narrow a sa w (h.place q) (map read u) (map read v) (h.in_range q k) (read_word width p narrow a read h u ul)
    (read_word width p narrow a read h v vl) (some_read read v some) (states p) (record { less = back.less; back = back_over })
  where
    q1 : ℕ
    q1 = go p.rows width q u

    q1_in : q1 < states p
    q1_in = walk_below width p s q u k ul

    start : ℕ
    start = go a.rows narrow (h.place q) (map read u)

    x : ℕ
    x = turns (round p.rows width v) (states p) q1

    x_in : x < states p
    x_in = turned_below width p s v vl (states p) q1 q1_in

    back : Back (round p.rows width v) x
    back = on_its_loop (round p.rows width v) (states p) (λ y g. walk_below width p s y v g vl) q1 q1_in

    moved : h.place x ≡ turns (round a.rows narrow (map read v)) (states p) start
    moved = turns_over width p narrow a read s h q1 v (states p) q1_in vl
        ∙ ap (turns (round a.rows narrow (map read v)) (states p)) (runs_over width p narrow a read s h q u k ul)

    back_over : turns (round a.rows narrow (map read v)) (suc back.less) (turns (round a.rows narrow (map read v)) (states p) start) ≡ turns
        (round a.rows narrow (map read v)) (states p) start
    back_over = ap (turns (round a.rows narrow (map read v)) (suc back.less)) (sym moved)
        ∙ sym (turns_over width p narrow a read s h x v (suc back.less) x_in vl) ∙ ap h.place back.back ∙ moved

reach_over : (width : ℕ) (p : Graph) (narrow : ℕ) (a : Graph) (read : ℕ → ℕ) → IsGraph width p → (h : RunsOver width p narrow a read) (q r : ℕ)
    → q < states p → Reaches p.rows width q r → Reaches a.rows narrow (h.place q) (h.place r)
reach_over width p narrow a read s h q r k o =
    record {
      word = map read o.word;
      letters = read_word width p narrow a read h o.word o.letters;
      leads = sym (runs_over width p narrow a read s h q o.word k o.letters) ∙ ap h.place o.leads;
    }

loop_over : (width : ℕ) (p : Graph) (narrow : ℕ) (a : Graph) (read : ℕ → ℕ) → IsGraph width p → (h : RunsOver width p narrow a read) (q : ℕ) → q < states p
    → IsLooping p.rows width q → IsLooping a.rows narrow (h.place q)
loop_over width p narrow a read s h q k o =
    record {
      word = map read o.word;
      some = some_read read o.word o.some;
      letters = read_word width p narrow a read h o.word o.letters;
      leads = sym (runs_over width p narrow a read s h q o.word k o.letters) ∙ ap h.place o.leads;
    }

colour_over : (width : ℕ) (p : Graph) (narrow : ℕ) (a : Graph) (read : ℕ → ℕ) → IsGraph width p → IsWeak narrow a
    → (h : RunsOver width p narrow a read) (q r : ℕ) → q < states p → r < states p → IsLooping p.rows width q → IsLooping p.rows width r
    → AreOnePart p.rows width q r → colour a (h.place q) ≡ colour a (h.place r)
colour_over width p narrow a read s w h q r kq kr lq lr one =
    w (h.place q) (h.place r) (h.in_range q kq) (h.in_range r kr) (loop_over width p narrow a read s h q kq lq) (loop_over width p narrow a read s h r kr lr)
    (record { there = reach_over width p narrow a read s h q r kq one.there; back = reach_over width p narrow a read s h r q kr one.back })

-- the pair graph's colour, as a truth value
pub pairs_weak : (width : ℕ) (p : Graph) (left right : Side) (op : Bool → Bool → Bool) → IsGraph width p → IsWeak left.width left.graph
    → IsWeak right.width right.graph → IsPairGraph width p left right op → IsWeak width p
pairs_weak width p left right op s wl wr h q r kq kr lq lr one = same_truth (colour p q) (colour p r) (s.colours_in q kq) (s.colours_in r kr)
    (h.colours q kq
    ∙ ap (λ x. op (nat_eq x 1) (nat_eq (colour right.graph (h.over_right.place q)) 1))
    (colour_over width p left.width left.graph left.read s wl h.over_left q r kq kr lq lr one)
    ∙ ap (λ x. op (nat_eq (colour left.graph (h.over_left.place r)) 1) (nat_eq x 1))
    (colour_over width p right.width right.graph right.read s wr h.over_right q r kq kr lq lr one)
    ∙ sym (h.colours r kr))

opened : (width : ℕ) (p : Graph) (q : ℕ) (u v : List ℕ) → ending width p q u v ≡ colour p (turns (round p.rows width v) (states p) (go p.rows width q u))
unfolding ending
opened width p q u v = refl

pub pairs_accept : (width : ℕ) (p : Graph) (left right : Side) (op : Bool → Bool → Bool) → IsGraph width p → IsGraph left.width left.graph
    → IsGraph right.width right.graph → IsWeak left.width left.graph → IsWeak right.width right.graph
    → (h : IsPairGraph width p left right op) (q : ℕ) (u v : List ℕ) → q < states p → IsWord width u → IsWord width v → 0 < length v
    → accepts_from width p q u v ≡ op (accepts_from left.width left.graph (h.over_left.place q) (map left.read u) (map left.read v))
    (accepts_from right.width right.graph (h.over_right.place q) (map right.read u) (map right.read v))
pairs_accept width p left right op s sl sr wl wr h q u v k ul vl some =
    accepts_ending width p q u v ∙ ap (λ c. nat_eq c 1) (opened width p q u v) ∙ h.colours x x_in
    ∙ ap (λ c. op (nat_eq c 1) (nat_eq (colour right.graph (h.over_right.place x)) 1))
    (ends_over width p left.width left.graph left.read s sl wl h.over_left q u v k ul vl some)
    ∙ ap (λ c. op (nat_eq (ending left.width left.graph (h.over_left.place q) (map left.read u) (map left.read v)) 1) (nat_eq c 1))
    (ends_over width p right.width right.graph right.read s sr wr h.over_right q u v k ul vl some)
    ∙ ap (λ b. op b (nat_eq (ending right.width right.graph (h.over_right.place q) (map right.read u) (map right.read v)) 1))
    (sym (accepts_ending left.width left.graph (h.over_left.place q) (map left.read u) (map left.read v)))
    ∙ ap (op (accepts_from left.width left.graph (h.over_left.place q) (map left.read u) (map left.read v)))
    (sym (accepts_ending right.width right.graph (h.over_right.place q) (map right.read u) (map right.read v)))
  where
    x : ℕ
    x = turns (round p.rows width v) (states p) (go p.rows width q u)

    x_in : x < states p
    x_in = turned_below width p s v vl (states p) (go p.rows width q u) (walk_below width p s q u k ul)
