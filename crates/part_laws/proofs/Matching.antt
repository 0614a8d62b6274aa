-- Matched states of a weak graph and another accept the same lassos, and the other is weak.
use Rattle.std.proofs.Common.{◌≡◌, ℕ, suc, ◌+◌, ◌*◌, ◌<◌, List, [], ◌∷◌, ◌++◌, length, arith, refl, ◌∙◌, sym, ap, subst, append_assoc}
use Rattle.std.specs.Prelude.{slice_index}
use Rattle.graph_laws.specs.Walks.{go, copies}
use Rattle.graph_laws.proofs.Joining.{go-append}
use Rattle.canonical_laws.specs.Behaviour.{Behaves}
use Rattle.canonical_laws.specs.Canonical.{IsSeparated}
use Rattle.part_laws.specs.Graphs.{Graph, states, IsWord, IsGraph, Reaches, IsLooping, IsWeak}
use Rattle.part_laws.specs.Endings.{AcceptAlike}
use Rattle.part_laws.specs.Ranks.{IsByRank}
use Rattle.part_laws.specs.Matchings.{IsMatching}
use Rattle.part_laws.proofs.Turning.{turns, turns-add, Back, on_its_loop, back_later}
use Rattle.part_laws.proofs.Walking.{round, word-append, word-copies, some_more, some_before, walk-copies, walk_below, stays}
use Rattle.part_laws.proofs.Accepting.{SameEndings, alike_of_same, ending_on_loop}
use Rattle.part_laws.proofs.Pumping.{same_ranks}

pub matched_runs : (width : ℕ) (rel : ℕ → ℕ → Type 0) (a b : Graph) → IsMatching width rel a b → (p q : ℕ) (w : List ℕ) → rel p q → IsWord width w
    → rel (go a.rows width p w) (go b.rows width q w)
matched_runs width rel a b h p q [] k ls = k
matched_runs width rel a b h p q (l ∷ w) k ls =
    matched_runs width rel a b h (slice_index a.rows (p * width + l)) (slice_index b.rows (q * width + l)) w (h.steps p q l k ls.0) ls.1

matched_turns : (width : ℕ) (rel : ℕ → ℕ → Type 0) (a b : Graph) → IsMatching width rel a b → (n p q : ℕ) (v : List ℕ) → rel p q → IsWord width v
    → rel (turns (round a.rows width v) n p) (turns (round b.rows width v) n q)
matched_turns width rel a b h n p q v k ls =
    subst (λ x. rel x (turns (round b.rows width v) n q)) (walk-copies a.rows width n v p)
    (subst (λ y. rel (go a.rows width p (copies n v)) y) (walk-copies b.rows width n v q)
    (matched_runs width rel a b h p q (copies n v) k (word-copies width n v ls)))

pub matched_graph : (width : ℕ) (rel : ℕ → ℕ → Type 0) (a b : Graph) → IsGraph width a → IsMatching width rel a b → IsGraph width b
matched_graph width rel a b s h = record {
  rows_in = λ q l q_in l_in.
      h.second_in (slice_index a.rows (h.source q * width + l)) (slice_index b.rows (q * width + l)) (h.steps (h.source q) q l (h.matched q q_in) l_in);
  colours_in = λ q q_in.
      subst (λ c. c < 2) (h.colours (h.source q) q (h.matched q q_in)) (s.colours_in (h.source q) (h.first_in (h.source q) q (h.matched q q_in)));
}

pub matched_weak : (width : ℕ) (rel : ℕ → ℕ → Type 0) (a b : Graph) → IsGraph width a → IsWeak width a → IsMatching width rel a b → IsWeak width b
matched_weak width rel a b sa w h p q hp hq lp lq one = sym (h.colours s p at_p)
    ∙ w s t (h.first_in s p at_p) (h.first_in t q at_q) s_loops t_loops (record { there = s_to_t; back = t_to_s })
    ∙ h.colours t q at_q
  where
    -- once round p's loop, then to q; and back
    out : List ℕ
    out = lp.word ++ one.there.word

    out_letters : IsWord width out
    out_letters = word-append width lp.word one.there.word lp.letters one.there.letters

    out_some : 0 < length out
    out_some = some_more lp.word one.there.word lp.some

    whole : List ℕ
    whole = out ++ one.back.word

    whole_letters : IsWord width whole
    whole_letters = word-append width out one.back.word out_letters one.back.letters

    out_leads : go b.rows width p out ≡ q
    out_leads = go-append b.rows width p lp.word one.there.word ∙ ap (λ x. go b.rows width x one.there.word) lp.leads ∙ one.there.leads

    whole_leads : go b.rows width p whole ≡ p
    whole_leads = go-append b.rows width p out one.back.word ∙ ap (λ x. go b.rows width x one.back.word) out_leads ∙ one.back.leads

    p0 : ℕ
    p0 = h.source p

    p0_in : p0 < states a
    p0_in = h.first_in p0 p (h.matched p hp)

    -- in a, after as many rounds as there are states
    s : ℕ
    s = turns (round a.rows width whole) (states a) p0

    back : Back (round a.rows width whole) s
    back = on_its_loop (round a.rows width whole) (states a) (λ x k. walk_below width a sa x whole k whole_letters) p0 p0_in

    at_p : rel s p
    at_p = subst (λ y. rel s y) (stays b.rows width p whole (states a) whole_leads)
        (matched_turns width rel a b h (states a) p0 p whole (h.matched p hp) whole_letters)

    t : ℕ
    t = go a.rows width s out

    at_q : rel t q
    at_q = subst (λ y. rel t y) out_leads (matched_runs width rel a b h s p out at_p out_letters)

    again : List ℕ
    again = one.back.word ++ copies back.less whole

    again_letters : IsWord width again
    again_letters = word-append width one.back.word (copies back.less whole) one.back.letters (word-copies width back.less whole whole_letters)

    round_trip : go a.rows width s (out ++ again) ≡ s
    round_trip = ap (λ x. go a.rows width s x) (sym (append_assoc out one.back.word (copies back.less whole)))
        ∙ walk-copies a.rows width (suc back.less) whole s
        ∙ back.back

    s_loops : IsLooping a.rows width s
    s_loops = record {
      word = out ++ again;
      some = some_more out again out_some;
      letters = word-append width out again out_letters again_letters;
      leads = round_trip;
    }

    s_to_t : Reaches a.rows width s t
    s_to_t = record { word = out; letters = out_letters; leads = refl }

    t_back : go a.rows width t again ≡ s
    t_back = sym (go-append a.rows width s out again) ∙ round_trip

    t_to_s : Reaches a.rows width t s
    t_to_s = record { word = again; letters = again_letters; leads = t_back }

    t_loops : IsLooping a.rows width t
    t_loops = record {
      word = again ++ out;
      some = some_before again out out_some;
      letters = word-append width again out again_letters out_letters;
      leads = go-append a.rows width t again out ∙ ap (λ x. go a.rows width x out) t_back;
    }

-- after as many iterations as there are states, or more, a run is on its loop
loop_later : (width : ℕ) (g : Graph) → IsGraph width g → (v : List ℕ) → IsWord width v → (x k n : ℕ) → n ≡ states g + k → x < states g
    → Back (round g.rows width v) (turns (round g.rows width v) n x)
loop_later width g s v vl x k n e h =
    subst (Back (round g.rows width v)) (sym (turns-add (round g.rows width v) (states g) k x) ∙ ap (λ m. turns (round g.rows width v) m x) (sym e))
    (back_later (round g.rows width v) k (turns (round g.rows width v) (states g) x)
    (on_its_loop (round g.rows width v) (states g) (λ y l. walk_below width g s y v l vl) x h))

-- after as many iterations as both graphs have states, both runs are on their loops
pub matched_same : (width : ℕ) (rel : ℕ → ℕ → Type 0) (a b : Graph) → IsGraph width a → IsWeak width a → IsMatching width rel a b → (p q : ℕ) → rel p q
    → SameEndings width a b p q
unfolding SameEndings
matched_same width rel a b sa w h p q k u v ul vl some =
    sym (ending_on_loop width a sa w p u v p_in ul vl some n (loop_later width a sa v vl p1 (states b) n refl (walk_below width a sa p u p_in ul)))
    ∙ h.colours (turns (round a.rows width v) n p1) (turns (round b.rows width v) n q1)
    (matched_turns width rel a b h n p1 q1 v (matched_runs width rel a b h p q u k ul) vl)
    ∙ ending_on_loop width b sb (matched_weak width rel a b sa w h) q u v q_in ul vl some n
    (loop_later width b sb v vl q1 (states a) n (turn (states a) (states b)) (walk_below width b sb q u q_in ul))
  where
    p_in : p < states a
    p_in = h.first_in p q k

    q_in : q < states b
    q_in = h.second_in p q k

    sb : IsGraph width b
    sb = matched_graph width rel a b sa h

    n : ℕ
    n = states a + states b

    p1 : ℕ
    p1 = go a.rows width p u

    q1 : ℕ
    q1 = go b.rows width q u

    turn : (i j : ℕ) → i + j ≡ j + i
    turn i j = omega arith

pub matched_alike : (width : ℕ) (rel : ℕ → ℕ → Type 0) (a b : Graph) → IsGraph width a → IsWeak width a → IsMatching width rel a b → (p q : ℕ) → rel p q
    → AcceptAlike width a b p q
matched_alike width rel a b s w h p q k = alike_of_same width a b p q (matched_same width rel a b s w h p q k)

-- if the colours are by rank, those of the other graph are
pub matched_by_rank : (width : ℕ) (rel : ℕ → ℕ → Type 0) (a b : Graph) → IsGraph width a → IsWeak width a → IsByRank width a → IsMatching width rel a b
    → IsByRank width b
matched_by_rank width rel a b s w r h q q_in = let p : ℕ = h.source q in let k : rel p q = h.matched q q_in in let p_in : p < states a = h.first_in p q k in
    record {
      number = (r p p_in).number;
      rank = same_ranks width a b s (matched_graph width rel a b s h) w (matched_weak width rel a b s w h) p q p_in q_in
          (matched_same width rel a b s w h p q k) (r p p_in).number (r p p_in).rank;
      parity = sym (h.colours p q k) ∙ (r p p_in).parity;
    }

-- if alike states have one match, no two states of the other graph behave alike
pub matched_separated : (width : ℕ) (rel : ℕ → ℕ → Type 0) (a b : Graph) → (h : IsMatching width rel a b)
    → ((p q i j : ℕ) → rel p i → rel q j → Behaves a.rows width a.colours p q → i ≡ j) → IsSeparated b.rows width b.colours
matched_separated width rel a b h least i j hi hj alike = least (h.source i) (h.source j) i j (h.matched i hi) (h.matched j hj) back
  where
    at : (i : ℕ) → i < states b → (w : List ℕ) → IsWord width w
        → slice_index a.colours (go a.rows width (h.source i) w) ≡ slice_index b.colours (go b.rows width i w)
    at i hi w ls = h.colours (go a.rows width (h.source i) w) (go b.rows width i w) (matched_runs width rel a b h (h.source i) i w (h.matched i hi) ls)

    back : (w : List ℕ) → IsWord width w → slice_index a.colours (go a.rows width (h.source i) w) ≡ slice_index a.colours (go a.rows width (h.source j) w)
    back w ls = at i hi w ls ∙ alike w ls ∙ sym (at j hj w ls)
