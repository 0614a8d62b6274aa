-- Acceptance from a state is the colour of any loop that the run comes to.
use Rattle.std.proofs.Common.{◌≡◌, ℕ, zero, suc, ◌<◌, List, [], ◌++◌, length, arith, ◌∙◌, sym, ap, subst}
use Rattle.std.specs.Prelude.{slice_index, nat_eq}
use Rattle.graph_laws.specs.Walks.{go, copies}
use Rattle.graph_laws.proofs.Joining.{go-append}
use Rattle.canonical_laws.proofs.Diagrams.{same_truth}
use Rattle.part_laws.specs.Graphs.{Graph, states, colour, IsWord, IsGraph, IsWeak}
use Rattle.part_laws.specs.Endings.{ComesBack, accepts_from, AcceptAlike}
use Rattle.part_laws.proofs.Turning.{turns, Back, BackSoon, back_soon, settles}
use Rattle.part_laws.proofs.Walking.{round, walk-copies, walk_below, turned_below, word-append, weak_turns, stays}

-- the colour after the stem and as many iterations as there are states
unfoldable pub ending : ℕ → Graph → ℕ → List ℕ → List ℕ → ℕ
ending width g q u v = colour g (turns (round g.rows width v) (states g) (go g.rows width q u))

-- the two states have one ending of every lasso
unfoldable pub SameEndings : ℕ → Graph → Graph → ℕ → ℕ → Type 0
SameEndings width a b p q = (u v : List ℕ) → IsWord width u → IsWord width v → 0 < length v → ending width a p u v ≡ ending width b q u v

pub at_ending : (width : ℕ) (g : Graph) (q : ℕ) (u v : List ℕ)
    → go g.rows width q (u ++ copies (states g) v) ≡ turns (round g.rows width v) (states g) (go g.rows width q u)
at_ending width g q u v = go-append g.rows width q u (copies (states g) v) ∙ walk-copies g.rows width (states g) v (go g.rows width q u)

pub accepts_ending : (width : ℕ) (g : Graph) (q : ℕ) (u v : List ℕ) → accepts_from width g q u v ≡ nat_eq (ending width g q u v) 1
unfolding ending
accepts_ending width g q u v = ap (λ x. nat_eq (colour g x) 1) (at_ending width g q u v)

pub ending_in : (width : ℕ) (g : Graph) → IsGraph width g → (q : ℕ) (u v : List ℕ) → q < states g → IsWord width u → IsWord width v → ending width g q u v < 2
unfolding ending
ending_in width g s q u v h ul vl = s.colours_in (turns (round g.rows width v) (states g) (go g.rows width q u))
    (turned_below width g s v vl (states g) (go g.rows width q u) (walk_below width g s q u h ul))

pub same_of_alike : (width : ℕ) (a b : Graph) → IsGraph width a → IsGraph width b → (p q : ℕ) → p < states a → q < states b → AcceptAlike width a b p q
    → SameEndings width a b p q
unfolding SameEndings
same_of_alike width a b sa sb p q hp hq alike u v ul vl some =
    same_truth (ending width a p u v) (ending width b q u v) (ending_in width a sa p u v hp ul vl) (ending_in width b sb q u v hq ul vl)
    (sym (accepts_ending width a p u v) ∙ alike u v ul vl some ∙ accepts_ending width b q u v)

pub alike_of_same : (width : ℕ) (a b : Graph) (p q : ℕ) → SameEndings width a b p q → AcceptAlike width a b p q
unfolding SameEndings
alike_of_same width a b p q same u v ul vl some = accepts_ending width a p u v ∙ ap (λ c. nat_eq c 1) (same u v ul vl some) ∙ sym (accepts_ending width b q u v)

-- ---- the laws
-- after as many iterations of a cycle as there are states, the state comes back
pub comes_back : (width : ℕ) (g : Graph) → IsGraph width g → (q : ℕ) (stem cycle : List ℕ) → q < states g → IsWord width stem → IsWord width cycle
    → ComesBack g.rows width (states g) (go g.rows width q (stem ++ copies (states g) cycle)) cycle
comes_back width g s q u v h ul vl = record {
  turns = suc b.less;
  some = omega arith;
  bounded = b.bounded;
  back = subst (λ x. go g.rows width x (copies (suc b.less) v) ≡ x) (sym (at_ending width g q u v)) (walk-copies g.rows width (suc b.less) v x0 ∙ b.back);
}
  where
    x0 : ℕ
    x0 = turns (round g.rows width v) (states g) (go g.rows width q u)

    b : BackSoon (round g.rows width v) (states g) x0
    b = back_soon (round g.rows width v) (states g) (λ x k. walk_below width g s x v k vl) (go g.rows width q u) (walk_below width g s q u h ul)

-- some iterations that lead back, as a map's
pub back_of_turns : (rows : List ℕ) (width q n : ℕ) (v : List ℕ) → 0 < n → go rows width q (copies n v) ≡ q → Back (round rows width v) q
back_of_turns rows width q zero v some e = absurd (omega (arith, some))
back_of_turns rows width q (suc n) v some e = record { less = n; back = sym (walk-copies rows width (suc n) v q) ∙ e }

-- the ending is the colour of the loop
pub ending_on_loop : (width : ℕ) (g : Graph) → IsGraph width g → IsWeak width g → (q : ℕ) (u v : List ℕ) → q < states g → IsWord width u → IsWord width v
    → 0 < length v → (i : ℕ) → Back (round g.rows width v) (turns (round g.rows width v) i (go g.rows width q u))
    → colour g (turns (round g.rows width v) i (go g.rows width q u)) ≡ ending width g q u v
unfolding ending
ending_on_loop width g s w q u v h ul vl some i b =
    settles (round g.rows width v) (colour g) (states g) (weak_turns width g w v vl some) (λ x k. walk_below width g s x v k vl) (go g.rows width q u)
    (walk_below width g s q u h ul) i b

-- a loop of any number of iterations, after any number of iterations, decides acceptance
pub loop_decides : (width : ℕ) (g : Graph) → IsGraph width g → IsWeak width g → (q : ℕ) (stem cycle : List ℕ) (i n : ℕ) → q < states g → IsWord width stem
    → IsWord width cycle → 0 < length cycle → 0 < n
    → go g.rows width (go g.rows width q (stem ++ copies i cycle)) (copies n cycle) ≡ go g.rows width q (stem ++ copies i cycle)
    → accepts_from width g q stem cycle ≡ nat_eq (slice_index g.colours (go g.rows width q (stem ++ copies i cycle))) 1
loop_decides width g s w q u v i n h ul vl some more e = accepts_ending width g q u v
    ∙ ap (λ c. nat_eq c 1) (sym (ending_on_loop width g s w q u v h ul vl some i
    (subst (Back (round g.rows width v)) at (back_of_turns g.rows width (go g.rows width q (u ++ copies i v)) n v more e))))
    ∙ ap (λ x. nat_eq (colour g x) 1) (sym at)
  where
    at : go g.rows width q (u ++ copies i v) ≡ turns (round g.rows width v) i (go g.rows width q u)
    at = go-append g.rows width q u (copies i v) ∙ walk-copies g.rows width i v (go g.rows width q u)

-- two states that accept alike do so after any word
pub same_after : (width : ℕ) (a b : Graph) (p q : ℕ) (y : List ℕ) → IsWord width y → SameEndings width a b p q
    → SameEndings width a b (go a.rows width p y) (go b.rows width q y)
unfolding SameEndings ending
same_after width a b p q y yl same u v ul vl some =
    ap (λ x. colour a (turns (round a.rows width v) (states a) x)) (sym (go-append a.rows width p y u))
    ∙ same (y ++ u) v (word-append width y u yl ul) vl some
    ∙ ap (λ x. colour b (turns (round b.rows width v) (states b) x)) (go-append b.rows width q y u)

-- a looping state accepts the stem [] and its loop by its own colour
pub own_ending : (width : ℕ) (g : Graph) (q : ℕ) (v : List ℕ) → go g.rows width q v ≡ q → ending width g q [] v ≡ colour g q
unfolding ending
own_ending width g q v e = ap (colour g) (stays g.rows width q v (states g) e)
