-- Words of letters below width, and walks over them.
use Rattle.std.proofs.Common.{◌≡◌, ℕ, zero, suc, ◌+◌, ◌*◌, ◌<◌, List, [], ◌∷◌, ◌++◌, length, arith, refl, ◌∙◌, ap, subst}
use Rattle.std.specs.Prelude.{slice_index}
use Rattle.graph_laws.specs.Walks.{go, copies}
use Rattle.graph_laws.proofs.Joining.{go-append}
use Rattle.part_laws.specs.Graphs.{Graph, states, colour, IsWord, IsGraph, Reaches, AreOnePart, IsLooping, IsWeak}
use Rattle.part_laws.proofs.Turning.{turns, Back, Weak}

-- the map "read the word once"
abbrev pub round : List ℕ → ℕ → List ℕ → ℕ → ℕ
round rows width v q = go rows width q v

pub word-append : (width : ℕ) (v w : List ℕ) → IsWord width v → IsWord width w → IsWord width (v ++ w)
word-append width [] w a b = b
word-append width (l ∷ v) w a b = (a.0, word-append width v w a.1 b)

pub word-copies : (width n : ℕ) (v : List ℕ) → IsWord width v → IsWord width (copies n v)
word-copies width zero v a = tt
word-copies width (suc n) v a = word-append width v (copies n v) a (word-copies width n v a)

pub some_more : (v w : List ℕ) → 0 < length v → 0 < length (v ++ w)
some_more [] w h = absurd (omega (arith, h))
some_more (l ∷ v) w h = omega arith

pub some_before : (v w : List ℕ) → 0 < length w → 0 < length (v ++ w)
some_before [] w h = h
some_before (l ∷ v) w h = omega arith

-- so many copies are so many iterations
pub walk-copies : (rows : List ℕ) (width n : ℕ) (v : List ℕ) (q : ℕ) → go rows width q (copies n v) ≡ turns (round rows width v) n q
unfolding turns
walk-copies rows width zero v q = refl
walk-copies rows width (suc n) v q = go-append rows width q v (copies n v) ∙ walk-copies rows width n v (go rows width q v)

-- walks stay among the states
pub walk_below : (width : ℕ) (g : Graph) → IsGraph width g → (q : ℕ) (w : List ℕ) → q < states g → IsWord width w → go g.rows width q w < states g
walk_below width g s q [] h ls = h
walk_below width g s q (l ∷ w) h ls = walk_below width g s (slice_index g.rows (q * width + l)) w (s.rows_in q l h ls.0) ls.1

pub turned_below : (width : ℕ) (g : Graph) → IsGraph width g → (v : List ℕ) → IsWord width v → (n q : ℕ) → q < states g
    → turns (round g.rows width v) n q < states g
turned_below width g s v ls n q h = subst (λ x. x < states g) (walk-copies g.rows width n v q)
    (walk_below width g s q (copies n v) h (word-copies width n v ls))

-- ---- reaching
pub reaches_by : (rows : List ℕ) (width q : ℕ) (w : List ℕ) → IsWord width w → Reaches rows width q (go rows width q w)
reaches_by rows width q w ls = record { word = w; letters = ls; leads = refl }

pub reaches_on : (rows : List ℕ) (width p q r : ℕ) → Reaches rows width p q → Reaches rows width q r → Reaches rows width p r
reaches_on rows width p q r a b = record {
  word = a.word ++ b.word;
  letters = word-append width a.word b.word a.letters b.letters;
  leads = go-append rows width p a.word b.word
      ∙ ap (λ x. go rows width x b.word) a.leads ∙ b.leads;
}

pub one_part_on : (rows : List ℕ) (width p q r : ℕ) → AreOnePart rows width p q → AreOnePart rows width q r → AreOnePart rows width p r
one_part_on rows width p q r a b = record { there = reaches_on rows width p q r a.there b.there; back = reaches_on rows width r q p b.back a.back }

pub loop_of : (rows : List ℕ) (width : ℕ) (v : List ℕ) (q : ℕ) → IsWord width v → 0 < length v → Back (round rows width v) q → IsLooping rows width q
loop_of rows width v q ls some b = record {
  word = copies (suc b.less) v;
  some = some_more v (copies b.less v) some;
  letters = word-copies width (suc b.less) v ls;
  leads = walk-copies rows width (suc b.less) v q ∙ b.back;
}

pub weak_turns : (width : ℕ) (g : Graph) → IsWeak width g → (v : List ℕ) → IsWord width v → 0 < length v → Weak (round g.rows width v) (colour g) (states g)
weak_turns width g w v ls some = record {
  reaches = Reaches g.rows width;
  by_turns = λ i q. record { word = copies i v; letters = word-copies width i v ls; leads = walk-copies g.rows width i v q };
  joined = λ p q r a b. reaches_on g.rows width p q r a b;
  one_colour = λ p q hp hq a b c d. w p q hp hq (loop_of g.rows width v p ls some a) (loop_of g.rows width v q ls some b) (record { there = c; back = d });
}

pub back_once : (rows : List ℕ) (width q : ℕ) (v : List ℕ) → go rows width q v ≡ q → Back (round rows width v) q
unfolding turns
back_once rows width q v e = record { less = 0; back = e }

pub stays : (rows : List ℕ) (width q : ℕ) (v : List ℕ) (n : ℕ) → go rows width q v ≡ q → turns (round rows width v) n q ≡ q
unfolding turns
stays rows width q v zero e = refl
stays rows width q v (suc n) e = ap (turns (round rows width v) n) e ∙ stays rows width q v n e
