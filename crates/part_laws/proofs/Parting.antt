-- What numbers of parts tell: which states are in one part, which lie on loops, and whether the graph is weak.
use Rattle.std.proofs.Common.{◌≡◌, ℕ, ◌+◌, ◌*◌, ◌≤◌, ◌<◌, List, [], ◌∷◌, ◌++◌, length, arith, refl, ◌∙◌, sym, ap, subst}
use Rattle.std.specs.Prelude.{slice_index}
use Rattle.graph_laws.specs.Walks.{go}
use Rattle.graph_laws.proofs.Joining.{go-append}
use Rattle.part_laws.specs.Graphs.{Graph, states, IsWord, IsGraph, Reaches, AreOnePart, IsLooping, IsWeak}
use Rattle.part_laws.specs.Parts.{ArePartNumbers, StepsInside, AreOneColoured}
use Rattle.part_laws.proofs.Walking.{walk_below, word-append, one_part_on}

pub part : List ℕ → ℕ → ℕ
part parts q = slice_index parts q

-- a walk never rises
pub walk_falls : (width : ℕ) (g : Graph) (f : ℕ → ℕ) → IsGraph width g
    → ((q l : ℕ) → q < states g → l < width → f (slice_index g.rows (q * width + l)) ≤ f q) → (q : ℕ) (w : List ℕ) → q < states g → IsWord width w
    → f (go g.rows width q w) ≤ f q
walk_falls width g f s fall q [] h ls = omega arith
walk_falls width g f s fall q (l ∷ w) h ls =
    omega (arith, walk_falls width g f s fall (slice_index g.rows (q * width + l)) w (s.rows_in q l h ls.0) ls.1, fall q l h ls.0)

pub reached_in : (width : ℕ) (g : Graph) → IsGraph width g → (p q : ℕ) → p < states g → Reaches g.rows width p q → q < states g
reached_in width g s p q h r = subst (λ x. x < states g) r.leads (walk_below width g s p r.word h r.letters)

reached_falls : (width : ℕ) (g : Graph) (parts : List ℕ) → IsGraph width g → ArePartNumbers g.rows width (states g) parts → (p q : ℕ) → p < states g
    → Reaches g.rows width p q → slice_index parts q ≤ slice_index parts p
reached_falls width g parts s n p q h r =
    subst (λ x. slice_index parts x ≤ slice_index parts p) r.leads (walk_falls width g (slice_index parts) s n.falling p r.word h r.letters)

-- states of one part have one number
pub one_number : (width : ℕ) (g : Graph) (parts : List ℕ) → IsGraph width g → ArePartNumbers g.rows width (states g) parts → (p q : ℕ) → p < states g
    → q < states g → AreOnePart g.rows width p q → slice_index parts p ≡ slice_index parts q
one_number width g parts s n p q hp hq one = omega (arith, reached_falls width g parts s n p q hp one.there, reached_falls width g parts s n q p hq one.back)

pub step_reaches : (rows : List ℕ) (width q l : ℕ) → l < width → Reaches rows width q (slice_index rows (q * width + l))
step_reaches rows width q l h = record { word = l ∷ []; letters = (h, tt); leads = refl }

-- a part with a step inside has a loop at each state
pub loop_inside : (width : ℕ) (g : Graph) (parts : List ℕ) → IsGraph width g → ArePartNumbers g.rows width (states g) parts → (q : ℕ) → q < states g
    → StepsInside g.rows width (states g) parts q → IsLooping g.rows width q
loop_inside width g parts s n q h o = record {
  word = out.word ++ (o.letter ∷ back.word);
  some = longer out.word o.letter back.word;
  letters = word-append width out.word (o.letter ∷ back.word) out.letters (o.letter_in, back.letters);
  leads = go-append g.rows width q out.word (o.letter ∷ back.word) ∙ ap (λ x. go g.rows width x (o.letter ∷ back.word)) out.leads ∙ back.leads;
}
  where
    target : ℕ
    target = slice_index g.rows (o.from * width + o.letter)

    out : Reaches g.rows width q o.from
    out = (n.one q o.from h o.from_in (sym o.here)).there

    back : Reaches g.rows width target q
    back = (n.one target q (s.rows_in o.from o.letter o.from_in o.letter_in) h o.inside).there

    longer : (v : List ℕ) (l : ℕ) (w : List ℕ) → 0 < length (v ++ (l ∷ w))
    longer [] l w = omega arith
    longer (a ∷ v) l w = omega arith

-- and a loop begins with a step inside
pub inside_loop : (width : ℕ) (g : Graph) (parts : List ℕ) → IsGraph width g → ArePartNumbers g.rows width (states g) parts → (q : ℕ) → q < states g
    → IsLooping g.rows width q → StepsInside g.rows width (states g) parts q
inside_loop width g parts s n q h o = begins o.word o.some o.letters o.leads
  where
    begins : (w : List ℕ) → 0 < length w → IsWord width w → go g.rows width q w ≡ q → StepsInside g.rows width (states g) parts q
    begins [] some ls e = absurd (omega (arith, some))
    begins (l ∷ w) some ls e = record {
      from = q;
      letter = l;
      from_in = h;
      letter_in = ls.0;
      here = refl;
      inside = one_number width g parts s n (slice_index g.rows (q * width + l)) q (s.rows_in q l h ls.0) h
          (record { there = record { word = w; letters = ls.1; leads = e }; back = step_reaches g.rows width q l ls.0 });
    }

-- ---- weakness
pub weak_by_parts : (width : ℕ) (g : Graph) (parts : List ℕ) → IsGraph width g → ArePartNumbers g.rows width (states g) parts → AreOneColoured width g parts
    → IsWeak width g
weak_by_parts width g parts s n c p q hp hq op oq one = c p q hp hq (inside_loop width g parts s n p hp op) (one_number width g parts s n p q hp hq one)

pub parts_of_weak : (width : ℕ) (g : Graph) (parts : List ℕ) → IsGraph width g → ArePartNumbers g.rows width (states g) parts → IsWeak width g
    → AreOneColoured width g parts
parts_of_weak width g parts s n w p q hp hq o e =
    w p q hp hq (loop_inside width g parts s n p hp o)
    (loop_inside width g parts s n q hq (record
    { from = o.from; letter = o.letter; from_in = o.from_in; letter_in = o.letter_in; here = o.here ∙ e; inside = o.inside ∙ e })) (n.one p q hp hq e)

-- states of one number reach each other, if each is in one part with the leader of its number
pub one_by_leaders : (rows : List ℕ) (width states : ℕ) (parts : List ℕ) (leader : ℕ → ℕ)
    → ((q : ℕ) → q < states → AreOnePart rows width q (leader (slice_index parts q)))
    → (p q : ℕ) → p < states → q < states → slice_index parts p ≡ slice_index parts q → AreOnePart rows width p q
one_by_leaders rows width states parts leader led p q hp hq e =
    one_part_on rows width p (leader (slice_index parts q)) q (subst (λ n. AreOnePart rows width p (leader n)) e (led p hp))
    (record { there = (led q hq).back; back = (led q hq).there })
