-- Numbers of parts tell which states are in one part and which lie on loops, whatever the colours are.
use Rattle.std.proofs.Common.{◌≡◌, ℕ, zero, suc, ◌<◌, Bool, true, false, List, [], ◌∷◌, length, slice_index as at, refl, sym, ap, ◌∙◌, subst, arith}
use Rattle.std.specs.List.{slice_index_or}
use Rattle.part_laws.specs.Graphs.{Graph, IsGraph, AreOnePart, IsLooping}
use Rattle.part_laws.specs.Parts.{ArePartNumbers, StepsInside}
use Rattle.part_laws.proofs.Parting.{one_number, loop_inside, inside_loop}
use Rattle.components.specs.Partings.{AreInOrder, AreParts, AreSplit, HasInner, MarksLoops}
use Rattle.components.specs.Walking.{AreSteps}

-- a colour for each state, all no
abbrev no_colours : List ℕ → List ℕ
no_colours [] = []
no_colours (x ∷ xs) = 0 ∷ no_colours xs

as_many : (xs : List ℕ) → length (no_colours xs) ≡ length xs
as_many [] = refl
as_many (x ∷ xs) = ap suc (as_many xs)

all_no : (xs : List ℕ) (q : ℕ) → at (no_colours xs) q < 2
all_no [] q = omega arith
all_no (x ∷ xs) zero = omega arith
all_no (x ∷ xs) (suc q) = all_no xs q

module _ (n : ℕ) (rows : List ℕ) (width : ℕ) (numbers : List ℕ) (steps : AreSteps n rows width) (parts : ArePartNumbers rows width n numbers) where
  -- the rows with these colours
  abbrev graph : Graph
  graph = record { rows = rows; colours = no_colours numbers }

  as_states : n ≡ length (no_colours numbers)
  as_states = sym (as_many numbers ∙ parts.count)

  is_graph : IsGraph width graph
  is_graph = record {
    rows_in = subst (λ k. AreSteps k rows width) as_states steps;
    colours_in = λ q lt. all_no numbers q;
  }

  are_numbers : ArePartNumbers rows width (length (no_colours numbers)) numbers
  are_numbers = subst (λ k. ArePartNumbers rows width k numbers) as_states parts

  within : (q : ℕ) → q < n → q < length (no_colours numbers)
  within q lt = subst (λ k. q < k) as_states lt

  -- states of one part have one number
  pub one_part : (p q : ℕ) → p < n → q < n → AreOnePart rows width p q → at numbers p ≡ at numbers q
  one_part p q lt under one = one_number width graph numbers is_graph are_numbers p q (within p lt) (within q under) one

  -- a state lies on a loop, if a step of its part stays there
  pub on_loop : (q from : ℕ) → q < n → from < n → at numbers from ≡ at numbers q → HasInner rows width numbers from width → IsLooping rows width q
  on_loop q from lt under here inner = loop_inside width graph numbers is_graph are_numbers q (within q lt) (record {
    from = from;
    letter = inner.0;
    from_in = within from under;
    letter_in = inner.1;
    here = here;
    inside = inner.2 ∙ here;
  })

  -- and the step is found from the loop
  pub inner_step : (q : ℕ) → q < n → IsLooping rows width q → StepsInside rows width n numbers q
  inner_step q lt loop = subst (λ k. StepsInside rows width k numbers q) (sym as_states)
      (inside_loop width graph numbers is_graph are_numbers q (within q lt) loop)

-- the marks are those of the parts that loop
pub parts_whole : (n : ℕ) (rows : List ℕ) (width count : ℕ) (numbers : List ℕ) (looping : List Bool) (order : List ℕ) → AreSteps n rows width
    → AreSplit rows width n count numbers → MarksLoops rows width numbers count n looping → AreInOrder n numbers order
    → AreParts rows width n (record { numbers = numbers; looping = looping; order = order })
parts_whole n rows width count numbers looping order steps split marks in_order = record {
  numbers = split.numbers;
  one = one_part n rows width numbers steps split.numbers;
  below = λ q lt. omega (arith, split.below q lt, marks.long);
  each = λ k lt. split.each k (omega (arith, lt, marks.long));
  loops = λ q lt. ((λ e. marked q lt e), (λ loop. found q (inner_step n rows width numbers steps split.numbers q lt loop)));
  order = in_order;
}
  where
    marked : (q : ℕ) → q < n → slice_index_or looping (at numbers q) false ≡ true → IsLooping rows width q
    marked q lt e = let one = marks.marked (at numbers q) (split.below q lt) e in
        on_loop n rows width numbers steps split.numbers q one.0 lt one.1 one.2 one.3

    found : (q : ℕ) → StepsInside rows width n numbers q → slice_index_or looping (at numbers q) false ≡ true
    found q step = ap (λ k. slice_index_or looping k false) (sym step.here)
        ∙ marks.marks step.from step.from_in (step.letter, step.letter_in, step.inside ∙ sym step.here)
