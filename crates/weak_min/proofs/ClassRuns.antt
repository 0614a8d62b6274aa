-- The class after a word is the class of the state after the word.
use Rattle.std.proofs.Common.{◌≡◌, ℕ, ◌+◌, ◌*◌, ◌^◌, ◌≤◌, ◌<◌, List, [], ◌∷◌, length, arith, refl, ◌∙◌, sym, ap, subst}
use Rattle.std.specs.Prelude.{slice_index, All}
use Rattle.std.specs.List.{AllByRecursion}
use Rattle.std.proofs.Math.Nat.{pow-le-pow_left}
use Rattle.std.proofs.lemmas.List.{get_or-map, get_or_default, length-map}
use Rattle.std.proofs.lemmas.List.Elements.{recursion_from_All}
use Rattle.graph_laws.specs.Walks.{go}
use Rattle.graph_laws.specs.Paths.{Path}
use Rattle.graph_laws.specs.Exploring.{led, after, IsPath}
use Rattle.lash_model.specs.Tables.{letters, ints}
use Rattle.canonical_laws.specs.Behaviour.{Behaves}
use Rattle.canonical_laws.specs.Canonical.{walked}
use Rattle.canonical_laws.proofs.Diagrams.{read_below, place_within}
use Rattle.weak_min.specs.Quotients.{Classed, IsClassed, IsClassing, classing, quotient}

-- there are no more sign vectors than letters
pub few_signs : (base n : ℕ) → 2 ≤ base → base ^ n ≤ 4096 → 2 ^ n ≤ 4096
few_signs base n h k = omega (arith, k, pow-le-pow_left h n)

-- states that behave alike do so after a letter
behaves_next : (rows : List ℕ) (width : ℕ) (outs : List ℕ) (p q l : ℕ) → l < width → Behaves rows width outs p q → Behaves rows width outs (slice_index rows (p * width + l)) (slice_index rows (q * width + l))
behaves_next rows width outs p q l inside b = λ w a. b (l ∷ w) (inside, a)

pub class_in : (c : Classed) → IsClassed c → (q : ℕ) → q < ints c.table → slice_index c.classes q < ints c.table
class_in c h q lt = omega (arith, h.classes.least q lt, lt)

pub root_in : (c : Classed) → IsClassed c → (j : ℕ) → j < length c.table.roots → slice_index c.table.roots j < ints c.table
root_in c h j lt = read_below c.table.roots (ints c.table) j h.table.roots_in lt

pub target_in : (c : Classed) → IsClassed c → (q l : ℕ) → q < ints c.table → l < letters c.table → slice_index c.table.rows (q * letters c.table + l) < ints c.table
target_in c h q l lt inside = read_below c.table.rows (ints c.table) (q * letters c.table + l) h.table.rows_in (subst (λ n. q * letters c.table + l < n) (sym h.table.rows_count) (place_within q (ints c.table) (letters c.table) l lt inside))

pub go_in : (c : Classed) → IsClassed c → (q : ℕ) (w : List ℕ) → q < ints c.table → AllByRecursion (λ l. l < letters c.table) w → go c.table.rows (letters c.table) q w < ints c.table
go_in c h q [] lt a = lt
go_in c h q (l ∷ w) lt a = go_in c h (slice_index c.table.rows (q * letters c.table + l)) w (target_in c h q l lt a.0) a.1

-- a class and its least state go to one class
step_class : (c : Classed) → IsClassed c → (q l : ℕ) → q < ints c.table → l < letters c.table → slice_index c.classes (slice_index c.table.rows (slice_index c.classes q * letters c.table + l)) ≡ slice_index c.classes (slice_index c.table.rows (q * letters c.table + l))
step_class c h q l lt inside = h.classes.coarse (slice_index c.table.rows (slice_index c.classes q * letters c.table + l)) (slice_index c.table.rows (q * letters c.table + l))
    (target_in c h (slice_index c.classes q) l (class_in c h q lt) inside)
    (target_in c h q l lt inside)
    (behaves_next c.table.rows (letters c.table) c.table.outs (slice_index c.classes q) q l inside (h.classes.fine (slice_index c.classes q) q (class_in c h q lt) lt (h.classes.own q lt)))

-- the key of a state's class
abbrev pub class_key : List ℕ → ℕ → List ℕ
class_key classes q = slice_index classes q ∷ []

-- the key after a word
pub led_class : (c : Classed) → IsClassed c → (q : ℕ) (w : List ℕ) → q < ints c.table → AllByRecursion (λ l. l < letters c.table) w → led (quotient (classing c)).step (class_key c.classes q) w ≡ class_key c.classes (go c.table.rows (letters c.table) q w)
led_class c h q [] lt a = refl
led_class c h q (l ∷ w) lt a = ap (λ x. led (quotient (classing c)).step (x ∷ []) w) (step_class c h q l lt a.0) ∙ led_class c h (slice_index c.table.rows (q * letters c.table + l)) w (target_in c h q l lt a.0) a.1

-- a class has the output of each of its states
pub class_out : (c : Classed) → IsClassed c → (q : ℕ) → q < ints c.table → slice_index c.table.outs (slice_index c.classes q) ≡ slice_index c.table.outs q
class_out c h q lt = h.classes.fine (slice_index c.classes q) q (class_in c h q lt) lt (h.classes.own q lt) [] tt

pub start_in : (c : Classed) (p : Path) → IsPath (quotient (classing c)) p → p.start < length c.table.roots
start_in c p v = subst (λ n. p.start < n) (length-map c.table.roots (class_key c.classes)) v.start

path_letters : (c : Classed) (p : Path) → IsPath (quotient (classing c)) p → AllByRecursion (λ l. l < letters c.table) p.word
path_letters c p v = recursion_from_All (λ l. l < letters c.table) p.word v.letters

-- the state after a path
pub walked_in : (c : Classed) → IsClassed c → (p : Path) → IsPath (quotient (classing c)) p → walked c.table.roots c.table.rows (letters c.table) p < ints c.table
walked_in c h p v = go_in c h (slice_index c.table.roots p.start) p.word (root_in c h p.start (start_in c p v)) (path_letters c p v)

-- the key after a path
pub after_class : (c : Classed) → IsClassed c → (p : Path) → IsPath (quotient (classing c)) p → after (quotient (classing c)) p ≡ class_key c.classes (walked c.table.roots c.table.rows (letters c.table) p)
after_class c h p v = ap (λ k. led (quotient (classing c)).step k p.word) (get_or-map (class_key c.classes) c.table.roots p.start 0 [] (start_in c p v)) ∙ led_class c h (slice_index c.table.roots p.start) p.word (root_in c h p.start (start_in c p v)) (path_letters c p v)

-- there are few roots
pub roots_few : (c : Classed) → IsClassed c → length c.table.roots ≤ 4096
roots_few c h = omega (arith, h.table.roots_count, few_signs c.table.base c.table.tracks h.table.shape.base_low h.table.shape.few_letters)

pub more_cells : (n m w limit : ℕ) → (n + m) * (w + 1) ≤ limit → n * (w + 1) ≤ limit
more_cells n m w limit h = grind arith

-- ---- the one part of a diagram is in range
pub classing_in : (c : Classed) → IsClassed c → IsClassing (classing c)
classing_in c h = record {
  rows_count = h.table.rows_count ∙ ap (λ n. n * letters c.table) (sym h.classes.count);
  rows_in = subst (λ n. All (λ q. q < n) c.table.rows) (sym h.classes.count) h.table.rows_in;
  classes_in = λ q d lt. omega (arith, lt, get_or_default c.classes q d 0 lt, h.classes.least q (subst (λ n. q < n) h.classes.count lt));
  starts_in = subst (λ n. All (λ q. q < n) c.table.roots) (sym h.classes.count) h.table.roots_in;
  few_cells = subst (λ n. n * (letters c.table + 1) ≤ 16777216) (sym h.classes.count)
      (more_cells (ints c.table) (length c.table.colours) (letters c.table) 16777216 h.table.shape.few_cells);
  few_starts = omega (arith, roots_few c h);
}
