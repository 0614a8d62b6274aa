-- The machine of classes: its keys are states, so their cells are no more than those of all states.
use Rattle.std.proofs.Common.{◌≡◌, ℕ, ◌+◌, ◌*◌, ◌≤◌, ◌<◌, List, [], ◌∷◌, length, arith, refl, ◌∙◌, sym, ap, subst}
use Rattle.std.specs.Prelude.{slice_index}
use Rattle.std.specs.List.{AllByRecursion}
use Rattle.std.proofs.lemmas.List.{get_or-map, length-map}
use Rattle.std.proofs.lemmas.List.Elements.{recursion_from_All}
use Rattle.graph_laws.specs.Exploring.{led, after, IsReached, IsHeavy}
use Rattle.graph_laws.proofs.Weighing.{no_heavy_on_states}
use Rattle.canonical_laws.proofs.Diagrams.{read_below, place_within}
use Rattle.weak_min.specs.Quotients.{Classing, IsClassing, quotient, all_cells}

pub class_below : (c : Classing) → IsClassing c → (q : ℕ) → q < length c.classes → slice_index c.classes q < length c.classes
class_below c h q lt = read_below c.classes (length c.classes) q h.classes_in lt

pub start_below : (c : Classing) → IsClassing c → (j : ℕ) → j < length c.starts → slice_index c.starts j < length c.classes
start_below c h j lt = read_below c.starts (length c.classes) j h.starts_in lt

pub place_in : (c : Classing) → IsClassing c → (q l : ℕ) → q < length c.classes → l < c.width → q * c.width + l < length c.rows
place_in c h q l lt inside = subst (λ n. q * c.width + l < n) (sym h.rows_count) (place_within q (length c.classes) c.width l lt inside)

pub target_below : (c : Classing) → IsClassing c → (q l : ℕ) → q < length c.classes → l < c.width → slice_index c.rows (q * c.width + l) < length c.classes
target_below c h q l lt inside = read_below c.rows (length c.classes) (q * c.width + l) h.rows_in (place_in c h q l lt inside)

-- a key is one state
pub record IsOneState (c : Classing) (key : List ℕ) : Type 0 where
  pub state : ℕ
  pub inside : state < length c.classes
  pub is : key ≡ state ∷ []

led_state : (c : Classing) → IsClassing c → (q : ℕ) (w : List ℕ) → q < length c.classes → AllByRecursion (λ l. l < c.width) w → IsOneState c (led (quotient c).step (q ∷ []) w)
led_state c h q [] lt a = record { state = q; inside = lt; is = refl }
led_state c h q (l ∷ w) lt a = led_state c h (slice_index c.classes (slice_index c.rows (q * c.width + l))) w
    (class_below c h (slice_index c.rows (q * c.width + l)) (target_below c h q l lt a.0)) a.1

reached_state : (c : Classing) → IsClassing c → (key : List ℕ) → IsReached (quotient c) key → IsOneState c key
reached_state c h key r = subst (IsOneState c) (sym first ∙ r.leads)
    (led_state c h (slice_index c.classes (slice_index c.starts r.path.start)) r.path.word
    (class_below c h (slice_index c.starts r.path.start) (start_below c h r.path.start start))
    (recursion_from_All (λ l. l < c.width) r.path.word r.valid.letters))
  where
    start : r.path.start < length c.starts
    start = subst (λ n. r.path.start < n) (length-map c.starts (λ q. slice_index c.classes q ∷ [])) r.valid.start

    first : after (quotient c) r.path ≡ led (quotient c).step (slice_index c.classes (slice_index c.starts r.path.start) ∷ []) r.path.word
    first = ap (λ k. led (quotient c).step k r.path.word) (get_or-map (λ q. slice_index c.classes q ∷ []) c.starts r.path.start 0 [] start)

-- classes are never too heavy
pub never_heavy : (c : Classing) → IsClassing c → IsHeavy (quotient c) (all_cells c) → ⊥
never_heavy c h = no_heavy_on_states (quotient c) (length c.classes) (all_cells c) (λ k. refl)
    (λ k r. let x = reached_state c h k r in (x.state, x.inside, x.is)) (le_self (all_cells c))
  where
    le_self : (n : ℕ) → n ≤ n
    le_self n = omega arith
