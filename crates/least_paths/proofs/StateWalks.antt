-- What is explored of the states of a graph: a key is one state, and the least path to a position is the least path to its state.
use Rattle.std.proofs.Common.{◌≡◌, ℕ, ◌+◌, ◌*◌, ◌<◌, List, [], ◌∷◌, length, inl, inr, refl, ◌∙◌, sym, ap, subst}
use Rattle.std.specs.Prelude.{slice_index}
use Rattle.std.specs.List.{AllByRecursion}
use Rattle.std.proofs.lemmas.Bool.{cases_lt}
use Rattle.std.proofs.lemmas.List.{length-map, get_or-map}
use Rattle.std.proofs.lemmas.List.Elements.{recursion_from_All, All-from_recursion}
use Rattle.std.proofs.lemmas.Option.{slice_get_within, get_or_from_slice_get}
use Rattle.graph_laws.specs.Walks.{go}
use Rattle.graph_laws.specs.Paths.{Path, AtMost}
use Rattle.graph_laws.specs.Exploring.{KeyTable, list_at, led, after, IsPath, IsHeavy, position, IsExplored}
use Rattle.graph_laws.proofs.Weighing.{no_heavy_on_states}
use Rattle.canonical_laws.specs.Canonical.{IsPathOf}
use Rattle.canonical_laws.proofs.Diagrams.{read_below, place_within}
use Rattle.part_laws.proofs.ClassExploring.{explored_numbered}
use Rattle.least_paths.specs.Nets.{Net, end_of, IsClosed, IsOrdered, found_net}
use Rattle.least_paths.specs.Arrivals.{IsLeastTo}
use Rattle.least_paths.specs.Searches.{IsSearch, state_key, row_steps, state_at}
use Rattle.least_paths.proofs.PathEnds.{end_in}
use Rattle.least_paths.proofs.LeastPaths.{least_at_most}

-- ---- the graph
pub search_closed : (g : Net) → IsSearch g → IsClosed g
search_closed g h = record {
  starts_in = λ j lt. read_below g.starts g.states j h.starts_in lt;
  targets_in = λ q l q_in l_in. read_below g.rows g.states (q * g.width + l) h.rows_in
      (subst (λ n. q * g.width + l < n) (sym h.count) (place_within q g.states g.width l q_in l_in));
}

-- ---- keys
pub led_state : (g : Net) (q : ℕ) (w : List ℕ) → led (row_steps g).step (state_key q) w ≡ state_key (go g.rows g.width q w)
led_state g q [] = refl
led_state g q (l ∷ w) = led_state g (slice_index g.rows (q * g.width + l)) w

pub after_state : (g : Net) (p : Path) → p.start < length g.starts → after (row_steps g) p ≡ state_key (end_of g p)
after_state g p lt = ap (λ k. led (row_steps g).step k p.word) (get_or-map state_key g.starts p.start 0 [] lt)
    ∙ led_state g (slice_index g.starts p.start) p.word

pub machine_path : (g : Net) (p : Path) → IsPathOf g.starts g.width p → IsPath (row_steps g) p
machine_path g p v = record {
  start = subst (λ n. p.start < n) (sym (length-map g.starts state_key)) v.start;
  letters = All-from_recursion (λ l. l < g.width) p.word v.letters;
}

pub path_back : (g : Net) (p : Path) → IsPath (row_steps g) p → IsPathOf g.starts g.width p
path_back g p v = record {
  start = subst (λ n. p.start < n) (length-map g.starts state_key) v.start;
  letters = recursion_from_All (λ l. l < g.width) p.word v.letters;
}

-- ---- they are never too heavy
pub never_heavy : (g : Net) → IsSearch g → IsHeavy (row_steps g) 16777216 → ⊥
never_heavy g h = no_heavy_on_states (row_steps g) g.states 16777216 (λ k. refl)
    (λ k r. (
      end_of g r.path,
      end_in g (search_closed g h) r.path (path_back g r.path r.valid),
      sym r.leads ∙ after_state g r.path (path_back g r.path r.valid).start,
    ))
    h.few_cells

-- ---- positions
pub found_closed : (g : Net) (limit : ℕ) (k : KeyTable) → IsExplored (row_steps g) limit k → IsClosed (found_net k)
found_closed g limit k e = record {
  starts_in = λ j lt. slice_get_within k.keys (slice_index k.starts j) (list_at (row_steps g).starts j)
      (e.begins j (subst (λ n. j < n) e.starts_count lt));
  targets_in = λ q l q_in l_in. slice_get_within k.keys (slice_index k.rows (q * k.width + l)) ((row_steps g).step (list_at k.keys q) l)
      (e.leads q l q_in l_in);
}

pub found_ordered : (g : Net) (limit : ℕ) (k : KeyTable) → IsExplored (row_steps g) limit k → IsOrdered (found_net k)
found_ordered g limit k e = record {
  closed = found_closed g limit k e;
  numbered = explored_numbered (row_steps g) limit k e k.width (sym e.width);
}

pub starts_count : (g : Net) (limit : ℕ) (k : KeyTable) → IsExplored (row_steps g) limit k → length k.starts ≡ length g.starts
starts_count g limit k e = e.starts_count ∙ length-map g.starts state_key

-- paths of the graph are those of what was explored
pub found_path : (g : Net) (limit : ℕ) (k : KeyTable) → IsExplored (row_steps g) limit k → (p : Path) → IsPathOf g.starts g.width p
    → IsPathOf k.starts k.width p
found_path g limit k e p v = record {
  start = subst (λ n. p.start < n) (sym (starts_count g limit k e)) v.start;
  letters = subst (λ n. AllByRecursion (λ l. l < n) p.word) (sym e.width) v.letters;
}

pub graph_path : (g : Net) (limit : ℕ) (k : KeyTable) → IsExplored (row_steps g) limit k → (p : Path) → IsPathOf k.starts k.width p
    → IsPathOf g.starts g.width p
graph_path g limit k e p v = record {
  start = subst (λ n. p.start < n) (starts_count g limit k e) v.start;
  letters = subst (λ n. AllByRecursion (λ l. l < n) p.word) e.width v.letters;
}

-- the state at the position after a path
pub state_found : (g : Net) (limit : ℕ) (k : KeyTable) → IsExplored (row_steps g) limit k → (p : Path) → IsPathOf g.starts g.width p
    → state_at k (end_of (found_net k) p) ≡ end_of g p
state_found g limit k e p v = ap (λ key. slice_index key 0)
    (get_or_from_slice_get k.keys (position k p) (after (row_steps g) p) [] (e.complete p (machine_path g p v)) ∙ after_state g p v.start)

pub ends_at : (g : Net) (limit : ℕ) (k : KeyTable) → IsExplored (row_steps g) limit k → (i : ℕ) (p : Path) → IsLeastTo (found_net k) i p
    → state_at k i ≡ end_of g p
ends_at g limit k e i p h = ap (state_at k) (sym h.leads) ∙ state_found g limit k e p (graph_path g limit k e p h.valid)

-- ---- the first position of a kind has the least path of all that lead to that kind
pub first_least : (g : Net) (limit : ℕ) (k : KeyTable) → IsExplored (row_steps g) limit k → (P : ℕ → Type 0) (i : ℕ) (p : Path)
    → IsLeastTo (found_net k) i p → ((j : ℕ) → j < i → P (state_at k j) → ⊥) → (y : Path) → IsPathOf g.starts g.width y → P (end_of g y) → AtMost p y
first_least g limit k e P i p h none y v good = least_at_most (found_net k) (found_ordered g limit k e) i p y h (found_path g limit k e y v)
    (elim (cases_lt (end_of (found_net k) y) i) [
      | inl lt ↦ absurd (none (end_of (found_net k) y) lt (subst P (sym (state_found g limit k e y v)) good))
      | inr ge ↦ ge
    ])

-- no path leads to a kind that no position has
pub nowhere : (g : Net) (limit : ℕ) (k : KeyTable) → IsExplored (row_steps g) limit k → (P : ℕ → Type 0)
    → ((i : ℕ) → i < length k.keys → P (state_at k i) → ⊥) → (y : Path) → IsPathOf g.starts g.width y → P (end_of g y) → ⊥
nowhere g limit k e P none y v good = none (end_of (found_net k) y) (end_in (found_net k) (found_closed g limit k e) y (found_path g limit k e y v))
    (subst P (sym (state_found g limit k e y v)) good)
