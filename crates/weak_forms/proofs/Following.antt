-- Starts and steps are met one by one: the invariants of the search, over states in place of keys.
use Rattle.std.proofs.Common.{◌≡◌, ℕ, ◌+◌, ◌*◌, ◌<◌, ◌^◌, [], ◌∷◌, ◌++◌, length, map, slice_get, slice_index, IsTrue, if◌then◌else◌, arith, sym, ap, ◌∙◌, subst}
use Rattle.std.specs.declared.option.Option.TheVariants.{Some}
use Rattle.std.specs.List.{list_any}
use Rattle.std.proofs.lemmas.List.{length-map, get_or-map}
use Rattle.graph_laws.specs.Exploring.{list_at, cells_of, IsExplored}
use Rattle.step_tables.specs.Gathering.{same_list, met, Starting}
use Rattle.step_tables.proofs.Numbering.{starting_none, starting_more, following_none, following_more, following_row, explored}
use Rattle.least_paths.specs.Nets.{Net, target}
use Rattle.least_paths.specs.Searches.{state_key, is_state, row_steps}
use Rattle.least_paths.proofs.StateWalks.{starts_count}
use Rattle.weak_forms.specs.Finding.{Placement, keyed, Meets, AreBegun, AreFollowed, IsRead}

proper_state : (states q : ℕ) → q < states → IsTrue (is_state states (state_key q))
proper_state states q lt = grind arith

zero_cells : (n : ℕ) → 0 ≡ 0 * n
zero_cells n = omega arith

pub begun_none : (g : Net) (p : Placement) → p.width ≡ g.width → p.order ≡ [] → p.starts ≡ [] → p.rows ≡ [] → AreBegun g 0 p
begun_none g p width order starts rows = rw (width, order, starts, rows)
    (subst (λ n. Starting (row_steps g) 0 (record { width = g.width; keys = []; cells = n; starts = []; rows = [] }))
    (zero_cells (g.width + 1)) (starting_none (row_steps g)))

cells_more : (g : Net) (old mid new : Placement) (q p : ℕ) → old.width ≡ g.width → Meets old mid q p → new.order ≡ mid.order → new.width ≡ mid.width
    → length new.order * (new.width + 1) ≡ (if list_any (same_list (state_key q)) (map state_key old.order) then length old.order * (old.width + 1)
    else length old.order * (old.width + 1) + (g.width + 1 + 0))
cells_more g old mid new q p as_wide h order width =
    ap (λ o. length o * (new.width + 1)) order ∙ ap (λ w. length mid.order * (w + 1)) width ∙ h.cells
    ∙ ap (λ w. if list_any (same_list (state_key q)) (map state_key old.order) then length old.order * (old.width + 1)
    else length old.order * (old.width + 1) + (w + 1 + 0)) as_wide

pub begun_more : (g : Net) (at : ℕ) (old mid new : Placement) (q p : ℕ) → AreBegun g at old → at < length g.starts → q ≡ slice_index g.starts at
    → q < g.states → Meets old mid q p → new.order ≡ mid.order → new.starts ≡ mid.starts ++ p ∷ [] → new.rows ≡ mid.rows → new.width ≡ mid.width
    → AreBegun g (at + 1) new
begun_more g at old mid new q p b lt is q_in h order starts rows width =
    let m = row_steps g in
    let key : list_at m.starts at ≡ state_key q = get_or-map state_key g.starts at 0 [] lt ∙ ap state_key (sym is) in
    starting_more m at (keyed old) (keyed new) p b (subst (λ n. at < n) (sym (length-map g.starts state_key)) lt)
    (subst (λ k. IsTrue (is_state g.states k)) (sym key) (proper_state g.states q q_in))
    (subst (λ k. map state_key new.order ≡ met (map state_key old.order) k) (sym key) (ap (map state_key) order ∙ h.keys))
    (subst (λ k. length new.order * (new.width + 1) ≡ (if list_any (same_list k) (map state_key old.order) then length old.order * (old.width + 1)
    else length old.order * (old.width + 1) + cells_of m k)) (sym key) (cells_more g old mid new q p b.width h order width))
    (subst (λ k. slice_get (map state_key new.order) p ≡ Some k) (sym key) (ap (λ o. slice_get (map state_key o) p) order ∙ h.placed))
    (starts ∙ ap (λ s. s ++ p ∷ []) h.starts) (rows ∙ h.rows) (width ∙ h.width)

pub begun_followed : (g : Net) (p : Placement) → AreBegun g (length g.starts) p → AreFollowed g 0 0 p
begun_followed g p b = following_none (row_steps g) (keyed p) (subst (λ n. AreBegun g n p) (sym (length-map g.starts state_key)) b)

pub followed_more : (g : Net) (at letter : ℕ) (old mid new : Placement) (q p : ℕ) → AreFollowed g at letter old → at < length old.order
    → letter < g.width → q ≡ target g (slice_index old.order at) letter → q < g.states → Meets old mid q p → new.order ≡ mid.order
    → new.rows ≡ mid.rows ++ p ∷ [] → new.starts ≡ mid.starts → new.width ≡ mid.width → AreFollowed g at (letter + 1) new
followed_more g at letter old mid new q p f lt l_in is q_in h order rows starts width =
    let m = row_steps g in
    let key : m.step (list_at (keyed old).keys at) letter ≡ state_key q =
    ap (λ k. m.step k letter) (get_or-map state_key old.order at 0 [] lt) ∙ ap state_key (sym is) in
    following_more m at letter (keyed old) (keyed new) p f (subst (λ n. at < n) (sym (length-map old.order state_key)) lt) l_in
    (subst (λ k. IsTrue (is_state g.states k)) (sym key) (proper_state g.states q q_in))
    (subst (λ k. map state_key new.order ≡ met (map state_key old.order) k) (sym key) (ap (map state_key) order ∙ h.keys))
    (subst (λ k. length new.order * (new.width + 1) ≡ (if list_any (same_list k) (map state_key old.order) then length old.order * (old.width + 1)
    else length old.order * (old.width + 1) + cells_of m k)) (sym key) (cells_more g old mid new q p f.width h order width))
    (subst (λ k. slice_get (map state_key new.order) p ≡ Some k) (sym key) (ap (λ o. slice_get (map state_key o) p) order ∙ h.placed))
    (rows ∙ ap (λ s. s ++ p ∷ []) h.rows) (starts ∙ h.starts) (width ∙ h.width)

pub followed_row : (g : Net) (at : ℕ) (p : Placement) → AreFollowed g at g.width p → at < length p.order → AreFollowed g (at + 1) 0 p
followed_row g at p f lt = following_row (row_steps g) at (keyed p) f (subst (λ n. at < n) (sym (length-map p.order state_key)) lt)

pub all_found : (g : Net) (p : Placement) → AreFollowed g (length p.order) 0 p
    → IsExplored (row_steps g) (length p.order * (p.width + 1)) (keyed p)
all_found g p f = explored (row_steps g) (length p.order * (p.width + 1)) (keyed p)
    (subst (λ n. AreFollowed g n 0 p) (sym (length-map p.order state_key)) f) (omega arith)

pub all_read : (g : Net) (p : Placement) → AreFollowed g (length p.order) 0 p → length p.order < 2 ^ 32 → length g.starts < 2 ^ 32 → IsRead p
all_read g p f few few_starts = record {
  few_found = few;
  few_starts = subst (λ n. n < 2 ^ 32) (sym (starts_count g (length p.order * (p.width + 1)) (keyed p) e)) few_starts;
  rows = e.rows_count ∙ ap (λ n. n * p.width) (length-map p.order state_key);
}
  where
    e : IsExplored (row_steps g) (length p.order * (p.width + 1)) (keyed p)
    e = all_found g p f
