-- The loops' invariants, kept.
use Rattle.std.proofs.Common.{◌≡◌, ℕ, ◌+◌, ◌*◌, ◌/◌, ◌<◌, ◌≤◌, ◌^◌, false, List, [], ◌∷◌, ◌++◌, length, slice_get, slice_index, IsTrue, if◌then◌else◌, length-append, arith, refl, sym, ap, ◌∙◌, subst, below_more, lt_of_mul-lt-mul_right, add-mul}
use Rattle.std.proofs.Common.{inl, inr}
use Rattle.std.specs.declared.option.Option.TheVariants.{Some}
use Rattle.std.specs.List.{list_any, slice_index_or, AllByRecursion}
use Rattle.std.proofs.lemmas.Bool.{cases_lt}
use Rattle.std.proofs.lemmas.Nat.{mul-add-lt, div-mul-add}
use Rattle.std.proofs.lemmas.List.{get_or_append_left}
use Rattle.std.proofs.lemmas.List.Elements.{All-push, All-nil, recursion_from_All}
use Rattle.std.proofs.lemmas.Option.{slice_get_within, get_or_from_slice_get}
use Rattle.graph_laws.specs.Paths.{Path, Before, AtMost, more, start_path, path_at, IsRising}
use Rattle.graph_laws.specs.Exploring.{Steps, list_at, led, after, IsPath, cells_of, weigh, IsHeavy, KeyTable, position, IsExplored}
use Rattle.graph_laws.specs.Walks.{go}
use Rattle.step_tables.specs.Gathering.{same_list, met, Placed, Begun, Starting, Following, IsLinked}
use Rattle.graph_laws.proofs.PathOrder.{chained, at_most_before, at_most_chained, one_letter_more, last_letter, same_letter_more, longer, no_more, one_then, before_letters}
use Rattle.graph_laws.proofs.Positions.{starts_in, targets_in}
use Rattle.step_tables.proofs.Placing.{led-more, as_many, key_is, stepped, placed_kept, pushed_left, pushed_last, heavy, found_at}

next_start : (n : ℕ) → Before (start_path n) (start_path (n + 1))
next_start n = Rattle.graph_laws.specs.Paths.Before.lower refl (omega arith)

pub start_is : (m : Steps) (n : ℕ) → n < length m.starts → IsPath m (start_path n)
start_is m n lt = record { start = lt; letters = All-nil (λ l. l < m.width) }

begun_kept : (m : Steps) (n : ℕ) (keys new other : List (List ℕ)) (paths more_paths : List Path) (starts : List ℕ) → length keys ≡ length paths → new ≡ keys ++ other → Begun m n keys paths starts → Begun m n new (paths ++ more_paths) starts
begun_kept m n keys new other paths more_paths starts as_long grown b = record {
  count = b.count;
  places = λ j lt. placed_kept keys new other paths more_paths (slice_index starts j) (list_at m.starts j) (start_path j) as_long grown (b.places j lt);
}

pub starting_none : (m : Steps) → Starting m 0 (record { width = m.width; keys = []; cells = 0; starts = []; rows = [] })
starting_none m = record {
  width = refl;
  paths = [];
  found = record { distinct = λ i j d lt lt'. absurd (omega arith); proper = All-nil _; reached = refl; valid = All-nil _; rising = λ i j d lt lt'. absurd (omega arith); weighs = refl };
  begun = record { count = refl; places = λ j lt. absurd (omega arith) };
  behind = All-nil _;
  empty = refl;
}

pub starting_more : (m : Steps) (n : ℕ) (t u : KeyTable) (p : ℕ) → Starting m n t → n < length m.starts → IsTrue (m.is_proper (list_at m.starts n)) → u.keys ≡ met t.keys (list_at m.starts n) → u.cells ≡ (if list_any (same_list (list_at m.starts n)) t.keys then t.cells else t.cells + cells_of m (list_at m.starts n)) → slice_get u.keys p ≡ Some (list_at m.starts n) → u.starts ≡ t.starts ++ p ∷ [] → u.rows ≡ t.rows → u.width ≡ t.width → Starting m (n + 1) u
starting_more m n t u p s lt proper keys cells place starts rows width =
    let st = stepped m t.keys u.keys t.cells u.cells s.paths (start_path n) s.found (start_is m n lt) proper s.behind keys cells in
    let as_long = as_many m t.keys t.cells s.paths s.found in
    let kept = begun_kept m n t.keys u.keys st.more_keys s.paths st.more_paths t.starts as_long st.grown s.begun in
    let last : Placed u.keys (s.paths ++ st.more_paths) p (list_at m.starts n) (start_path n) = record {
      key = place;
      least = st.upto p (start_path 0) (subst (λ k. p < k) (as_many m u.keys u.cells (s.paths ++ st.more_paths) st.found) (slice_get_within u.keys p (list_at m.starts n) place));
    } in
    record {
      width = width ∙ s.width;
      paths = s.paths ++ st.more_paths;
      found = st.found;
      begun = record {
        count = ap length starts ∙ (length-append t.starts (p ∷ []) ∙ omega (arith, s.begun.count));
        places = below_more (λ j. Placed u.keys (s.paths ++ st.more_paths) (slice_index u.starts j) (list_at m.starts j) (start_path j)) n
            (λ j j_in. subst (λ q. Placed u.keys (s.paths ++ st.more_paths) q (list_at m.starts j) (start_path j)) (sym (pushed_left t.starts u.starts p j starts (omega (arith, s.begun.count)))) (kept.places j j_in))
            (subst (λ q. Placed u.keys (s.paths ++ st.more_paths) q (list_at m.starts n) (start_path n)) (sym (pushed_last t.starts u.starts p n starts (sym s.begun.count))) last);
      };
      behind = λ i d i_in. at_most_before (slice_index_or (s.paths ++ st.more_paths) i d) (start_path n) (start_path (n + 1)) (st.upto i d i_in) (next_start n);
      empty = rows ∙ s.empty;
    }

pub following_none : (m : Steps) (t : KeyTable) → Starting m (length m.starts) t → Following m 0 0 t
following_none m t s = record {
  width = s.width;
  paths = s.paths;
  found = s.found;
  begun = s.begun;
  behind = λ some i d lt. before_letters (slice_index_or s.paths i d) (path_at s.paths 0) (length m.starts) 0 (s.behind i d lt);
  upto = omega arith;
  count = ap length s.empty ∙ omega arith;
  places = λ i l i_in l_in lt. absurd (omega (arith, lt, ap length s.empty));
}

-- the path and the key of the next letter
next_is : (m : Steps) (at letter : ℕ) (t : KeyTable) (f : Following m at letter t) → at < length t.keys → letter < m.width → IsPath m (more (path_at f.paths at) letter)
next_is m at letter t f lt l_in =
    let v = f.found.valid at (start_path 0) (subst (λ n. at < n) (as_many m t.keys t.cells f.paths f.found) lt) in
    record { start = v.start; letters = All-push (λ l. l < m.width) (path_at f.paths at).word letter v.letters l_in }

next_key : (m : Steps) (at letter : ℕ) (t : KeyTable) (f : Following m at letter t) → at < length t.keys → m.step (list_at t.keys at) letter ≡ after m (more (path_at f.paths at) letter)
next_key m at letter t f lt = ap (λ k. m.step k letter) (key_is m t.keys t.cells f.paths f.found at [] lt) ∙ sym (led-more m.step (list_at m.starts (path_at f.paths at).start) (path_at f.paths at).word letter)

row_of : (i l at letter w : ℕ) → l < w → letter < w → i * w + l ≡ at * w + letter → (i ≡ at) × (l ≡ letter)
row_of i l at letter w l_in letter_in e =
    let rows : i ≡ at = sym (div-mul-add i w l l_in) ∙ (ap (λ n. n / w) e ∙ div-mul-add at w letter letter_in) in
    (rows, omega (arith, e, ap (λ n. n * w) rows))

row_below : (i l at letter w : ℕ) → letter < w → i * w + l < at * w + letter → i < at + 1
row_below i l at letter w letter_in lt = lt_of_mul-lt-mul_right w (omega (arith, lt, add-mul at 1 w))

pub following_heavy : (m : Steps) (at letter limit : ℕ) (t : KeyTable) → Following m at letter t → at < length t.keys → letter < m.width → list_any (same_list (m.step (list_at t.keys at) letter)) t.keys ≡ false → limit < t.cells + cells_of m (m.step (list_at t.keys at) letter) → IsHeavy m limit
following_heavy m at letter limit t f lt l_in none over =
    let key = next_key m at letter t f lt in
    heavy m t.keys t.cells f.paths (more (path_at f.paths at) letter) limit f.found (next_is m at letter t f lt l_in)
    (subst (λ k. list_any (same_list k) t.keys ≡ false) key none)
    (subst (λ k. limit < t.cells + cells_of m k) key over)

pub starting_heavy : (m : Steps) (n limit : ℕ) (t : KeyTable) → Starting m n t → n < length m.starts → list_any (same_list (list_at m.starts n)) t.keys ≡ false → limit < t.cells + cells_of m (list_at m.starts n) → IsHeavy m limit
starting_heavy m n limit t s lt none over = heavy m t.keys t.cells s.paths (start_path n) limit s.found (start_is m n lt) none over

old_at : (ks : List (List ℕ)) (ps : List Path) (q q' : ℕ) (m : Steps) (l : ℕ) (k k' : List ℕ) (x x' : Path) → q ≡ q' → k' ≡ k → x' ≡ x → Placed ks ps q' (m.step k l) (more x l) → Placed ks ps q (m.step k' l) (more x' l)
old_at ks ps q q' m l k k' x x' e f g d = rw (e, f, g) d

new_at : (ks : List (List ℕ)) (ps : List Path) (rows new : List ℕ) (p : ℕ) (m : Steps) (i l at letter : ℕ) (k : List ℕ) (x : Path) → (i ≡ at) × (l ≡ letter) → new ≡ rows ++ p ∷ [] → length rows ≡ at * m.width + letter → list_at ks at ≡ k → path_at ps at ≡ x → Placed ks ps p (m.step k letter) (more x letter) → Placed ks ps (slice_index new (i * m.width + l)) (m.step (list_at ks i) l) (more (path_at ps i) l)
new_at ks ps rows new p m i l at letter k x row grown count key path d = rw (row.0, row.1, key, path, pushed_last rows new p (at * m.width + letter) grown (sym count)) d

pub following_more : (m : Steps) (at letter : ℕ) (t u : KeyTable) (p : ℕ) → Following m at letter t → at < length t.keys → letter < m.width → IsTrue (m.is_proper (m.step (list_at t.keys at) letter)) → u.keys ≡ met t.keys (m.step (list_at t.keys at) letter) → u.cells ≡ (if list_any (same_list (m.step (list_at t.keys at) letter)) t.keys then t.cells else t.cells + cells_of m (m.step (list_at t.keys at) letter)) → slice_get u.keys p ≡ Some (m.step (list_at t.keys at) letter) → u.rows ≡ t.rows ++ p ∷ [] → u.starts ≡ t.starts → u.width ≡ t.width → Following m at (letter + 1) u
following_more m at letter t u p f lt l_in proper keys cells place rows starts width =
    let c = more (path_at f.paths at) letter in
    let key = next_key m at letter t f lt in
    let st = stepped m t.keys u.keys t.cells u.cells f.paths c f.found (next_is m at letter t f lt l_in)
    (subst (λ k. IsTrue (m.is_proper k)) key proper) (f.behind lt) (subst (λ k. u.keys ≡ met t.keys k) key keys)
    (subst (λ k. u.cells ≡ (if list_any (same_list k) t.keys then t.cells else t.cells + cells_of m k)) key cells) in
    let ps = f.paths ++ st.more_paths in
    let as_long = as_many m t.keys t.cells f.paths f.found in
    let longer_now : length u.keys ≡ length t.keys + length st.more_keys = ap length st.grown ∙ length-append t.keys st.more_keys in
    let same_key : (i : ℕ) → i < length t.keys → list_at u.keys i ≡ list_at t.keys i = λ i i_in. ap (λ ks. list_at ks i) st.grown ∙ get_or_append_left t.keys st.more_keys [] i i_in in
    let same_path : (i : ℕ) → i < length t.keys → path_at ps i ≡ path_at f.paths i = λ i i_in. get_or_append_left f.paths st.more_paths (start_path 0) i (omega (arith, as_long, i_in)) in
    let last : Placed u.keys ps p (m.step (list_at t.keys at) letter) c = record {
      key = place;
      least = st.upto p (start_path 0) (subst (λ k. p < k) (as_many m u.keys u.cells ps st.found) (slice_get_within u.keys p (m.step (list_at t.keys at) letter) place));
    } in
    let old_row : (i l : ℕ) → i < length t.keys → l < m.width → i * m.width + l < length t.rows → Placed u.keys ps (slice_index u.rows (i * m.width + l)) (m.step (list_at u.keys i) l) (more (path_at ps i) l) = λ i l i_in l_in' row.
    old_at u.keys ps (slice_index u.rows (i * m.width + l)) (slice_index t.rows (i * m.width + l)) m l (list_at t.keys i) (list_at u.keys i) (path_at f.paths i) (path_at ps i) (pushed_left t.rows u.rows p (i * m.width + l) rows row) (same_key i i_in) (same_path i i_in)
    (placed_kept t.keys u.keys st.more_keys f.paths st.more_paths (slice_index t.rows (i * m.width + l)) (m.step (list_at t.keys i) l) (more (path_at f.paths i) l) as_long st.grown (f.places i l i_in l_in' row)) in
    record {
      width = width ∙ f.width;
      paths = ps;
      found = st.found;
      begun = subst (λ ss. Begun m (length m.starts) u.keys ps ss) (sym starts) (begun_kept m (length m.starts) t.keys u.keys st.more_keys f.paths st.more_paths t.starts as_long st.grown f.begun);
      behind = λ some i d i_in. subst (λ x. Before (slice_index_or ps i d) (more x (letter + 1))) (sym (same_path at lt)) (at_most_before (slice_index_or ps i d) c (more (path_at f.paths at) (letter + 1)) (st.upto i d i_in) (last_letter (path_at f.paths at) letter (letter + 1) (omega arith)));
      upto = omega (arith, f.upto, longer_now);
      count = ap length rows ∙ (length-append t.rows (p ∷ []) ∙ omega (arith, f.count));
      places = λ i l i_in l_in' row.
          elim (cases_lt (i * m.width + l) (length t.rows)) [
            | inl old ↦ old_row i l (omega (arith, lt, row_below i l at letter m.width l_in (omega (arith, old, f.count)))) l_in' old
            | inr new ↦ new_at u.keys ps t.rows u.rows p m i l at letter (list_at t.keys at) (path_at f.paths at) (row_of i l at letter m.width l_in' l_in (omega (arith, new, f.count, row, ap length rows, length-append t.rows (p ∷ [])))) rows f.count (same_key at lt) (same_path at lt) last
          ];
    }

-- the whole row has been followed
-- a key that is known stays where it is
pub following_known : (m : Steps) (at letter : ℕ) (t u : KeyTable) (p : ℕ) → Following m at letter t → at < length t.keys → letter < m.width → u.keys ≡ t.keys → u.cells ≡ t.cells → slice_get t.keys p ≡ Some (m.step (list_at t.keys at) letter) → u.rows ≡ t.rows ++ p ∷ [] → u.starts ≡ t.starts → u.width ≡ t.width → Following m at (letter + 1) u
following_known m at letter t u p f lt l_in keys cells place rows starts width = following_more m at letter t u p f lt l_in
    (subst (λ x. IsTrue (m.is_proper x)) (get_or_from_slice_get t.keys p (m.step (list_at t.keys at) letter) [] place) (f.found.proper p [] (slice_get_within t.keys p (m.step (list_at t.keys at) letter) place)))
    (keys ∙ sym (ap (λ b. if b then t.keys else t.keys ++ m.step (list_at t.keys at) letter ∷ []) (found_at (m.step (list_at t.keys at) letter) t.keys p place)))
    (cells ∙ sym (ap (λ b. if b then t.cells else t.cells + cells_of m (m.step (list_at t.keys at) letter)) (found_at (m.step (list_at t.keys at) letter) t.keys p place)))
    (ap (λ ks. slice_get ks p) keys ∙ place) rows starts width

pub following_row : (m : Steps) (at : ℕ) (t : KeyTable) → Following m at m.width t → at < length t.keys → Following m (at + 1) 0 t
following_row m at t f lt = record {
  width = f.width;
  paths = f.paths;
  found = f.found;
  begun = f.begun;
  behind = λ some i d i_in. chained (slice_index_or f.paths i d) (more (path_at f.paths at) m.width) (more (path_at f.paths (at + 1)) 0) (f.behind lt i d i_in)
      (one_letter_more (path_at f.paths at) (path_at f.paths (at + 1)) m.width 0 (f.found.rising at (at + 1) (start_path 0) (omega arith) (subst (λ n. at + 1 < n) (as_many m t.keys t.cells f.paths f.found) some)));
  upto = omega (arith, lt);
  count = f.count ∙ omega (arith, add-mul at 1 m.width);
  places = f.places;
}

-- all rows lead on
all_places : (m : Steps) (t : KeyTable) (f : Following m (length t.keys) 0 t) (i l : ℕ) → i < length t.keys → l < m.width → Placed t.keys f.paths (slice_index t.rows (i * m.width + l)) (m.step (list_at t.keys i) l) (more (path_at f.paths i) l)
all_places m t f i l i_in l_in = f.places i l i_in l_in (omega (arith, f.count, mul-add-lt i m.width l (length t.keys) i_in l_in))

word_leads : (m : Steps) (t : KeyTable) (f : Following m (length t.keys) 0 t) (q : ℕ) (k : List ℕ) (x : Path) (w : List ℕ) → AllByRecursion (λ l. l < m.width) w → Placed t.keys f.paths q k x → Placed t.keys f.paths (go t.rows m.width q w) (led m.step k w) (longer x w)
word_leads m t f q k x [] a d = record { key = d.key; least = subst (λ y. AtMost (path_at f.paths q) y) (sym (no_more x)) d.least }
word_leads m t f q k x (l ∷ w) a d =
    let q_in = slice_get_within t.keys q k d.key in
    let next = all_places m t f q l q_in a.0 in
    let same : list_at t.keys q ≡ k = get_or_from_slice_get t.keys q k [] d.key in
    let here : Placed t.keys f.paths (slice_index t.rows (q * m.width + l)) (m.step k l) (more x l) = record {
      key = next.key ∙ ap (λ y. Some (m.step y l)) same;
      least = at_most_chained _ _ _ next.least (same_letter_more (path_at f.paths q) x l d.least);
    } in
    subst (λ y. Placed t.keys f.paths (go t.rows m.width (slice_index t.rows (q * m.width + l)) w) (led m.step (m.step k l) w) y) (one_then x l w)
    (word_leads m t f (slice_index t.rows (q * m.width + l)) (m.step k l) (more x l) w a.1 here)

path_leads : (m : Steps) (t : KeyTable) (f : Following m (length t.keys) 0 t) (p : Path) → IsPath m p → Placed t.keys f.paths (go t.rows m.width (slice_index t.starts p.start) p.word) (after m p) p
path_leads m t f p v = word_leads m t f (slice_index t.starts p.start) (list_at m.starts p.start) (start_path p.start) p.word (recursion_from_All (λ l. l < m.width) p.word v.letters) (f.begun.places p.start v.start)

at_position : (m : Steps) (t : KeyTable) (f : Following m (length t.keys) 0 t) (p : Path) → IsPath m p → Placed t.keys f.paths (position t p) (after m p) p
at_position m t f p v = subst (λ w. Placed t.keys f.paths (go t.rows w (slice_index t.starts p.start) p.word) (after m p) p) (sym f.width) (path_leads m t f p v)

leads_on : (m : Steps) (t : KeyTable) (f : Following m (length t.keys) 0 t) (i l : ℕ) → i < length t.keys → l < t.width → slice_get t.keys (slice_index t.rows (i * t.width + l)) ≡ Some (m.step (list_at t.keys i) l)
leads_on m t f i l i_in l_in =
    subst (λ w. slice_get t.keys (slice_index t.rows (i * w + l)) ≡ Some (m.step (list_at t.keys i) l)) (sym f.width)
    (all_places m t f i l i_in (subst (λ w. l < w) f.width l_in)).key

-- where every key has been followed, the exploration is whole
pub explored : (m : Steps) (limit : ℕ) (t : KeyTable) → Following m (length t.keys) 0 t → t.cells ≤ limit → IsExplored m limit t
explored m limit t f within = record {
  width = f.width;
  distinct = f.found.distinct;
  proper = f.found.proper;
  weighs = f.found.weighs;
  within = within;
  starts_count = f.begun.count;
  begins = λ j lt. (f.begun.places j lt).key;
  rows_count = f.count ∙ (omega arith ∙ ap (λ w. length t.keys * w) (sym f.width));
  leads = leads_on m t f;
  complete = λ p v. (at_position m t f p v).key;
  paths = f.paths;
  reached = f.found.reached;
  valid = f.found.valid;
  rising = f.found.rising;
  least = λ p v. (at_position m t f p v).least;
}

keys_within : (m : Steps) (ks : List (List ℕ)) → length ks ≤ weigh m ks
keys_within m [] = omega arith
keys_within m (k ∷ ks) = omega (arith, keys_within m ks)

cells_within : (m : Steps) (ks : List (List ℕ)) → length ks * (m.width + 1) ≤ weigh m ks
cells_within m [] = omega arith
cells_within m (k ∷ ks) = omega (arith, cells_within m ks)

-- and its rows and starts are positions
pub linked : (m : Steps) (limit : ℕ) (t : KeyTable) → IsExplored m limit t → limit < 2 ^ 32 → IsLinked t
linked m limit t e small = record {
  few = omega (arith, keys_within m t.keys, e.weighs, e.within, small);
  rows_count = e.rows_count;
  few_cells = subst (λ w. length t.keys * (w + 1) ≤ t.cells) (sym e.width) (omega (arith, cells_within m t.keys, e.weighs));
  starts_in = starts_in m limit t e;
  rows_in = targets_in m limit t e;
}
