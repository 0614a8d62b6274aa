-- A breakpoint table's integer part is a subset machine over the given table, and its fraction part a breakpoint machine.
use Rattle.std.proofs.Common.{◌≡◌, ℕ, zero, suc, ◌+◌, ◌-◌, ◌*◌, ◌^◌, ◌<◌, true, List, [], ◌∷◌, length, map, arith, refl, ◌∙◌, sym, ap, subst}
use Rattle.std.specs.Prelude.{slice_index, All, Contains, nat_eq, IsTrue}
use Rattle.std.specs.List.{slice_index_or, list_any, Any}
use Rattle.std.proofs.lemmas.Bool.{eqb-true, eq-eqb}
use Rattle.std.proofs.lemmas.List.{length-map}
use Rattle.std.proofs.lemmas.List.Folds.{Any-from_list_any, list_any_at}
use Rattle.std.proofs.lemmas.List.Elements.{All-contains, All-get_or, recursion_from_All}
use Rattle.std.proofs.lemmas.Option.{slice_get_within, get_or_from_slice_get}
use Rattle.canonical_laws.proofs.Diagrams.{read_below}
use Rattle.graph_laws.specs.Paths.{Path, path_at}
use Rattle.graph_laws.specs.Exploring.{Steps, KeyTable, list_at, led, led_by, after, IsPath, IsExplored}
use Rattle.lash_model.specs.Tables.{Table, letters, ints, fracs, out_bound, IsTable}
use Rattle.subset_build.specs.Projection.{with_digit, kept, int_transitions, step_of_set, is_rising_in, subsets}
use Rattle.subset_build.proofs.Targets.{IsTargetOf, below_from_proper, int_moves}
use Rattle.subset_build.proofs.RisingSets.{filter_range}
use Rattle.breakpoint_laws.specs.Breakpoints.{frac_transitions, states_of, owing_of, refilled, step_of_key, breakpoints, entries_of_set, entry_key, owing_colour}
use Rattle.breakpoint_laws.specs.Breakpoints.{IsBreakpointTable}
use Rattle.breakpoint_laws.proofs.Machines.{Came, Breakpoints}
use Rattle.breakpoint_laws.proofs.SubsetWalks.{Subsets}
use Rattle.breakpoint_laws.proofs.Entries.{Entry, Projected}
use Rattle.breakpoint_laws.proofs.KeptParts.{clamp, clamp_small}
use Rattle.breakpoint_laws.proofs.TrackSettings.{setting}
use Rattle.breakpoint_laws.proofs.TrackLetters.{track_setting, keep_of, digit_of, keep_below, digit_small, int_target, int_joined, frac_target, frac_joined}
use Rattle.breakpoint_laws.proofs.TableGraphs.{frac_graph, int_graph, rows_graph}
use Rattle.breakpoint_laws.proofs.Keys.{IsFine, fine_entry, fine_led, states_from, states_into, owed_from, owed_into, states-key_of, step_into, step_from}

-- a table, its track, and the breakpoint table
pub record Given (t : Table) (track limit : ℕ) (u : Table) : Type 0 where
  pub table : IsTable t
  pub made : IsTable u
  pub track_in : track < t.tracks
  pub some : 0 < fracs t
  pub is : IsBreakpointTable t track limit u

pub made_letters : (t : Table) (track limit : ℕ) (u : Table) → Given t track limit u → letters u ≡ t.base ^ kept t
made_letters t track limit u g = ap (λ b. b ^ u.tracks) g.is.base_is ∙ ap (λ m. t.base ^ m) g.is.tracks_are

-- ---- explored tables
key_at_step : (m : Steps) (limit : ℕ) (k : KeyTable) → IsExplored m limit k → (c l : ℕ) → c < length k.keys → l < m.width
    → list_at k.keys (slice_index k.rows (c * m.width + l)) ≡ m.step (list_at k.keys c) l
key_at_step m limit k e c l inside small = ap (λ w. list_at k.keys (slice_index k.rows (c * w + l))) (sym e.width)
    ∙ get_or_from_slice_get k.keys (slice_index k.rows (c * k.width + l)) (m.step (list_at k.keys c) l) []
    (e.leads c l inside (subst (λ w. l < w) (sym e.width) small))

key_at_start : (m : Steps) (limit : ℕ) (k : KeyTable) → IsExplored m limit k → (j : ℕ) → j < length m.starts
    → list_at k.keys (slice_index k.starts j) ≡ list_at m.starts j
key_at_start m limit k e j inside = get_or_from_slice_get k.keys (slice_index k.starts j) (list_at m.starts j) [] (e.begins j inside)

start_within : (m : Steps) (limit : ℕ) (k : KeyTable) → IsExplored m limit k → (j : ℕ) → j < length m.starts → slice_index k.starts j < length k.keys
start_within m limit k e j inside = slice_get_within k.keys (slice_index k.starts j) (list_at m.starts j) (e.begins j inside)

-- a row of the table that is made
made_step : (t : Table) (track limit : ℕ) (u : Table) → Given t track limit u → (rows : List ℕ) (c l : ℕ) → l < t.base ^ kept t
    → slice_index rows (c * letters u + clamp (letters u) l) ≡ slice_index rows (c * t.base ^ kept t + l)
made_step t track limit u g rows c l small = ap (λ m. slice_index rows (c * m + clamp m l)) (made_letters t track limit u g)
    ∙ ap (λ k. slice_index rows (c * t.base ^ kept t + k)) (clamp_small (t.base ^ kept t) l small)

unfoldable pub IsIn : (t : Table) (track limit : ℕ) (u : Table) → Given t track limit u → ℕ → ℕ → Type 0
IsIn t track limit u g c q = Contains (list_at g.is.found.keys c) q

set_below : (t : Table) (track limit : ℕ) (u : Table) (g : Given t track limit u) (c : ℕ) → c < ints u → All (λ q. q < ints t) (list_at g.is.found.keys c)
set_below t track limit u g c lt =
    below_from_proper 0 (ints t) (list_at g.is.found.keys c)
    (All-get_or (λ k. IsTrue (is_rising_in 0 (ints t) k)) g.is.found.keys c [] (subst (λ m. c < m) g.is.states lt) g.is.explored.first_part.proper)

int_key : (t : Table) (track limit : ℕ) (u : Table) (g : Given t track limit u) (c l : ℕ) → c < ints u → l < t.base ^ kept t
    → list_at g.is.found.keys ((int_graph u g.made).step c l) ≡ step_of_set (int_transitions t) track (list_at g.is.found.keys c) l
unfolding int_graph rows_graph
int_key t track limit u g c l inside small = ap (list_at g.is.found.keys) (made_step t track limit u g u.rows c l small
    ∙ ap (λ rows. slice_index rows (c * t.base ^ kept t + l)) g.is.rows_are)
    ∙ key_at_step (subsets (int_transitions t) track g.is.sets) limit g.is.found g.is.explored.first_part c l (subst (λ m. c < m) g.is.states inside) small

int_subsets : (t : Table) (track limit : ℕ) (u : Table) (g : Given t track limit u)
    → Subsets (int_graph t g.table) (int_graph u g.made) (track_setting t track g.table g.track_in).keep (track_setting t track g.table g.track_in).width
    (IsIn t track limit u g)
unfolding track_setting setting IsIn keep_of int_graph rows_graph
int_subsets t track limit u g = record { into = into; from = from }
  where
    h : IsTable t
    h = g.table

    into : (c q l : ℕ) → c < ints u → Contains (list_at g.is.found.keys c) q
        → Contains (list_at g.is.found.keys ((int_graph u g.made).step c (keep_of t track l))) ((int_graph t h).step q l)
    into c q l inside m = subst (λ xs. Contains xs ((int_graph t h).step q l))
        (sym (int_key t track limit u g c (keep_of t track l) inside (keep_below t track h g.track_in l)))
        (subst (Contains (step_of_set (int_transitions t) track (list_at g.is.found.keys c) (keep_of t track l))) (sym (int_target t track h g.track_in q l))
        (step_into (int_transitions t) track (keep_of t track l) (list_at g.is.found.keys c) q (digit_of t track l) (int_moves t h) g.track_in (keep_below t track h g.track_in l)
        (set_below t track limit u g c inside) m (digit_small t track h g.track_in l)))

    from : (c q k : ℕ) → c < ints u → k < t.base ^ kept t → Contains (list_at g.is.found.keys ((int_graph u g.made).step c k)) q
        → Came (int_graph t h) (track_setting t track g.table g.track_in).keep (λ q. Contains (list_at g.is.found.keys c) q) k q
    from c q k inside small m = came
        (step_from (int_transitions t) track k (list_at g.is.found.keys c) q (int_moves t h) g.track_in small (set_below t track limit u g c inside)
        (subst (λ xs. Contains xs q) (int_key t track limit u g c k inside small) m))
      where
        came : IsTargetOf (int_transitions t) track k (list_at g.is.found.keys c) q
            → Came (int_graph t h) (track_setting t track g.table g.track_in).keep (λ q. Contains (list_at g.is.found.keys c) q) k q
        came r = record {
          source = r.source;
          letter = with_digit t.base (kept t) track k r.digit;
          member = r.member;
          kept = (track_setting t track g.table g.track_in).join_keep k r.digit small r.digit_below;
          leads = int_joined t track h g.track_in r.source k r.digit small r.digit_below ∙ r.leads;
        }

-- ---- the fraction part
unfoldable pub states_at : (t : Table) (track limit : ℕ) (u : Table) → Given t track limit u → ℕ → ℕ → Type 0
states_at t track limit u g c q = Contains (states_of (list_at g.is.keys.keys c)) q

unfoldable pub owing_at : (t : Table) (track limit : ℕ) (u : Table) → Given t track limit u → ℕ → ℕ → Type 0
owing_at t track limit u g c q = Contains (owing_of (list_at g.is.keys.keys c)) q

pub list_at-map : (f : List ℕ → List ℕ) (ks : List (List ℕ)) (j : ℕ) → j < length ks → list_at (map f ks) j ≡ f (list_at ks j)
list_at-map f [] j h = absurd (omega (arith, h))
list_at-map f (k ∷ ks) zero h = refl
list_at-map f (k ∷ ks) (suc j) h = list_at-map f ks j (omega (arith, h))

pub after_at : (m : Steps) (ps : List Path) (j : ℕ) → j < length ps → list_at (map (after m) ps) j ≡ after m (path_at ps j)
after_at m [] j h = absurd (omega (arith, h))
after_at m (p ∷ ps) zero h = refl
after_at m (p ∷ ps) (suc j) h = after_at m ps j (omega (arith, h))

-- every key of the table is fine
fine_key : (t : Table) (track limit : ℕ) (u : Table) (g : Given t track limit u) (c : ℕ) → c < fracs u → IsFine t (list_at g.is.keys.keys c)
fine_key t track limit u g c lt =
    subst (IsFine t) (sym reached)
    (fine_led t track (list_at starts p.start) p.word g.table g.track_in
    (recursion_from_All (λ l. l < t.base ^ kept t) p.word valid.letters) start_fine)
  where
    starts : List (List ℕ)
    starts = map (entry_key t) g.is.found.keys

    m : Steps
    m = led_by (entry_key t) (breakpoints t track) g.is.found.keys

    e : IsExplored m (limit - g.is.found.cells) g.is.keys
    e = g.is.explored.second_part

    inside : c < length e.paths
    inside = subst (λ n. c < n) (g.is.frac_states ∙ ap length e.reached ∙ length-map e.paths (after m)) lt

    p : Path
    p = path_at e.paths c

    reached : list_at g.is.keys.keys c ≡ led (step_of_key t track) (list_at starts p.start) p.word
    reached = ap (λ ks. list_at ks c) e.reached ∙ after_at m e.paths c inside

    valid : IsPath m p
    valid = All-get_or (IsPath m) e.paths c (record { start = 0; word = [] }) inside e.valid

    start_fine : IsFine t (list_at starts p.start)
    start_fine = subst (IsFine t) (sym
        (list_at-map (entry_key t) g.is.found.keys p.start (subst (λ n. p.start < n) (length-map g.is.found.keys (entry_key t)) valid.start)))
        (fine_entry t (list_at g.is.found.keys p.start))

frac_key : (t : Table) (track limit : ℕ) (u : Table) (g : Given t track limit u) (c l : ℕ) → c < fracs u → l < t.base ^ kept t
    → list_at g.is.keys.keys ((frac_graph u g.made).step c l) ≡ step_of_key t track (list_at g.is.keys.keys c) l
unfolding frac_graph rows_graph
frac_key t track limit u g c l inside small = ap (list_at g.is.keys.keys) (made_step t track limit u g u.frac_rows c l small
    ∙ ap (λ rows. slice_index rows (c * t.base ^ kept t + l)) g.is.frac_rows_are)
    ∙ key_at_step (led_by (entry_key t) (breakpoints t track) g.is.found.keys) (limit - g.is.found.cells) g.is.keys g.is.explored.second_part c l
    (subst (λ m. c < m) g.is.frac_states inside) small

-- colours of keys
none_owing : (os : List ℕ) → owing_colour os ≡ 0 → os ≡ []
none_owing [] e = refl
none_owing (q ∷ qs) e = absurd (omega (arith, e))

some_owing : (os : List ℕ) → ¬ (owing_colour os ≡ 0) → (q : ℕ) × Contains os q
some_owing [] d = absurd (d refl)
some_owing (q ∷ qs) d = (q, (0, omega arith, refl))

refill_all : (os states : List ℕ) → os ≡ [] → refilled os states ≡ states
refill_all [] states e = refl
refill_all (q ∷ qs) states e = absurd (cc)

refill_kept : (os states : List ℕ) (q : ℕ) → Contains os q → refilled os states ≡ os
refill_kept [] states q c = absurd (omega (arith, c.1))
refill_kept (p ∷ ps) states q c = refl

refill_some : (os states : List ℕ) → ¬ (owing_colour os ≡ 0) → refilled os states ≡ os
refill_some [] states d = absurd (d refl)
refill_some (p ∷ ps) states d = refl

colour_is : (t : Table) (track limit : ℕ) (u : Table) (g : Given t track limit u) (c : ℕ) → c < fracs u
    → slice_index u.colours c ≡ owing_colour (owing_of (list_at g.is.keys.keys c))
colour_is t track limit u g c lt = g.is.colours_are c (subst (λ m. c < m) g.is.frac_states lt)

pub frac_breakpoints : (t : Table) (track limit : ℕ) (u : Table) (g : Given t track limit u)
    → Breakpoints (frac_graph t g.table) (frac_graph u g.made) (track_setting t track g.table g.track_in).keep (track_setting t track g.table g.track_in).width
    (states_at t track limit u g) (owing_at t track limit u g)
unfolding track_setting setting states_at owing_at keep_of frac_graph rows_graph
frac_breakpoints t track limit u g = record {
  in_into = in_into;
  in_from = λ c q k inside small m. came c k small (states_of (key c)) q
      (states_from t track k (key c) q h g.track_in small (fine_key t track limit u g c inside)
      (subst (λ xs. Contains (states_of xs) q) (frac_key t track limit u g c k inside small) m));
  in_range = λ c q inside m. All-contains (λ q. q < fracs t) (states_of (key c)) q (fine_key t track limit u g c inside).states_below m;
  fill = λ c q l inside mark m y. owes c q l inside y
      (subst (λ xs. Contains xs q) (sym
      (refill_all (owing_of (key c)) (states_of (key c)) (none_owing (owing_of (key c)) (sym (colour_is t track limit u g c inside) ∙ mark)))) m);
  owing_into = λ c q l inside m y. owes c q l inside y (subst (λ xs. Contains xs q) (sym (refill_kept (owing_of (key c)) (states_of (key c)) q m)) m);
  owing_from = λ c q k inside small unmarked m. came c k small (owing_of (key c)) q
      (subst (λ xs. IsTargetOf (frac_transitions t) track k xs q)
      (refill_some (owing_of (key c)) (states_of (key c)) (λ e. unmarked (colour_is t track limit u g c inside ∙ e)))
      (owed_from t track k (key c) q h g.track_in small (fine_key t track limit u g c inside)
      (subst (λ xs. Contains (owing_of xs) q) (frac_key t track limit u g c k inside small) m)).0);
  owing_in = λ c q inside m. (fine_key t track limit u g c inside).owing_in q m;
  owing_yes = λ c q inside m. (fine_key t track limit u g c inside).owing_yes q m;
  marked = λ c q inside mark m. no_one q (subst (λ xs. Contains xs q) (none_owing (owing_of (key c)) (sym (colour_is t track limit u g c inside) ∙ mark)) m);
  unmarked = λ c inside d. some_owing (owing_of (key c)) (λ e. d (colour_is t track limit u g c inside ∙ e));
}
  where
    h : IsTable t
    h = g.table

    key : ℕ → List ℕ
    key c = list_at g.is.keys.keys c

    no_one : (q : ℕ) → Contains [] q → ⊥
    no_one q c = omega (arith, c.1)

    in_into : (c q l : ℕ) → c < fracs u → Contains (states_of (key c)) q
        → Contains (states_of (key ((frac_graph u g.made).step c (keep_of t track l)))) ((frac_graph t h).step q l)
    in_into c q l inside m = subst (λ xs. Contains (states_of xs) ((frac_graph t h).step q l))
        (sym (frac_key t track limit u g c (keep_of t track l) inside (keep_below t track h g.track_in l)))
        (subst (Contains (states_of (step_of_key t track (key c) (keep_of t track l)))) (sym (frac_target t track h g.track_in q l))
        (states_into t track (keep_of t track l) (key c) q (digit_of t track l) h g.track_in (keep_below t track h g.track_in l)
        (fine_key t track limit u g c inside) m (digit_small t track h g.track_in l)))

    owes : (c q l : ℕ) → c < fracs u → slice_index t.colours ((frac_graph t h).step q l) ≡ 1 → Contains (refilled (owing_of (key c)) (states_of (key c))) q
        → Contains (owing_of (key ((frac_graph u g.made).step c (keep_of t track l)))) ((frac_graph t h).step q l)
    owes c q l inside y m = subst (λ xs. Contains (owing_of xs) ((frac_graph t h).step q l))
        (sym (frac_key t track limit u g c (keep_of t track l) inside (keep_below t track h g.track_in l)))
        (subst (Contains (owing_of (step_of_key t track (key c) (keep_of t track l)))) (sym (frac_target t track h g.track_in q l))
        (owed_into t track (keep_of t track l) (key c) q (digit_of t track l) h g.track_in (keep_below t track h g.track_in l)
        (fine_key t track limit u g c inside) m (digit_small t track h g.track_in l)
        (ap (slice_index t.colours) (sym (frac_target t track h g.track_in q l)) ∙ y)))

    came : (c k : ℕ) → k < t.base ^ kept t → (set : List ℕ) (q : ℕ) → IsTargetOf (frac_transitions t) track k set q
        → Came (frac_graph t h) (track_setting t track g.table g.track_in).keep (λ q. Contains set q) k q
    came c k small set q r = record {
      source = r.source;
      letter = with_digit t.base (kept t) track k r.digit;
      member = r.member;
      kept = (track_setting t track g.table g.track_in).join_keep k r.digit small r.digit_below;
      leads = frac_joined t track h g.track_in r.source k r.digit small r.digit_below ∙ r.leads;
    }

-- ---- from the one part to the other
made_out_key : (t : Table) (track limit : ℕ) (u : Table) (g : Given t track limit u) (c : ℕ) → c < ints u
    → list_at g.is.keys.keys (slice_index u.outs c) ≡ entry_key t (list_at g.is.found.keys c)
made_out_key t track limit u g c lt =
    ap (λ os. list_at g.is.keys.keys (slice_index os c)) g.is.outs_are
    ∙ key_at_start (led_by (entry_key t) (breakpoints t track) g.is.found.keys) (limit - g.is.found.cells) g.is.keys g.is.explored.second_part c
    (subst (λ n. c < n) (sym (length-map g.is.found.keys (entry_key t))) (subst (λ m. c < m) g.is.states lt))
    ∙ list_at-map (entry_key t) g.is.found.keys c (subst (λ m. c < m) g.is.states lt)

pub out_within : (t : Table) (track limit : ℕ) (u : Table) (g : Given t track limit u) (c : ℕ) → c < ints u → slice_index u.outs c < fracs u
out_within t track limit u g c lt =
    subst (λ m. slice_index u.outs c < m) (sym g.is.frac_states)
    (subst (λ os. slice_index os c < length g.is.keys.keys) (sym g.is.outs_are)
    (start_within (led_by (entry_key t) (breakpoints t track) g.is.found.keys) (limit - g.is.found.cells) g.is.keys g.is.explored.second_part c
    (subst (λ n. c < n) (sym (length-map g.is.found.keys (entry_key t))) (subst (λ m. c < m) g.is.states lt))))

bound_is : (m : ℕ) → 0 < m → out_bound m ≡ m
bound_is m h = grind arith

member_from_test : (t : Table) (set : List ℕ) (q : ℕ) → list_any (λ p. nat_eq (slice_index t.outs p) q) set ≡ true → (p : ℕ) × (Contains set p)
    × (slice_index t.outs p ≡ q)
member_from_test t set q h = from (Any-from_list_any (λ p. nat_eq (slice_index t.outs p) q) set h)
  where
    from : Any (λ p. nat_eq (slice_index t.outs p) q ≡ true) set → (p : ℕ) × (Contains set p) × (slice_index t.outs p ≡ q)
    from a = (a.1, (a.0, a.2, a.3), eqb-true (slice_index t.outs a.1) q a.4)

pub table_projected : (t : Table) (track limit : ℕ) (u : Table) (g : Given t track limit u)
    → Projected (track_setting t track g.table g.track_in) (int_graph t g.table) (frac_graph t g.table) (int_graph u g.made) (frac_graph u g.made)
    (slice_index t.outs) (slice_index u.outs) (IsIn t track limit u g) (states_at t track limit u g) (owing_at t track limit u g)
unfolding IsIn states_at frac_graph int_graph rows_graph
table_projected t track limit u g = record {
  integers = int_subsets t track limit u g;
  breaks = frac_breakpoints t track limit u g;
  out_below = out_within t track limit u g;
  entry_into = entry_into;
  entry_from = entry_from;
}
  where
    set_at : ℕ → List ℕ
    set_at c = list_at g.is.found.keys c

    states_are : (c : ℕ) → c < ints u → states_of (list_at g.is.keys.keys (slice_index u.outs c)) ≡ entries_of_set t (set_at c)
    states_are c lt = ap states_of (made_out_key t track limit u g c lt) ∙ states-key_of (entries_of_set t (set_at c)) []

    entry_into : (c p : ℕ) → c < ints u → Contains (set_at c) p → Contains (states_of (list_at g.is.keys.keys (slice_index u.outs c))) (slice_index t.outs p)
    entry_into c p lt m = subst (λ xs. Contains xs (slice_index t.outs p)) (sym (states_are c lt))
        ((filter_range (λ q. list_any (λ p. nat_eq (slice_index t.outs p) q) (set_at c)) (fracs t)).complete (slice_index t.outs p) (
          out_small,
          list_any_at (λ p. nat_eq (slice_index t.outs p) out) (set_at c) m.0 p m.1
              (eq-eqb (slice_index t.outs (slice_index_or (set_at c) m.0 p)) out (ap (slice_index t.outs) m.2)),
        ))
      where
        out : ℕ
        out = slice_index t.outs p

        out_small : slice_index t.outs p < fracs t
        out_small = subst (λ b. slice_index t.outs p < b) (bound_is (fracs t) g.some)
            (read_below t.outs (out_bound (fracs t)) p g.table.outs_in (All-contains (λ q. q < ints t) (set_at c) p (set_below t track limit u g c lt) m))

    entry_from : (c q : ℕ) → c < ints u → Contains (states_of (list_at g.is.keys.keys (slice_index u.outs c))) q
        → Entry (slice_index t.outs) (λ p. Contains (set_at c) p) q
    entry_from c q lt m = entered (member_from_test t (set_at c) q
        (All-contains (λ q. (q < fracs t) × (list_any (λ p. nat_eq (slice_index t.outs p) q) (set_at c) ≡ true)) (entries_of_set t (set_at c)) q
        (filter_range (λ q. list_any (λ p. nat_eq (slice_index t.outs p) q) (set_at c)) (fracs t)).sound
        (subst (λ xs. Contains xs q) (states_are c lt) m)).1)
      where
        entered : (p : ℕ) × (Contains (set_at c) p) × (slice_index t.outs p ≡ q) → Entry (slice_index t.outs) (λ p. Contains (set_at c) p) q
        entered r = record { state = r.0; member = r.1; is = r.2 }

-- ---- the set at a sign vector
pub set_key : (t : Table) (track limit : ℕ) (u : Table) (g : Given t track limit u) (s : ℕ) → s < 2 ^ kept t
    → list_at g.is.found.keys (slice_index u.roots s) ≡ list_at g.is.sets s
set_key t track limit u g s lt = ap (λ rs. list_at g.is.found.keys (slice_index rs s)) g.is.roots_are
    ∙ key_at_start (subsets (int_transitions t) track g.is.sets) limit g.is.found g.is.explored.first_part s (subst (λ n. s < n) (sym g.is.are_starts.count) lt)

pub root_below : (t : Table) (track limit : ℕ) (u : Table) (g : Given t track limit u) (s : ℕ) → s < 2 ^ kept t → slice_index u.roots s < ints u
root_below t track limit u g s lt =
    read_below u.roots (ints u) s g.made.roots_in (subst (λ n. s < n) (sym g.made.roots_count) (subst (λ m. s < 2 ^ m) (sym g.is.tracks_are) lt))
