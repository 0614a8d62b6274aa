-- The breakpoint table accepts a lasso of the kept tracks, by its marks, exactly if the given table accepts some lasso of all tracks over it.
use Rattle.std.proofs.Common.{◌≡◌, ℕ, ◌^◌, ◌<◌, true, List, [], ◌∷◌, ◌++◌, arith, refl, ◌∙◌, sym, ap, subst}
use Rattle.std.specs.Prelude.{slice_index, Contains, ◌↔◌, IsTrue}
use Rattle.std.specs.List.{AllByRecursion}
use Rattle.std.proofs.Math.IntN.{ℤ}
use Rattle.std.proofs.lemmas.List.Elements.{All-contains, recursion_from_All}
use Rattle.graph_laws.specs.Walks.{go, copies}
use Rattle.graph_laws.specs.Exploring.{list_at}
use Rattle.lash_model.specs.Letters.{sign_letter}
use Rattle.lash_model.specs.Lassos.{Lasso, IsLasso}
use Rattle.lash_model.specs.Sets.{IsOfFractions, bound_by_fraction}
use Rattle.lash_model.specs.Standing.{StandsForMixed}
use Rattle.lash_model.specs.Tables.{Table, letters, fracs, IsTable}
use Rattle.lash_model.specs.Acceptance.{accepts_marked, is_clear}
use Rattle.part_laws.specs.Graphs.{IsWeak}
use Rattle.part_laws.specs.CanonicalMixed.{fraction_graph}
use Rattle.subset_build.specs.Projection.{kept, int_transitions, target, IsSignReached}
use Rattle.subset_build.proofs.Closings.{target_reached}
use Rattle.marked_laws.specs.Weakening.{StandsForMarked}
use Rattle.breakpoint_laws.specs.Breakpoints.{IsBreakpointTable, IsLassoAcceptedOver}
use Rattle.breakpoint_laws.proofs.Graphs.{Graph, walk, walk_below}
use Rattle.breakpoint_laws.proofs.Machines.{Lifted, run_of_clear, clear_of_lifted}
use Rattle.breakpoint_laws.proofs.Marked.{MarkedAccept, loop_of_accept, accept_of_loop}
use Rattle.breakpoint_laws.proofs.Projections.{Setting, OverWhole}
use Rattle.breakpoint_laws.proofs.SubsetWalks.{SignClosed, over_of_member, member_of_over}
use Rattle.breakpoint_laws.proofs.Entries.{Entry, Projected}
use Rattle.breakpoint_laws.proofs.KeptParts.{clamp, clamp_small}
use Rattle.breakpoint_laws.proofs.TrackSettings.{setting, lasso_of}
use Rattle.breakpoint_laws.proofs.TableGraphs.{frac_graph, int_graph, rows_graph, weak_from, marked_from, marked_to, walk_int}
use Rattle.breakpoint_laws.proofs.TrackLetters.{track_setting, keep_of, digit_of, digit_small, int_target}
use Rattle.breakpoint_laws.proofs.TrackRuns.{root_of, sign_over, root_begins, entered}
use Rattle.breakpoint_laws.proofs.LassosOver.{completed, lifted_over}
use Rattle.breakpoint_laws.proofs.ProjectedSets.{narrow_of, some_lasso_marked}
use Rattle.breakpoint_laws.proofs.TableParts.{Given, made_letters, set_key, root_below, IsIn, states_at, owing_at, out_within, frac_breakpoints, table_projected}

-- the sign closure
pub closed_signs : (t : Table) (track limit : ℕ) (u : Table) (g : Given t track limit u) (s : ℕ) → s < 2 ^ kept t
    → SignClosed (track_setting t track g.table g.track_in) (int_graph t g.table) (root_of t) s (IsIn t track limit u g (slice_index u.roots s))
unfolding track_setting setting IsIn keep_of
closed_signs t track limit u g s lt = record { reached = reached; begins = begins; closed = closed }
  where
    z : Setting
    z = track_setting t track g.table g.track_in

    set : List ℕ
    set = list_at g.is.found.keys (slice_index u.roots s)

    same : set ≡ list_at g.is.sets s
    same = set_key t track limit u g s lt

    letter : ℕ
    letter = sign_letter t.base (kept t) s

    letter_is : sign_letter t.base (kept t) (clamp (2 ^ kept t) s) ≡ letter
    letter_is = ap (sign_letter t.base (kept t)) (clamp_small (2 ^ kept t) s lt)

    reached : (q : ℕ) → Contains set q → OverWhole z (λ m w. walk (int_graph t g.table) (root_of t m) w) s [] q
    reached q m = over (All-contains (IsSignReached t track s) (list_at g.is.sets s) q ((g.is.are_starts.each s lt).sound) (subst (λ xs. Contains xs q) same m))
      where
        over : IsSignReached t track s q → OverWhole z (λ m w. walk (int_graph t g.table) (root_of t m) w) s [] q
        over r = sign_over t track g.table g.track_in s lt q r

    begins : (m : ℕ) → z.sign_keep m ≡ s → Contains set (root_of t m)
    begins m e = subst (λ xs. Contains xs (root_of t m)) (sym same) ((g.is.are_starts.each s lt).complete (root_of t m) (root_begins t track g.table g.track_in s m e))

    closed : (q l : ℕ) → Contains set q → z.keep l ≡ z.sign_letter s → Contains set ((int_graph t g.table).step q l)
    closed q l m e = subst (λ xs. Contains xs ((int_graph t g.table).step q l)) (sym same)
        ((g.is.are_starts.each s lt).complete ((int_graph t g.table).step q l)
        (target_reached t track s q (digit_of t track l) ((int_graph t g.table).step q l)
        (All-contains (IsSignReached t track s) (list_at g.is.sets s) q ((g.is.are_starts.each s lt).sound) (subst (λ xs. Contains xs q) same m))
        (digit_small t track g.table g.track_in l) (int_target t track g.table g.track_in q l
        ∙ ap (λ k. target (int_transitions t) track k q (digit_of t track l)) (e ∙ letter_is))))

-- a lasso of the kept tracks, in parts
pub record AreIn (width signs s : ℕ) (w up : List ℕ) (l : ℕ) (v : List ℕ) : Type 0 where
  pub sign : s < signs
  pub whole : AllByRecursion (λ l. l < width) w
  pub stem : AllByRecursion (λ l. l < width) up
  pub cycle : AllByRecursion (λ l. l < width) (l ∷ v)

-- the state where the marked table enters its fraction part
unfoldable pub made_entry : (t : Table) (track limit : ℕ) (u : Table) → Given t track limit u → ℕ → List ℕ → ℕ
made_entry t track limit u g s w = slice_index u.outs (walk (int_graph u g.made) (slice_index u.roots s) w)

made_letters_in : (t : Table) (track limit : ℕ) (u : Table) (g : Given t track limit u) (w : List ℕ) → AllByRecursion (λ l. l < t.base ^ kept t) w
    → AllByRecursion (λ l. l < letters u) w
made_letters_in t track limit u g w a = subst (λ m. AllByRecursion (λ l. l < m) w) (sym (made_letters t track limit u g)) a

pub made_entry_below : (t : Table) (track limit : ℕ) (u : Table) (g : Given t track limit u) (s : ℕ) (w : List ℕ) → s < 2 ^ kept t
    → slice_index u.outs (walk (int_graph u g.made) (slice_index u.roots s) w) < fracs u
unfolding int_graph rows_graph
made_entry_below t track limit u g s w lt = out_within t track limit u g (walk (int_graph u g.made) (slice_index u.roots s) w)
    (walk_below (int_graph u g.made) (slice_index u.roots s) w (root_below t track limit u g s lt))

pub marked_is : (t : Table) (track limit : ℕ) (u : Table) (g : Given t track limit u) (s : ℕ) (w up : List ℕ) (l : ℕ) (v : List ℕ)
    → AreIn (t.base ^ kept t) (2 ^ kept t) s w up l v
    → (accepts_marked u (lasso_of s w up (l ∷ v)) ≡ true → MarkedAccept (frac_graph u g.made) (made_entry t track limit u g s w) up (l ∷ v))
    × (MarkedAccept (frac_graph u g.made) (made_entry t track limit u g s w) up (l ∷ v) → accepts_marked u (lasso_of s w up (l ∷ v)) ≡ true)
unfolding made_entry
marked_is t track limit u g s w up l v a = (
  λ e. marked_to u g.made entry up (l ∷ v) stem_in cycle_in
      (subst (λ q. is_clear u (go u.frac_rows (letters u) (slice_index u.outs q) (up ++ copies (fracs u) (l ∷ v))) (copies (fracs u) (l ∷ v)) ≡ true)
      (sym there) e),
  λ m. subst (λ q. is_clear u (go u.frac_rows (letters u) (slice_index u.outs q) (up ++ copies (fracs u) (l ∷ v))) (copies (fracs u) (l ∷ v)) ≡ true)
      there (marked_from u g.made entry up l v entry_below stem_in cycle_in m),
)
  where
    entry : ℕ
    entry = slice_index u.outs (walk (int_graph u g.made) (slice_index u.roots s) w)

    entry_below : entry < fracs u
    entry_below = made_entry_below t track limit u g s w a.sign

    stem_in : AllByRecursion (λ l. l < letters u) up
    stem_in = made_letters_in t track limit u g up a.stem

    cycle_in : AllByRecursion (λ l. l < letters u) (l ∷ v)
    cycle_in = made_letters_in t track limit u g (l ∷ v) a.cycle

    there : walk (int_graph u g.made) (slice_index u.roots s) w ≡ go u.rows (letters u) (slice_index u.roots s) w
    there = walk_int u g.made (slice_index u.roots s) w (made_letters_in t track limit u g w a.whole)

-- ---- the states of a key at the entry are those over the sign vector and the whole part
lifted_from : (t : Graph) (keep : ℕ → ℕ) (from to : ℕ → Type 0) (u v : List ℕ) → ((q : ℕ) → from q → to q) → Lifted t keep from u v → Lifted t keep to u v
lifted_from t keep from to u v f i =
    record {
      start = i.start;
      member = f i.start i.member;
      stem = i.stem;
      cycle = i.cycle;
      more = i.more;
      less = i.less;
      stem_kept =
          i.stem_kept;
      cycle_kept = i.cycle_kept;
      accepted = i.accepted;
    }

root_in : (t : Table) (track limit : ℕ) (u : Table) (g : Given t track limit u) (s : ℕ) → s < 2 ^ kept t → slice_index u.roots s < (int_graph u g.made).states
unfolding int_graph rows_graph
root_in t track limit u g s lt = root_below t track limit u g s lt

frac_in : (t : Table) (track limit : ℕ) (u : Table) (g : Given t track limit u) (s : ℕ) (w : List ℕ) → s < 2 ^ kept t
    → made_entry t track limit u g s w < (frac_graph u g.made).states
unfolding frac_graph rows_graph made_entry
frac_in t track limit u g s w lt = made_entry_below t track limit u g s w lt

over_entry : (t : Table) (track limit : ℕ) (u : Table) (g : Given t track limit u) (s : ℕ) (w : List ℕ) → s < 2 ^ kept t
    → AllByRecursion (λ l. l < t.base ^ kept t) w → (q : ℕ)
    → (states_at t track limit u g (made_entry t track limit u g s w) q → OverWhole (track_setting t track g.table g.track_in) (entered t g.table) s w q)
    × (OverWhole (track_setting t track g.table g.track_in) (entered t g.table) s w q → states_at t track limit u g (made_entry t track limit u g s w) q)
unfolding made_entry entered IsIn track_setting setting
over_entry t track limit u g s w lt w_in q = (
  λ m. from (p.entry_from c q c_in m),
  λ o. subst (states_at t track limit u g (slice_index u.outs c)) o.leads
      (p.entry_into c (walk (int_graph t g.table) (root_of t o.sign) o.word) c_in
      (member_of_over z (int_graph t g.table) (int_graph u g.made) (IsIn t track limit u g) p.integers (root_of t) s (slice_index u.roots s)
      (root_in t track limit u g s lt) (closed_signs t track limit u g s lt) w (walk (int_graph t g.table) (root_of t o.sign) o.word)
      (record { sign = o.sign; word = o.word; more = o.more; kept_sign = o.kept_sign; kept_word = o.kept_word; leads = refl }))),
)
  where
    z : Setting
    z = track_setting t track g.table g.track_in

    p : Projected z (int_graph t g.table) (frac_graph t g.table) (int_graph u g.made) (frac_graph u g.made) (slice_index t.outs) (slice_index u.outs)
        (IsIn t track limit u g) (states_at t track limit u g) (owing_at t track limit u g)
    p = table_projected t track limit u g

    c : ℕ
    c = walk (int_graph u g.made) (slice_index u.roots s) w

    c_in : c < (int_graph u g.made).states
    c_in = walk_below (int_graph u g.made) (slice_index u.roots s) w (root_in t track limit u g s lt)

    from : Entry (slice_index t.outs) (IsIn t track limit u g c) q → OverWhole z (entered t g.table) s w q
    from e = over (over_of_member z (int_graph t g.table) (int_graph u g.made) (IsIn t track limit u g) p.integers (root_of t) s (slice_index u.roots s)
        (root_in t track limit u g s lt) (closed_signs t track limit u g s lt) w (narrow_of z.width w w_in) e.state e.member)
      where
        over : OverWhole z (λ m w. walk (int_graph t g.table) (root_of t m) w) s w e.state → OverWhole z (entered t g.table) s w q
        over o = record {
          sign = o.sign;
          word = o.word;
          more = o.more;
          kept_sign = o.kept_sign;
          kept_word = o.kept_word;
          leads =
              ap (slice_index t.outs) o.leads ∙ e.is;
        }

completes_parts : (t : Table) (track limit : ℕ) (u : Table) (g : Given t track limit u) → IsWeak (letters t) (fraction_graph t)
    → (s : ℕ) (w up : List ℕ) (l : ℕ) (v : List ℕ) → AreIn (t.base ^ kept t) (2 ^ kept t) s w up l v → IsTrue (accepts_marked u (lasso_of s w up (l ∷ v)))
    ↔ IsLassoAcceptedOver t track (lasso_of s w up (l ∷ v))
unfolding track_setting setting
completes_parts t track limit u g weak s w up l v a = (
  λ e. completed t track g.table g.track_in s w up (l ∷ v) a.sign
      (lifted_from T z.keep (states_at t track limit u g c) (λ q. OverWhole z (entered t g.table) s w q) up (l ∷ v)
      (λ q m. (over_entry t track limit u g s w a.sign a.whole q).0 m)
      (run_of_clear T b z.keep z.width (states_at t track limit u g) (owing_at t track limit u g) (frac_breakpoints t track limit u g) c up l v c_in
      (narrow_of z.width up a.stem) (narrow_of z.width (l ∷ v) a.cycle)
      (loop_of_accept b c up (l ∷ v) c_in ((marked_is t track limit u g s w up l v a).0 e)))),
  λ r. (marked_is t track limit u g s w up l v a).1
      (accept_of_loop b c up (l ∷ v) c_in
      (clear_of_lifted T b z.keep z.width (states_at t track limit u g) (owing_at t track limit u g) (weak_from t g.table weak)
      (frac_breakpoints t track limit u g) c up l v c_in
      (lifted_from T z.keep (λ q. OverWhole z (entered t g.table) s w q) (states_at t track limit u g c) up (l ∷ v)
      (λ q o. (over_entry t track limit u g s w a.sign a.whole q).1 o) (lifted_over t track g.table g.track_in s w up (l ∷ v) a.sign a.whole a.stem a.cycle r)))),
)
  where
    z : Setting
    z = track_setting t track g.table g.track_in

    T : Graph
    T = frac_graph t g.table

    b : Graph
    b = frac_graph u g.made

    c : ℕ
    c = made_entry t track limit u g s w

    c_in : c < (frac_graph u g.made).states
    c_in = frac_in t track limit u g s w a.sign

completes_by : (t : Table) (track limit : ℕ) (u : Table) (g : Given t track limit u) → IsWeak (letters t) (fraction_graph t) → (s : ℕ) (w up v : List ℕ)
    → IsLasso t.base (kept t) (lasso_of s w up v) → IsTrue (accepts_marked u (lasso_of s w up v)) ↔ IsLassoAcceptedOver t track (lasso_of s w up v)
completes_by t track limit u g weak s w up [] h = absurd (omega (arith, h.turns))
completes_by t track limit u g weak s w up (l ∷ v) h = completes_parts t track limit u g weak s w up l v (record {
  sign = h.sign;
  whole = recursion_from_All (λ l. l < t.base ^ kept t) w h.whole;
  stem = recursion_from_All (λ l. l < t.base ^ kept t) up h.stem;
  cycle = recursion_from_All (λ l. l < t.base ^ kept t) (l ∷ v) h.cycle;
})

-- the marked table accepts exactly if some lasso over it is accepted
pub marked_completes : (t u : Table) (track limit : ℕ) → IsTable t → IsTable u → 0 < fracs t → track < t.tracks → IsWeak (letters t) (fraction_graph t)
    → IsBreakpointTable t track limit u → (x : Lasso) → IsLasso u.base u.tracks x → IsTrue (accepts_marked u x) ↔ IsLassoAcceptedOver t track x
marked_completes t u track limit h hu some lt weak e x i =
    completes_by t track limit u (record { table = h; made = hu; track_in = lt; some = some; is = e }) weak x.sign x.whole x.stem x.cycle
    (subst (λ n. IsLasso t.base n x) e.tracks_are (subst (λ b. IsLasso b u.tracks x) e.base_is i))

-- so it stands, by its marks, for the set with the track bound
pub marked_stands : (t u : Table) (track limit : ℕ) (P : List ℤ → ℕ → Type 0) → IsTable t → IsTable u → track < t.tracks
    → IsWeak (letters t) (fraction_graph t) → IsBreakpointTable t track limit u → IsOfFractions P → StandsForMixed t P
    → StandsForMarked u (bound_by_fraction track P)
marked_stands t u track limit P h hu lt weak e free stands =
    some_lasso_marked t u track P h lt (omega (arith, out_within t track limit u g 0 hu.shape.some_state)) e.base_is e.tracks_are
    (marked_completes t u track limit h hu stands.fractions lt weak e) free stands
  where
    g : Given t track limit u
    g = record { table = h; made = hu; track_in = lt; some = stands.fractions; is = e }
