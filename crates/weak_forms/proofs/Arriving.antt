-- The least way to a torn state: positions of integer states rise with their least paths, so the least way of all is the least pair of a
-- least stem.
use Rattle.std.proofs.Common.{◌≡◌, ℕ, ◌<◌, ◌≤◌, Bool, List, length, slice_index, All, arith, inl, inr, sym, ap, ◌∙◌, subst}
use Rattle.std.specs.List.{AllByRecursion}
use Rattle.std.proofs.lemmas.List.{length-map}
use Rattle.std.proofs.lemmas.List.Elements.{recursion_from_All, All-from_recursion}
use Rattle.graph_laws.specs.Walks.{go}
use Rattle.graph_laws.specs.Paths.{Path, AtMost}
use Rattle.graph_laws.specs.Paths.Before.{shorter, lower, earlier}
use Rattle.graph_laws.specs.Exploring.{IsExplored}
use Rattle.canonical_laws.specs.Canonical.{IsPathOf}
use Rattle.canonical_laws.proofs.Diagrams.{read_below}
use Rattle.lash_model.specs.Tables.{Table, letters, fracs, IsTable}
use Rattle.lash_model.specs.Acceptance.{int_state}
use Rattle.least_paths.specs.Nets.{Net, end_of, int_net, found_net}
use Rattle.least_paths.specs.Arrivals.{IsLeastTo}
use Rattle.least_paths.specs.Searches.{state_key, row_steps}
use Rattle.least_paths.proofs.PathEnds.{end_in}
use Rattle.least_paths.proofs.LeastPaths.{least_at_most, least_before}
use Rattle.least_paths.proofs.StateWalks.{found_closed, found_ordered, found_path, graph_path, state_found, ends_at}
use Rattle.marked_laws.specs.Weakening.{IsLedTo, IsReachedState, IsTornAt, IsTorn}
use Rattle.marked_laws.specs.TornTables.{IsNoLater}
use Rattle.weak_forms.specs.Finding.{Placement, keyed}
use Rattle.weak_forms.specs.Ways.{IsGoal, IsLeastWay, LeadsToNone}
use Rattle.weak_forms.specs.Marking.{LiesTorn, TellTorn}
use Rattle.weak_forms.specs.Words.{AreOuts, IsLeastArrival}
use Rattle.weak_forms.proofs.FirstGoals.{state_is}
use Rattle.weak_forms.proofs.TornStates.{walked_in}

-- the graph of fraction states, from those outputs
abbrev pub frac_net : Table → List ℕ → Net
frac_net t outs = record { starts = outs; rows = t.frac_rows; width = letters t; states = fracs t }

-- the position of the integer state to which a pair leads
record PlacedPair (t : Table) (p : Placement) (outs : List ℕ) (x : Path) : Type 0 where
  pub inside : end_of (found_net (keyed p)) x < length p.order
  pub out : slice_index outs (end_of (found_net (keyed p)) x) ≡ slice_index t.outs (int_state t x.start x.word)

module _ (t : Table) (h : IsTable t) (limit : ℕ) (p : Placement) (e : IsExplored (row_steps (int_net t)) limit (keyed p)) (outs : List ℕ)
    (o : AreOuts t p.order outs (length p.order)) (goals : List Bool) (g : TellTorn t (fracs t) goals) where
  pair_path : (sign : ℕ) (whole stem : List ℕ) (q : ℕ) → IsLedTo t sign whole stem q → IsPathOf t.roots (letters t) (record { start = sign; word = whole })
  pair_path sign whole stem q l = record {
    start = subst (λ n. sign < n) (sym h.roots_count) l.sign_in;
    letters = recursion_from_All (λ a. a < letters t) whole l.whole_in;
  }

  placed : (x : Path) → IsPathOf t.roots (letters t) x → PlacedPair t p outs x
  placed x v = record {
    inside = inside;
    out = o.each (end_of (found_net (keyed p)) x) inside
        ∙ ap (slice_index t.outs) (sym (state_is p (end_of (found_net (keyed p)) x) inside) ∙ state_found (int_net t) limit (keyed p) e x v);
  }
    where
      inside : end_of (found_net (keyed p)) x < length p.order
      inside = subst (λ n. end_of (found_net (keyed p)) x < n) (length-map p.order state_key)
          (end_in (found_net (keyed p)) (found_closed (int_net t) limit (keyed p) e) x (found_path (int_net t) limit (keyed p) e x v))

  -- the way to a torn state from the position of the pair
  record GoodWay (sign : ℕ) (whole stem : List ℕ) : Type 0 where
    pub valid : IsPathOf outs (letters t) (record { start = end_of (found_net (keyed p)) (record { start = sign; word = whole }); word = stem })
    pub good : IsGoal goals (end_of (frac_net t outs) (record { start = end_of (found_net (keyed p)) (record { start = sign; word = whole }); word = stem }))

  torn_in : All (λ q. q < fracs t) outs → (sign : ℕ) (whole stem : List ℕ) (q : ℕ) → IsTornAt t q → IsLedTo t sign whole stem q → GoodWay sign whole stem
  torn_in inside sign whole stem q torn led = record {
    valid = record { start = subst (λ n. place < n) (sym o.count) at.inside; letters = stem_in };
    good = subst (IsGoal goals) (sym leads) (g.all q q_in (record {
      word = torn.word;
      loop = torn.loop;
      mark = torn.mark;
      marked = torn.marked;
      there = torn.there;
      back = torn.back;
    }));
  }
    where
      place : ℕ
      place = end_of (found_net (keyed p)) (record { start = sign; word = whole })

      at : PlacedPair t p outs (record { start = sign; word = whole })
      at = placed (record { start = sign; word = whole }) (pair_path sign whole stem q led)

      stem_in : AllByRecursion (λ l. l < letters t) stem
      stem_in = recursion_from_All (λ l. l < letters t) stem led.stem_in

      leads : go t.frac_rows (letters t) (slice_index outs place) stem ≡ q
      leads = ap (λ s. go t.frac_rows (letters t) s stem) at.out ∙ led.leads

      q_in : q < fracs t
      q_in = subst (λ s. s < fracs t) leads (walked_in t h (slice_index outs place) stem
          (read_below outs (fracs t) place inside (subst (λ n. place < n) (sym o.count) at.inside)) stem_in)

  pub none_torn : All (λ q. q < fracs t) outs → LeadsToNone (frac_net t outs) goals → IsTorn t → ⊥
  none_torn inside none torn =
      let r : IsReachedState t torn.state = torn.torn.reached in
      let w = torn_in inside r.sign r.whole r.stem torn.state torn.torn r.led in
      none (record { start = end_of (found_net (keyed p)) (record { start = r.sign; word = r.whole }); word = r.stem }) w.valid w.good

  earlier_pair : (start : ℕ) (x y : Path) (stem u : List ℕ) → IsLeastTo (found_net (keyed p)) start x → IsPathOf t.roots (letters t) y
      → AtMost (record { start = start; word = stem }) (record { start = end_of (found_net (keyed p)) y; word = u })
      → IsNoLater (record { pair = x; stem = stem }) (record { pair = y; stem = u })
  earlier_pair start x y stem u s v m = by m
    where
      y_found : IsPathOf (keyed p).starts (keyed p).width y
      y_found = found_path (int_net t) limit (keyed p) e y v

      at_most : start ≤ end_of (found_net (keyed p)) y → AtMost x y
      at_most le = least_at_most (found_net (keyed p)) (found_ordered (int_net t) limit (keyed p) e) start x y s y_found le

      by : AtMost (record { start = start; word = stem }) (record { start = end_of (found_net (keyed p)) y; word = u })
          → IsNoLater (record { pair = x; stem = stem }) (record { pair = y; stem = u })
      by (inl same) = inr (
        ap (λ (z : Path). length z.word) same,
        elim (at_most (omega (arith, ap (λ (z : Path). z.start) same))) [
          | inl one ↦ inr (one, inl (ap (λ (z : Path). z.word) same))
          | inr before ↦ inl before
        ],
      )
      by (inr (shorter lt)) = inl lt
      by (inr (lower long lt)) = inr (long, inl (least_before (found_net (keyed p)) (found_ordered (int_net t) limit (keyed p) e) start x y s y_found lt))
      by (inr (earlier long same f)) = inr (
        long,
        elim (at_most (omega (arith, same))) [
          | inl one ↦ inr (one, inr f)
          | inr before ↦ inl before
        ],
      )

  pub least_arrived : All (λ q. q < fracs t) outs → (start : ℕ) (stem : List ℕ) (x : Path) (q : ℕ)
      → IsLeastWay (frac_net t outs) goals (record { start = start; word = stem }) → IsLeastTo (found_net (keyed p)) start x
      → q ≡ go t.frac_rows (letters t) (slice_index outs start) stem → IsLeastArrival t q x.start x.word stem
  least_arrived inside start stem x q w s is = record {
    torn = record {
      reached = record { sign = x.start; whole = x.word; stem = stem; led = led };
      word = lies.word;
      loop = lies.loop;
      mark = lies.mark;
      marked = lies.marked;
      there = lies.there;
      back = lies.back;
    };
    led = led;
    least = λ q' other v u torn l. let y = torn_in inside other v u q' torn l in
        earlier_pair start x (record { start = other; word = v }) stem u s (pair_path other v u q' l)
        (w.least (record { start = end_of (found_net (keyed p)) (record { start = other; word = v }); word = u }) y.valid y.good);
  }
    where
      x_in : IsPathOf t.roots (letters t) x
      x_in = graph_path (int_net t) limit (keyed p) e x s.valid

      start_in : start < length p.order
      start_in = subst (λ n. start < n) o.count w.valid.start

      out : slice_index outs start ≡ slice_index t.outs (int_state t x.start x.word)
      out = o.each start start_in ∙ ap (slice_index t.outs) (sym (state_is p start start_in) ∙ ends_at (int_net t) limit (keyed p) e start x s)

      led : IsLedTo t x.start x.word stem q
      led = record {
        sign_in = subst (λ n. x.start < n) h.roots_count x_in.start;
        whole_in = All-from_recursion (λ l. l < letters t) x.word x_in.letters;
        stem_in = All-from_recursion (λ l. l < letters t) stem w.valid.letters;
        leads = ap (λ c. go t.frac_rows (letters t) c stem) (sym out) ∙ sym is;
      }

      q_in : q < fracs t
      q_in = subst (λ c. c < fracs t) (sym is) (walked_in t h (slice_index outs start) stem (read_below outs (fracs t) start inside w.valid.start) w.valid.letters)

      lies : LiesTorn t q
      lies = g.torn q q_in (subst (IsGoal goals) (sym is) w.leads)
