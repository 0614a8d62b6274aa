-- The fixed solution of a table with fraction states, put together of its parts, and its laws.
use Rattle.std.proofs.Common.{◌≡◌, ℕ, ◌<◌, true, List, [], ◌∷◌, length, inl, inr, arith, refl, ◌∙◌, sym, ap, subst}
use Rattle.std.specs.Prelude.{slice_index, nat_eq}
use Rattle.std.proofs.lemmas.Bool.{cases_lt}
use Rattle.std.proofs.lemmas.List.Elements.{All-from_recursion}
use Rattle.graph_laws.specs.Walks.{go, copies}
use Rattle.graph_laws.specs.Paths.{Path, AtMost}
use Rattle.graph_laws.specs.Paths.Before.{shorter, lower, earlier}
use Rattle.graph_laws.specs.Exploring.{KeyTable, IsExplored}
use Rattle.graph_laws.proofs.Joining.{go-append}
use Rattle.lash_model.specs.Lassos.{Lasso}
use Rattle.lash_model.specs.Tables.{Table, letters, ints, fracs, IsTable}
use Rattle.lash_model.specs.Acceptance.{int_state, accepts_lasso}
use Rattle.canonical_laws.specs.Canonical.{IsPathOf}
use Rattle.part_laws.specs.Graphs.{IsWord, IsLooping}
use Rattle.part_laws.specs.Endings.{accepts_from}
use Rattle.part_laws.specs.CanonicalMixed.{fraction_graph, IsCanonicalMixed}
use Rattle.part_laws.proofs.LassoWords.{AreWords, lasso_words, root_in, int_walk_in}
use Rattle.part_laws.proofs.Walking.{walk-copies, stays}
use Rattle.least_paths.specs.Nets.{Net, end_of, IsOrdered, int_net, found_net}
use Rattle.least_paths.specs.Arrivals.{IsLeastTo}
use Rattle.least_paths.specs.Searches.{row_steps, state_at, IsFirstPlace}
use Rattle.least_paths.proofs.PathEnds.{meet, int_closed}
use Rattle.least_paths.proofs.LeastPaths.{least_at_most}
use Rattle.least_paths.proofs.StateWalks.{graph_path, ends_at, first_least, nowhere}
use Rattle.solution_pick.specs.FractionSolutions.{AcceptsNoLasso, AcceptsSome, output, IsWordAtMost, IsYesLoop, LeadsNowhere}
use Rattle.solution_pick.specs.FractionSolutions.{IsLeastStem, IsLeastCycle, IsLeastPair, IsFixedSolution}
use Rattle.solution_pick.specs.FractionSearches.{frac_net, IsDead, IsFirstLive, IsFirstYesLoop, AreTargets}
use Rattle.solution_pick.proofs.Accepted.{path_of}
use Rattle.solution_pick.proofs.DeadStates.{parted, dead_accepts_none, dead_not_some, nowhere_dead}

abbrev pub path : ℕ → List ℕ → Path
path start word = record { start = start; word = word }

-- ---- the stem
-- a search that begins with one state
abbrev pub from_one : Table → ℕ → Net
from_one t q = frac_net t (q ∷ [])

only_start : (t : Table) (q start : ℕ) → start < length (from_one t q).starts → start ≡ 0
only_start t q start lt = omega (arith, lt)

pub least_stem : (t : Table) (q : ℕ) (k : KeyTable) → IsExplored (row_steps (from_one t q)) 16777216 k → (i start : ℕ) (w : List ℕ)
    → IsFirstYesLoop t k i → IsLeastTo (found_net k) i (path start w) → IsLeastStem t q w
least_stem t q k e i start w f h = record {
  letters_in = valid.letters;
  leads = subst (IsYesLoop t) (ends_at (from_one t q) 16777216 k e i (path start w) h
      ∙ ap (λ n. end_of (from_one t q) (path n w)) zero_start) f.good;
  least = λ v v_in good. subst (λ n. AtMost (path n w) (path 0 v)) zero_start
      (first_least (from_one t q) 16777216 k e (IsYesLoop t) i (path start w) h f.first (path 0 v) (record { start = omega arith; letters = v_in }) good);
}
  where
    valid : IsPathOf (q ∷ []) (letters t) (path start w)
    valid = graph_path (from_one t q) 16777216 k e (path start w) h.valid

    zero_start : start ≡ 0
    zero_start = only_start t q start valid.start

pub no_stem : (t : Table) (q : ℕ) (k : KeyTable) → IsExplored (row_steps (from_one t q)) 16777216 k
    → ((i : ℕ) → i < length k.keys → IsYesLoop t (state_at k i) → ⊥) → LeadsNowhere t q
no_stem t q k e none w w_in good = nowhere (from_one t q) 16777216 k e (IsYesLoop t) none (path 0 w) (record { start = omega arith; letters = w_in }) good

-- ---- the cycle
-- of two words with a letter in front, the order is that of paths from those letters
front_letter : (x y : Path) → AtMost x y → AtMost (path 0 (x.start ∷ x.word)) (path 0 (y.start ∷ y.word))
front_letter x y (inl e) = inl (ap (λ (p : Path). path 0 (p.start ∷ p.word)) e)
front_letter x y (inr (shorter h)) = inr (shorter (omega (arith, h)))
front_letter x y (inr (lower e h)) = inr (earlier (omega (arith, e)) refl (inl h))
front_letter x y (inr (earlier e s h)) = inr (earlier (omega (arith, e)) refl (inr (s, h)))

-- the path of a word without its first letter
rest_path : (t : Table) (q : ℕ) (targets : List ℕ) → AreTargets t q (letters t) targets → (l : ℕ) (v : List ℕ) → IsWord (letters t) (l ∷ v)
    → IsPathOf targets (letters t) (path l v)
rest_path t q targets a l v v_in = record { start = subst (λ n. l < n) (sym a.count) v_in.0; letters = v_in.1 }

rest_reached : (t : Table) (q : ℕ) (targets : List ℕ) → AreTargets t q (letters t) targets → (l : ℕ) (v : List ℕ) → l < letters t
    → end_of (frac_net t targets) (path l v) ≡ go t.frac_rows (letters t) q (l ∷ v)
rest_reached t q targets a l v l_in = ap (λ p. go t.frac_rows (letters t) p v) (a.each l l_in)

pub least_cycle : (t : Table) (q : ℕ) (targets : List ℕ) (k : KeyTable) → IsExplored (row_steps (frac_net t targets)) 16777216 k
    → AreTargets t q (letters t) targets → (i start : ℕ) (w : List ℕ) → IsFirstPlace k q i → IsLeastTo (found_net k) i (path start w)
    → IsLeastCycle t q (start ∷ w)
least_cycle t q targets k e a i start w f h = record {
  letters_in = (start_in, valid.letters);
  some = omega arith;
  leads = sym (rest_reached t q targets a start w start_in) ∙ sym (ends_at (frac_net t targets) 16777216 k e i (path start w) h) ∙ f.is;
  least = least;
}
  where
    valid : IsPathOf targets (letters t) (path start w)
    valid = graph_path (frac_net t targets) 16777216 k e (path start w) h.valid

    start_in : start < letters t
    start_in = subst (λ n. start < n) a.count valid.start

    least : (v : List ℕ) → IsWord (letters t) v → 0 < length v → go t.frac_rows (letters t) q v ≡ q → IsWordAtMost (start ∷ w) v
    least [] v_in some back = absurd (omega (arith, some))
    least (l ∷ v) v_in some back = front_letter (path start w) (path l v)
        (first_least (frac_net t targets) 16777216 k e (λ p. p ≡ q) i (path start w) h f.first (path l v)
        (rest_path t q targets a l v v_in) (rest_reached t q targets a l v v_in.0 ∙ back))

-- a state that lies on a loop is met again
pub cycle_somewhere : (t : Table) (q : ℕ) (targets : List ℕ) (k : KeyTable)
    → IsExplored (row_steps (frac_net t targets)) 16777216 k → AreTargets t q (letters t) targets
    → IsLooping t.frac_rows (letters t) q → ((i : ℕ) → i < length k.keys → state_at k i ≡ q → ⊥) → ⊥
cycle_somewhere t q targets k e a loop none = met loop.word loop.letters loop.some loop.leads
  where
    met : (v : List ℕ) → IsWord (letters t) v → 0 < length v → go t.frac_rows (letters t) q v ≡ q → ⊥
    met [] v_in some back = omega (arith, some)
    met (l ∷ v) v_in some back = nowhere (frac_net t targets) 16777216 k e (λ p. p ≡ q) none (path l v)
        (rest_path t q targets a l v v_in) (rest_reached t q targets a l v v_in.0 ∙ back)

-- ---- the lasso
abbrev lasso_from : ℕ → List ℕ → List ℕ → List ℕ → Lasso
lasso_from sign whole stem cycle = record { sign = sign; whole = whole; stem = stem; cycle = cycle }

-- the stem and the cycle are accepted
accepted : (t : Table) (q : ℕ) (stem cycle : List ℕ) → IsLeastStem t q stem → IsLeastCycle t (go t.frac_rows (letters t) q stem) cycle
    → accepts_from (letters t) (fraction_graph t) q stem cycle ≡ true
accepted t q stem cycle a b = ap (λ p. nat_eq (slice_index t.colours p) 1)
    (go-append t.frac_rows (letters t) q stem (copies (fracs t) cycle)
    ∙ walk-copies t.frac_rows (letters t) (fracs t) cycle (go t.frac_rows (letters t) q stem)
    ∙ stays t.frac_rows (letters t) (go t.frac_rows (letters t) q stem) cycle (fracs t) b.leads)
    ∙ ap (λ c. nat_eq c 1) a.leads.yes

accepts_some : (t : Table) (q : ℕ) (stem cycle : List ℕ) → IsLeastStem t q stem → IsLeastCycle t (go t.frac_rows (letters t) q stem) cycle → AcceptsSome t q
accepts_some t q stem cycle a b = record {
  stem = stem;
  cycle = cycle;
  stem_in = a.letters_in;
  cycle_in = b.letters_in;
  turns = b.some;
  accepted = accepted t q stem cycle a b;
}

mixed_ordered : (t : Table) → IsCanonicalMixed t → IsOrdered (int_net t)
mixed_ordered t c = record { closed = int_closed t c.table; numbered = c.numbered }

-- the least path to the first live state is the least pair
least_pair : (t : Table) → IsCanonicalMixed t → (q sign : ℕ) (w : List ℕ) → IsFirstLive t q → IsLeastTo (int_net t) q (path sign w)
    → AcceptsSome t (output t sign w) → IsLeastPair t sign w
least_pair t c q sign w f h some = record {
  accepts = some;
  least = λ other v lt a s. least_at_most (int_net t) (mixed_ordered t c) q (path sign w) (path other v) h (path_of t c.table other v lt a)
      (elim (cases_lt (int_state t other v) q) [
        | inl before ↦ absurd (dead_not_some t (output t other v) (f.first (int_state t other v) before) s)
        | inr ge ↦ ge
      ]);
}

-- the output after the least path is that of the state
pub at_output : (t : Table) (q sign : ℕ) (w : List ℕ) → IsLeastTo (int_net t) q (path sign w) → output t sign w ≡ slice_index t.outs q
at_output t q sign w h = ap (slice_index t.outs) h.leads

pub fixed : (t : Table) → IsCanonicalMixed t → (q sign : ℕ) (w stem cycle : List ℕ) → IsFirstLive t q → IsLeastTo (int_net t) q (path sign w)
    → IsLeastStem t (slice_index t.outs q) stem → IsLeastCycle t (go t.frac_rows (letters t) (slice_index t.outs q) stem) cycle
    → IsFixedSolution t (record { sign = sign; whole = w; stem = stem; cycle = cycle })
fixed t c q sign w stem cycle f h a b = record {
  range = record {
    sign = subst (λ n. sign < n) c.table.roots_count h.valid.start;
    whole = All-from_recursion (λ l. l < letters t) w h.valid.letters;
    stem = All-from_recursion (λ l. l < letters t) stem a.letters_in;
    cycle = All-from_recursion (λ l. l < letters t) cycle b.letters_in;
    turns = b.some;
  };
  pair = least_pair t c q sign w f h (accepts_some t (output t sign w) stem cycle stem_at cycle_at);
  stem = stem_at;
  cycle = cycle_at;
}
  where
    stem_at : IsLeastStem t (output t sign w) stem
    stem_at = subst (λ p. IsLeastStem t p stem) (sym (at_output t q sign w h)) a

    cycle_at : IsLeastCycle t (go t.frac_rows (letters t) (output t sign w) stem) cycle
    cycle_at = subst (λ p. IsLeastCycle t (go t.frac_rows (letters t) p stem) cycle) (sym (at_output t q sign w h)) b

-- the lasso of equal words
pub same_words : (sign : ℕ) (a b c u v w : List ℕ) → a ≡ u → b ≡ v → c ≡ w → lasso_from sign a b c ≡ lasso_from sign u v w
same_words sign a b c u v w e f g = ap (λ x. lasso_from sign x b c) e ∙ ap (λ x. lasso_from sign u x c) f ∙ ap (lasso_from sign u v) g

-- the output of the first live state leads somewhere
pub live_leads : (t : Table) → IsCanonicalMixed t → (q : ℕ) → slice_index t.outs q < fracs t → IsFirstLive t q → LeadsNowhere t (slice_index t.outs q) → ⊥
live_leads t c q q_in f none = f.live (nowhere_dead t c (slice_index t.outs q) q_in none)

-- if every output is dead, no lasso is accepted
pub none_accepted : (t : Table) → IsTable t → ((q : ℕ) → q < ints t → IsDead t (slice_index t.outs q)) → AcceptsNoLasso t
none_accepted t h dead x range = dead_accepts_none t (output t x.sign x.whole) (dead (int_state t x.sign x.whole) inside) x.stem x.cycle words.stem words.cycle
  where
    words : AreWords (letters t) x
    words = lasso_words t.base t.tracks x range

    inside : int_state t x.sign x.whole < ints t
    inside = int_walk_in t h (slice_index t.roots x.sign) x.whole (root_in t h x.sign range.sign) words.whole

-- ---- laws
pub fixed_accepted : (t : Table) (x : Lasso) → IsFixedSolution t x → accepts_lasso t x ≡ true
fixed_accepted t x f = accepted t (output t x.sign x.whole) x.stem x.cycle f.stem f.cycle

pub not_both_kinds : (t : Table) (x : Lasso) → AcceptsNoLasso t → IsFixedSolution t x → ⊥
not_both_kinds t x none f = parted (sym (none x f.range) ∙ fixed_accepted t x f)

same_pair : (t : Table) (x y : Lasso) → IsFixedSolution t x → IsFixedSolution t y → path x.sign x.whole ≡ path y.sign y.whole
same_pair t x y a b = meet (path x.sign x.whole) (path y.sign y.whole) (a.pair.least y.sign y.whole b.range.sign b.range.whole b.pair.accepts)
    (b.pair.least x.sign x.whole a.range.sign a.range.whole a.pair.accepts)

word_of : (v w : List ℕ) → IsWordAtMost v w → IsWordAtMost w v → v ≡ w
word_of v w a b = ap (λ (p : Path). p.word) (meet (path 0 v) (path 0 w) a b)

same_stem : (t : Table) (q : ℕ) (v w : List ℕ) → IsLeastStem t q v → IsLeastStem t q w → v ≡ w
same_stem t q v w a b = word_of v w (a.least w b.letters_in b.leads) (b.least v a.letters_in a.leads)

same_cycle : (t : Table) (q : ℕ) (v w : List ℕ) → IsLeastCycle t q v → IsLeastCycle t q w → v ≡ w
same_cycle t q v w a b = word_of v w (a.least w b.letters_in b.some b.leads) (b.least v a.letters_in a.some a.leads)

-- there is one fixed solution
pub one_lasso : (t : Table) (x y : Lasso) → IsFixedSolution t x → IsFixedSolution t y → x ≡ y
one_lasso t x y a b = ap (λ (p : Path). lasso_from p.start p.word x.stem x.cycle) pairs ∙ ap (λ w. lasso_from y.sign y.whole w x.cycle) stems
    ∙ ap (λ w. lasso_from y.sign y.whole y.stem w) cycles
  where
    pairs : path x.sign x.whole ≡ path y.sign y.whole
    pairs = same_pair t x y a b

    outputs : output t x.sign x.whole ≡ output t y.sign y.whole
    outputs = ap (λ (p : Path). output t p.start p.word) pairs

    stems : x.stem ≡ y.stem
    stems = same_stem t (output t y.sign y.whole) x.stem y.stem (subst (λ q. IsLeastStem t q x.stem) outputs a.stem) b.stem

    ends : go t.frac_rows (letters t) (output t x.sign x.whole) x.stem ≡ go t.frac_rows (letters t) (output t y.sign y.whole) y.stem
    ends = ap (λ q. go t.frac_rows (letters t) q x.stem) outputs ∙ ap (go t.frac_rows (letters t) (output t y.sign y.whole)) stems

    cycles : x.cycle ≡ y.cycle
    cycles = same_cycle t (go t.frac_rows (letters t) (output t y.sign y.whole) y.stem) x.cycle y.cycle
        (subst (λ q. IsLeastCycle t q x.cycle) ends a.cycle) b.cycle
