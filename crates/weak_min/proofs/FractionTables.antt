-- The table of the explored classes of both parts of a weak table is canonical, and accepts the same lassos.
use Rattle.std.proofs.Common.{◌≡◌, ℕ, zero, suc, ◌+◌, ◌*◌, ◌^◌, ◌≤◌, ◌<◌, if◌then◌else◌, List, [], ◌∷◌, ◌++◌, length, arith, refl, ◌∙◌, sym, ap, ap₂, subst, rules}
use Rattle.std.proofs.Math.Nat.{pow-suc, pow-zero}
use Rattle.std.specs.Prelude.{slice_index, slice_get, nat_eq, map, take, All, IsTrue}
use Rattle.std.specs.declared.option.Option.TheVariants.{Some}
use Rattle.std.specs.List.{slice_index_or, AllByRecursion}
use Rattle.std.proofs.lemmas.List.{get_or_default, get_or-map, length-map, take_more}
use Rattle.std.proofs.lemmas.List.Elements.{recursion_from_All}
use Rattle.std.proofs.lemmas.Option.{slice_get_within, get_or_from_slice_get}
use Rattle.graph_laws.specs.Exploring.{Steps, KeyTable, list_at, weigh}
use Rattle.lash_model.specs.Tables.{Table, letters, ints, fracs, IsTable}
use Rattle.canonical_laws.specs.Behaviour.{AreClasses}
use Rattle.canonical_laws.proofs.Diagrams.{read_below}
use Rattle.part_laws.specs.Graphs.{IsWeak}
use Rattle.part_laws.specs.Ranks.{even, IsRecolouring}
use Rattle.part_laws.specs.CanonicalMixed.{fraction_graph, IsCanonicalMixed, AcceptSameLassos}
use Rattle.part_laws.specs.ClassTables.{class_outs, named_outs, key_names, AreExploredClasses, explored_table}
use Rattle.part_laws.specs.Opposites.{with_colours}
use Rattle.part_laws.proofs.LassoWords.{fraction_is_graph, out_in}
use Rattle.part_laws.proofs.Recolouring.{recoloured_weak, recoloured_by_rank}
use Rattle.part_laws.proofs.TableMatching.{recoloured_table, same_lassos_on}
use Rattle.part_laws.proofs.ClassExploring.{explored_accepts, explored_canonical}
use Rattle.step_tables.specs.Kept.{answered, laid_in_two}
use Rattle.weak_min.specs.Quotients.{IsClassing, quotient, all_cells, class_says, is_state}
use Rattle.weak_min.specs.FractionClasses.{AreRanked, int_classing, fraction_classing, AreReachedInts, AreReachedFractions}
use Rattle.weak_min.proofs.ClassRuns.{few_signs, more_cells}

-- ---- a table has letters
some_power : (b n : ℕ) → 0 < b → 0 < b ^ n
some_power b zero h = omega (arith, pow-zero b)
some_power b (suc n) h = omega (arith, pow-suc b n, some_product (b ^ n) b (some_power b n h) h)
  where
    some_product : (x y : ℕ) → 0 < x → 0 < y → 0 < x * y
    some_product x y hx hy = grind arith

pub some_letters : (t : Table) → IsTable t → 0 < letters t
some_letters t h = some_power t.base t.tracks (omega (arith, h.shape.base_low))

-- ---- colours of ranks are colours
even_below : (m : ℕ) → even m < 2
even_below zero = omega arith
even_below (suc zero) = omega arith
even_below (suc (suc m)) = even_below m

colours_below : (t : Table) (cs : List ℕ) → IsRecolouring (letters t) (fraction_graph t) cs → All (λ c. c < 2) cs
colours_below t cs r = λ q d lt. let p = r.each q (subst (λ n. q < n) r.count lt) in omega (arith, get_or_default cs q d 0 lt, p.parity, even_below p.number)

-- the table with other colours is in range
pub coloured_table : (t : Table) (cs : List ℕ) → IsTable t → length cs ≡ length t.colours → All (λ c. c < 2) cs → IsTable (with_colours t cs)
coloured_table t cs h e small = record {
  shape = rw e h.shape;
  roots_count = h.roots_count;
  rows_count = h.rows_count;
  frac_rows_count = rw e h.frac_rows_count;
  roots_in = h.roots_in;
  rows_in = h.rows_in;
  outs_in = rw e h.outs_in;
  frac_rows_in = rw e h.frac_rows_in;
  colours_in = small;
}

-- ---- the colours of keys
small_at : (cs : List ℕ) → AllByRecursion (λ c. c < 2) cs → (i : ℕ) → slice_index cs i < 2
small_at [] h i = omega arith
small_at (c ∷ cs) h zero = h.0
small_at (c ∷ cs) h (suc i) = small_at cs h.1 i

bit_back : (x : ℕ) → x < 2 → (if nat_eq x 1 then 1 else 0) ≡ x
bit_back zero h = refl
bit_back (suc zero) h = refl
bit_back (suc (suc x)) h = absurd (omega (arith, h))

answers_are : (cs : List ℕ) (keys : List (List ℕ)) → ((i : ℕ) → slice_index cs i < 2)
    → answered (class_says cs) keys ≡ map (λ q. slice_index cs q) (map (λ key. slice_index key 0) keys)
answers_are cs [] small = refl
answers_are cs (key ∷ keys) small = ap₂ (λ x xs. x ∷ xs) (bit_back (slice_index cs (slice_index key 0)) (small (slice_index key 0))) (answers_are cs keys small)

-- ---- one colour more, and one output more
pub colour_more : (cs xs : List ℕ) (i x : ℕ) → All (λ c. c < 2) cs → i < length cs → xs ≡ take i cs → x ≡ (if nat_eq (slice_index cs i) 1 then 1 else 0)
    → xs ++ x ∷ [] ≡ take (i + 1) cs
colour_more cs xs i x small lt before is = ap₂ (λ ys y. ys ++ y ∷ []) before (is ∙ bit_back (slice_index cs i) (read_below cs 2 i small lt)) ∙ sym (take_more cs i 0 lt)

pub output_more : (t : Table) (k : KeyTable) (key xs : List ℕ) (i x : ℕ) → slice_get k.keys i ≡ Some key → xs ≡ take i (named_outs t k)
    → x ≡ slice_index t.outs (slice_index key 0) → xs ++ x ∷ [] ≡ take (i + 1) (named_outs t k)
output_more t k key xs i x e before is = ap₂ (λ ys y. ys ++ y ∷ []) before (is ∙ sym at) ∙ sym (take_more (named_outs t k) i 0 (subst (λ n. i < n) (sym outs) lt))
  where
    lt : i < length k.keys
    lt = slice_get_within k.keys i key e

    names : length (key_names k) ≡ length k.keys
    names = length-map k.keys (λ x. slice_index x 0)

    outs : length (named_outs t k) ≡ length k.keys
    outs = length-map (key_names k) (λ q. slice_index t.outs q) ∙ names

    at : slice_index (named_outs t k) i ≡ slice_index t.outs (slice_index key 0)
    at = get_or-map (λ q. slice_index t.outs q) (key_names k) i 0 0 (subst (λ n. i < n) (sym names) lt)
        ∙ ap (slice_index t.outs) (get_or-map (λ x. slice_index x 0) k.keys i [] 0 lt ∙ ap (λ x. slice_index x 0) (get_or_from_slice_get k.keys i key [] e))

-- ---- both parts explored
pub record IsReached (t : Table) (rows colours classes : List ℕ) (k m : KeyTable) : Type 0 where
  pub some : 0 < fracs t
  pub weak : IsWeak (letters t) (fraction_graph t)
  pub ranked : AreRanked t rows colours classes
  pub reached_ints : AreReachedInts t classes k
  pub reached_fractions : AreReachedFractions t classes k m

both_explored : (t : Table) (rows colours classes : List ℕ) (k m : KeyTable) → (h : IsReached t rows colours classes k m)
    → AreExploredClasses (with_colours t colours) h.reached_ints.classes classes k m
both_explored t rows colours classes k m h = record {
  fraction_behaviour = h.ranked.classes_are;
  int_behaviour = h.reached_ints.behaviour;
  int_limit = all_cells (int_classing t h.reached_ints.classes);
  fraction_limit = all_cells (fraction_classing t classes k);
  is_int = is_state (length h.reached_ints.classes);
  is_fraction = is_state (length classes);
  int_states = h.reached_ints.explored;
  fraction_states = h.reached_fractions;
}

-- the table that the code lays
abbrev pub laid : Table → List ℕ → KeyTable → KeyTable → Table
laid t colours k m = laid_in_two t.base t.tracks k m (answered (class_says colours) m.keys)

laid_is : (t : Table) (rows colours classes : List ℕ) (k m : KeyTable) → IsReached t rows colours classes k m
    → laid t colours k m ≡ explored_table (with_colours t colours) k m
laid_is t rows colours classes k m h = ap (λ cs. laid_in_two t.base t.tracks k m cs)
    (answers_are colours m.keys (small_at colours (recursion_from_All (λ c. c < 2) colours (colours_below t colours h.ranked.colours_are))))

-- some fraction state is reached
some_reached : (t : Table) (rows colours classes : List ℕ) (k m : KeyTable) → IsReached t rows colours classes k m → IsTable (laid t colours k m) → 0 < length m.keys
some_reached t rows colours classes k m h u =
    let b = h.reached_fractions.begins 0 (subst (λ n. 0 < n) h.reached_fractions.starts_count u.shape.some_state) in
    omega (arith, slice_get_within m.keys (slice_index m.starts 0) (list_at (quotient (fraction_classing t classes k)).starts 0) b)

pub laid_canonical : (t : Table) (rows colours classes : List ℕ) (k m : KeyTable) → IsReached t rows colours classes k m → IsTable (laid t colours k m)
    → IsCanonicalMixed (laid t colours k m)
laid_canonical t rows colours classes k m h u = subst IsCanonicalMixed (sym is)
    (explored_canonical (with_colours t colours) h.reached_ints.classes classes k m
    (coloured_table t colours h.ranked.table h.ranked.colours_are.count (colours_below t colours h.ranked.colours_are))
    (subst (λ n. 0 < n) (sym h.ranked.colours_are.count) h.some)
    (recoloured_weak (letters t) (fraction_graph t) (fraction_is_graph t h.ranked.table) h.weak colours h.ranked.colours_are)
    (recoloured_by_rank (letters t) (fraction_graph t) (fraction_is_graph t h.ranked.table) h.weak colours h.ranked.colours_are)
    (both_explored t rows colours classes k m h) (subst IsTable is u) (some_reached t rows colours classes k m h u))
  where
    is : laid t colours k m ≡ explored_table (with_colours t colours) k m
    is = laid_is t rows colours classes k m h

pub laid_accepts : (t : Table) (rows colours classes : List ℕ) (k m : KeyTable) → IsReached t rows colours classes k m → IsTable (laid t colours k m)
    → AcceptSameLassos t (laid t colours k m)
laid_accepts t rows colours classes k m h u = subst (AcceptSameLassos t) (sym is)
    (same_lassos_on t (with_colours t colours) (explored_table (with_colours t colours) k m) refl refl
    (recoloured_table t h.ranked.table h.some colours h.ranked.colours_are)
    (explored_accepts (with_colours t colours) h.reached_ints.classes classes k m
    (coloured_table t colours h.ranked.table h.ranked.colours_are.count (colours_below t colours h.ranked.colours_are))
    (subst (λ n. 0 < n) (sym h.ranked.colours_are.count) h.some)
    (recoloured_weak (letters t) (fraction_graph t) (fraction_is_graph t h.ranked.table) h.weak colours h.ranked.colours_are)
    (both_explored t rows colours classes k m h) (subst IsTable is u) (some_reached t rows colours classes k m h u)))
  where
    is : laid t colours k m ≡ explored_table (with_colours t colours) k m
    is = laid_is t rows colours classes k m h

-- ---- both parts are in range for the machine of classes
classes_below : (classes : List ℕ) → ((q : ℕ) → q < length classes → slice_index classes q ≤ q) → All (λ q. q < length classes) classes
classes_below classes least = λ q d lt. omega (arith, lt, get_or_default classes q d 0 lt, least q lt)

pub int_classing_in : (t : Table) (d classes : List ℕ) → IsTable t → AreClasses t.rows (letters t) (class_outs t d) classes → IsClassing (int_classing t classes)
int_classing_in t d classes h k = record {
  rows_count = h.rows_count ∙ ap (λ n. n * letters t) (sym count);
  rows_in = subst (λ n. All (λ q. q < n) t.rows) (sym count) h.rows_in;
  classes_in = classes_below classes (λ q lt. k.least q (subst (λ n. q < n) k.count lt));
  starts_in = subst (λ n. All (λ q. q < n) t.roots) (sym count) h.roots_in;
  few_cells = subst (λ n. n * (letters t + 1) ≤ 16777216) (sym count) (more_cells (ints t) (fracs t) (letters t) 16777216 h.shape.few_cells);
  few_starts = omega (arith, h.roots_count, few_signs t.base t.tracks h.shape.base_low h.shape.few_letters);
}
  where
    count : length classes ≡ ints t
    count = k.count ∙ length-map t.outs (λ q. slice_index d q)

-- a key is a state
one_state : (states : ℕ) (key : List ℕ) → IsTrue (is_state states key) → slice_index key 0 < states
one_state states key h = search rules

less_cells : (n m w limit : ℕ) → (n + m) * (w + 1) ≤ limit → m * (w + 1) ≤ limit
less_cells n m w limit h = grind arith

keys_few : (m : Steps) (keys : List (List ℕ)) → length keys ≤ weigh m keys
keys_few m [] = omega arith
keys_few m (key ∷ keys) = omega (arith, keys_few m keys)

pub fraction_classing_in : (t : Table) (d : List ℕ) (k : KeyTable) → IsTable t → 0 < fracs t → length d ≡ fracs t
    → ((q : ℕ) → q < fracs t → slice_index d q ≤ q) → AreReachedInts t d k → IsClassing (fraction_classing t d k)
fraction_classing_in t d k h some count least x = record {
  rows_count = h.frac_rows_count ∙ ap (λ n. n * letters t) (sym count);
  rows_in = subst (λ n. All (λ q. q < n) t.frac_rows) (sym count) h.frac_rows_in;
  classes_in = classes_below d (λ q lt. least q (subst (λ n. q < n) count lt));
  starts_in = λ j e lt. subst (λ n. slice_index_or (named_outs t k) j e < n) (sym count) (out_below j e (subst (λ n. j < n) outs lt));
  few_cells = subst (λ n. n * (letters t + 1) ≤ 16777216) (sym count) (less_cells (ints t) (fracs t) (letters t) 16777216 h.shape.few_cells);
  few_starts = omega (arith, outs, keys_few (quotient (int_classing t x.classes)) k.keys, x.explored.weighs, x.explored.within, (int_classing_in t d x.classes h x.behaviour).few_cells);
}
  where
    outs : length (named_outs t k) ≡ length k.keys
    outs = length-map (key_names k) (λ q. slice_index t.outs q) ∙ length-map k.keys (λ key. slice_index key 0)

    name_below : (j : ℕ) → j < length k.keys → slice_index (list_at k.keys j) 0 < ints t
    name_below j lt = subst (λ n. slice_index (list_at k.keys j) 0 < n) (x.behaviour.count ∙ length-map t.outs (λ q. slice_index d q))
        (one_state (length x.classes) (list_at k.keys j) (x.explored.proper j [] lt))

    out_below : (j e : ℕ) → j < length k.keys → slice_index_or (named_outs t k) j e < fracs t
    out_below j e lt = subst (λ q. q < fracs t)
        (sym (get_or-map (λ q. slice_index t.outs q) (key_names k) j 0 e (subst (λ n. j < n) (sym (length-map k.keys (λ key. slice_index key 0))) lt)
        ∙ ap (slice_index t.outs) (get_or-map (λ key. slice_index key 0) k.keys j [] 0 lt)))
        (out_in t h some (slice_index (list_at k.keys j) 0) (name_below j lt))

-- ---- the cells of both explorations are no more than those of the table
few_cells : (n m w limit : ℕ) → (n + m) * (w + 1) ≤ limit → n * (w + 1) + m * (w + 1) ≤ limit
few_cells n m w limit h = grind arith

pub cells_within : (t : Table) (rows colours classes : List ℕ) (k m : KeyTable) → IsReached t rows colours classes k m → k.cells + m.cells ≤ 16777216
cells_within t rows colours classes k m h = omega (
  arith,
  h.reached_ints.explored.within,
  ap (λ n. n * (letters t + 1)) (h.reached_ints.behaviour.count ∙ length-map t.outs (λ q. slice_index classes q)),
  h.reached_fractions.within,
  ap (λ n. n * (letters t + 1)) (h.ranked.classes_are.count ∙ h.ranked.colours_are.count),
  few_cells (ints t) (fracs t) (letters t) 16777216 h.ranked.table.shape.few_cells,
)

pub int_starts : (t : Table) (d : List ℕ) (k : KeyTable) → IsTable t → AreReachedInts t d k → length k.starts ≡ 2 ^ t.tracks
int_starts t d k h x = x.explored.starts_count ∙ length-map t.roots (λ q. slice_index x.classes q ∷ []) ∙ h.roots_count

pub colours_proper : (t : Table) (rows colours classes : List ℕ) (k m : KeyTable) → IsReached t rows colours classes k m
    → All (λ key. IsTrue (is_state (length colours) key)) m.keys
colours_proper t rows colours classes k m h = subst (λ n. All (λ key. IsTrue (is_state n key)) m.keys) h.ranked.classes_are.count h.reached_fractions.proper
