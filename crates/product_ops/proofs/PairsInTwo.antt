-- The table of the pairs of both parts: it is what part_laws calls the table of explored pairs, so it is weak, and accepts by the truth
-- function of what the operands accept.
use Rattle.std.proofs.Common.{◌≡◌, ℕ, ◌-◌, ◌<◌, IsTrue, List, length, map, arith, refl, ◌∙◌, sym, ap, subst}
use Rattle.std.specs.Prelude.{All}
use Rattle.std.proofs.lemmas.List.{length-map}
use Rattle.std.proofs.lemmas.Option.{slice_get_within}
use Rattle.graph_laws.specs.Exploring.{KeyTable, list_at, led_by, IsHeavyInTwo, IsExplored}
use Rattle.graph_laws.proofs.Weighing.{not_in_two}
use Rattle.lash_model.specs.Tables.{Table, letters, ints, fracs, IsTable}
use Rattle.part_laws.specs.CanonicalMixed.{fraction_graph}
use Rattle.part_laws.specs.Graphs.{IsWeak}
use Rattle.part_laws.specs.MixedPairs.{ReadsInRange, AreExploredPairs, explored_pairs}
use Rattle.part_laws.proofs.PairExploring.{explored_pairs_weak, explored_pairs_accept}
use Rattle.step_tables.specs.Kept.{Kept, plain, answered, laid_in_two}
use Rattle.product_ops.specs.Tracks.{TrackLists}
use Rattle.product_ops.specs.Operations.{truth}
use Rattle.product_ops.specs.Pairs.{Operand, Operands, AreOperands, left_operand, right_operand, is_pair, pairs_of, pairs, bit}
use Rattle.product_ops.specs.FractionPairs.{IsWeakTable, LedOperands, outs_of, fraction_pairs_of, fraction_pairs, colour_says, IsPairTableInTwo}
use Rattle.product_ops.specs.ReadLassos.{side_of, AcceptsBothLassos}
use Rattle.product_ops.specs.declared.operation.Op.{Op}
use Rattle.product_ops.proofs.LassoReading.{reads_in_range}

-- ---- what was explored
pub not_heavy_in_two : (op : Op) (a b : Table) (m : TrackLists) (limit : ℕ) (t : Table) → IsHeavyInTwo (pairs a b m) (outs_of a b) (fraction_pairs a b m) limit
    → IsPairTableInTwo op a b m limit t → ⊥
not_heavy_in_two op a b m limit t heavy h = not_in_two (pairs a b m) (outs_of a b) (fraction_pairs a b m) limit h.found h.fraction_found heavy h.explored

-- the keys of a machine of two readers are pairs of their states
pub proper_pairs : (p : Operands) (l r : Operand) (limit : ℕ) (k : KeyTable) → p ≡ record { left = l; right = r } → IsExplored (pairs_of p.left p.right) limit k
    → All (λ x. IsTrue (is_pair (ints l.table) (ints r.table) x)) k.keys
proper_pairs p l r limit k e h = subst (λ (v : Operands). All (λ x. IsTrue (is_pair (ints v.left.table) (ints v.right.table) x)) k.keys) e h.proper

-- the second machine of two readers is that of the tables that they read
pub led_machine_of : (p : LedOperands) (l r : Operand) (whole : KeyTable) (a b : Table) (m : TrackLists) → p ≡ record { left = l; right = r; whole = whole }
    → l ≡ left_operand a m → r ≡ right_operand b m
    → led_by (outs_of p.left.table p.right.table) (fraction_pairs_of p.left p.right) p.whole.keys ≡ led_by (outs_of a b) (fraction_pairs a b m) whole.keys
led_machine_of p l r whole a b m e left right =
    ap (λ (v : LedOperands). led_by (outs_of v.left.table v.right.table) (fraction_pairs_of v.left v.right) v.whole.keys) e
    ∙ ap (λ (o : Operand). led_by (outs_of o.table r.table) (fraction_pairs_of o r) whole.keys) left
    ∙ ap (λ (o : Operand). led_by (outs_of a o.table) (fraction_pairs_of (left_operand a m) o) whole.keys) right

-- ---- the table
pub table_in_two : (op : Op) (a b : Table) (m : TrackLists) (limit base tracks : ℕ) (k l : KeyTable) (u : Kept)
    → IsExplored (pairs a b m) limit k → IsExplored (led_by (outs_of a b) (fraction_pairs a b m) k.keys) (limit - k.cells) l
    → u ≡ plain (laid_in_two base tracks k l (answered (colour_says op a b) l.keys)) → IsPairTableInTwo op a b m limit u.table
table_in_two op a b m limit base tracks k l u e f is = record {
  found = k;
  fraction_found = l;
  explored = record { first_part = e; second_part = f };
  states = ap (λ (v : Kept). ints v.table) is ∙ f.starts_count ∙ length-map k.keys (outs_of a b);
  roots_are = ap (λ (v : Kept). v.table.roots) is;
  rows_are = ap (λ (v : Kept). v.table.rows) is;
  outs_are = ap (λ (v : Kept). v.table.outs) is;
  fraction_rows_are = ap (λ (v : Kept). v.table.frac_rows) is;
  colours_are = ap (λ (v : Kept). v.table.colours) is;
}

same_table : (t : Table) (base tracks : ℕ) (roots rows outs frac_rows colours : List ℕ) → t.base ≡ base → t.tracks ≡ tracks → t.roots ≡ roots → t.rows ≡ rows
    → t.outs ≡ outs → t.frac_rows ≡ frac_rows → t.colours ≡ colours
    → t ≡ record { base = base; tracks = tracks; roots = roots; rows = rows; outs = outs; frac_rows = frac_rows; colours = colours }
same_table t base tracks roots rows outs frac_rows colours e f g h i j k =
    rw (← e, ← f, ← g, ← h, ← i, ← j, ← k) refl

-- the table of explored pairs of the two operands
abbrev of_pairs : Op → Table → Table → TrackLists → KeyTable → KeyTable → Table
of_pairs op a b m k l = explored_pairs a.base m.tracks (truth op) (side_of (left_operand a m)) (side_of (right_operand b m)) k l

is_of_pairs : (op : Op) (a b : Table) (m : TrackLists) (limit : ℕ) (t : Table) (h : IsPairTableInTwo op a b m limit t) → t.base ≡ a.base → t.tracks ≡ m.tracks
    → t ≡ of_pairs op a b m h.found h.fraction_found
is_of_pairs op a b m limit t h base tracks =
    same_table t a.base m.tracks h.found.starts h.found.rows h.fraction_found.starts h.fraction_found.rows
    (map (λ k. bit (colour_says op a b k)) h.fraction_found.keys)
    base tracks h.roots_are h.rows_are h.outs_are h.fraction_rows_are h.colours_are

are_explored : (op : Op) (a b : Table) (m : TrackLists) (limit : ℕ) (t : Table) → AreOperands (record { left = left_operand a m; right = right_operand b m })
    → (h : IsPairTableInTwo op a b m limit t)
    → AreExploredPairs a.base m.tracks (side_of (left_operand a m)) (side_of (right_operand b m)) h.found h.fraction_found
are_explored op a b m limit t o h = record {
  left_reads = reads_in_range (left_operand a m) o.left_is;
  right_reads = subst (λ r. ReadsInRange r m.tracks (side_of (right_operand b m))) (sym o.one_base) (reads_in_range (right_operand b m) o.right_is);
  int_limit = limit;
  fraction_limit = limit - h.found.cells;
  is_int = is_pair (ints a) (ints b);
  is_fraction = is_pair (fracs a) (fracs b);
  int_states = h.explored.first_part;
  fraction_states = h.explored.second_part;
}

-- it has fraction states
some_fraction : (op : Op) (a b : Table) (m : TrackLists) (limit : ℕ) (t : Table) → IsTable t → (h : IsPairTableInTwo op a b m limit t)
    → 0 < length h.fraction_found.keys
some_fraction op a b m limit t tab h =
    let f = h.explored.second_part in
    let some : 0 < length (map (outs_of a b) h.found.keys) = omega (arith, tab.shape.some_state, h.states, length-map h.found.keys (outs_of a b)) in
    omega (arith, slice_get_within h.fraction_found.keys _ (list_at (map (outs_of a b) h.found.keys) 0) (f.begins 0 some))

pub fractions_in_two : (op : Op) (a b : Table) (m : TrackLists) (limit : ℕ) (t : Table) → IsTable t → IsPairTableInTwo op a b m limit t → 0 < fracs t
fractions_in_two op a b m limit t tab h =
    subst (λ n. 0 < n) (sym (ap length h.colours_are ∙ length-map h.fraction_found.keys (λ k. bit (colour_says op a b k))))
    (some_fraction op a b m limit t tab h)

pub weak_in_two : (op : Op) (a b : Table) (m : TrackLists) (limit : ℕ) (t : Table) → AreOperands (record { left = left_operand a m; right = right_operand b m })
    → IsWeakTable a → IsWeakTable b → IsTable t → IsPairTableInTwo op a b m limit t → t.base ≡ a.base → t.tracks ≡ m.tracks
    → IsWeak (letters t) (fraction_graph t)
weak_in_two op a b m limit t o p q tab h base tracks =
    let is = is_of_pairs op a b m limit t h base tracks in
    subst (λ u. IsWeak (letters u) (fraction_graph u)) (sym is)
    (explored_pairs_weak a.base m.tracks (truth op) (side_of (left_operand a m)) (side_of (right_operand b m)) h.found h.fraction_found o.left_is.table
    o.right_is.table
    p.fractions q.fractions p.weak q.weak (are_explored op a b m limit t o h) (subst (λ u. IsTable u) is tab))

pub accepts_in_two : (op : Op) (a b : Table) (m : TrackLists) (limit : ℕ) (t : Table)
    → AreOperands (record { left = left_operand a m; right = right_operand b m })
    → IsWeakTable a → IsWeakTable b → IsTable t → IsPairTableInTwo op a b m limit t → t.base ≡ a.base → t.tracks ≡ m.tracks → AcceptsBothLassos op a b m t
accepts_in_two op a b m limit t o p q tab h base tracks =
    let is = is_of_pairs op a b m limit t h base tracks in
    subst (λ u. AcceptsBothLassos op a b m u) (sym is)
    (explored_pairs_accept a.base m.tracks (truth op) (side_of (left_operand a m)) (side_of (right_operand b m)) h.found h.fraction_found o.left_is.table
    o.right_is.table
    p.fractions q.fractions p.weak q.weak (are_explored op a b m limit t o h) (subst (λ u. IsTable u) is tab) (some_fraction op a b m limit t tab h))
