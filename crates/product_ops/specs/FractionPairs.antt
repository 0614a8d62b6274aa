-- The pairs of fraction states of two tables with fraction states, which start at the outputs of the reached pairs of integer states (the
-- synchronous product), as a machine whose keys are pairs; and the table of both parts.
use Rattle.std.specs.Prelude.{◌≡◌, ℕ, ◌+◌, ◌*◌, ◌^◌, ◌<◌, Bool, ◌⊎◌, List, [], length, slice_index, map, All, IsTrue}
use Rattle.graph_laws.specs.Exploring.{Steps, KeyTable, IsExploredInTwo}
use Rattle.lash_model.specs.Tables.{Table, letters, ints, fracs, IsDiagram}
use Rattle.part_laws.specs.Graphs.{is_yes, IsWeak}
use Rattle.part_laws.specs.CanonicalMixed.{fraction_graph}
use Rattle.product_ops.specs.Tracks.{TrackLists, read_by}
use Rattle.product_ops.specs.Operations.{truth}
use Rattle.product_ops.specs.Pairs.{Operand, AreOperands, left_operand, right_operand, pair, is_pair, pairs, bit}
use Rattle.product_ops.specs.declared.operation.Op.{Op}

-- a table with fraction states whose fraction part is weak
pub record IsWeakTable (t : Table) : Type 0 where
  pub fractions : 0 < fracs t
  pub weak : IsWeak (letters t) (fraction_graph t)

-- both tables are diagrams, or both have fraction states and are weak
abbrev pub AreOneKind : Table → Table → Type 0
AreOneKind a b = (IsDiagram a × IsDiagram b) ⊎ (IsWeakTable a × IsWeakTable b)

-- the fraction state of an operand to which a letter of the result leads from one
abbrev pub fraction_step_by : Operand → ℕ → ℕ → ℕ
fraction_step_by o q l = slice_index o.table.frac_rows (q * letters o.table + read_by o.table.base o.tracks o.places l)

-- the outputs of a pair of integer states: the pair of fraction states to which it leads
abbrev pub outs_of : Table → Table → List ℕ → List ℕ
outs_of a b k = pair (slice_index a.outs (slice_index k 0)) (slice_index b.outs (slice_index k 1))

-- the machine of pairs of fraction states, whose starts are those to which the integer states lead: on each letter both go on, and a pair
-- weighs its two entries
abbrev pub fraction_pairs_of : Operand → Operand → Steps
fraction_pairs_of a b = record {
  width = a.table.base ^ a.tracks;
  starts = [];
  step = λ k l. pair (fraction_step_by a (slice_index k 0) l) (fraction_step_by b (slice_index k 1) l);
  weight = λ _. 2;
  is_proper = is_pair (fracs a.table) (fracs b.table);
}

-- of two tables read by a map of tracks
abbrev pub fraction_pairs : Table → Table → TrackLists → Steps
fraction_pairs a b m = fraction_pairs_of (left_operand a m) (right_operand b m)

-- two operands, and what was explored of their pairs of integer states
pub record LedOperands : Type 0 where
  pub left : Operand
  pub right : Operand
  pub whole : KeyTable

-- both operands have fraction states, and what was explored is pairs of their integer states
pub record AreLed (width : ℕ) (p : LedOperands) : Type 0 where
  pub width_is : width ≡ p.left.table.base ^ p.left.tracks
  pub operands : AreOperands (record { left = p.left; right = p.right })
  pub left_fractions : 0 < fracs p.left.table
  pub right_fractions : 0 < fracs p.right.table
  pub proper : All (λ k. IsTrue (is_pair (ints p.left.table) (ints p.right.table) k)) p.whole.keys

-- whether the colour of a pair of fraction states is yes
abbrev pub colour_says : Op → Table → Table → List ℕ → Bool
colour_says op a b k = truth op (is_yes (fraction_graph a) (slice_index k 0)) (is_yes (fraction_graph b) (slice_index k 1))

-- the table of exactly the reached pairs of both parts, each part numbered by its least paths, within the limit of cells for both together
pub record IsPairTableInTwo (op : Op) (a b : Table) (m : TrackLists) (limit : ℕ) (t : Table) : Type 0 where
  pub found : KeyTable
  pub fraction_found : KeyTable
  pub explored : IsExploredInTwo (pairs a b m) (outs_of a b) (fraction_pairs a b m) limit found fraction_found
  pub states : ints t ≡ length found.keys
  pub roots_are : t.roots ≡ found.starts
  pub rows_are : t.rows ≡ found.rows
  pub outs_are : t.outs ≡ fraction_found.starts
  pub fraction_rows_are : t.frac_rows ≡ fraction_found.rows
  pub colours_are : t.colours ≡ map (λ k. bit (colour_says op a b k)) fraction_found.keys
