-- The table that is laid out of the explored sets.
use Rattle.std.proofs.Common.{◌≡◌, ℕ, ◌^◌, if◌then◌else◌, List, [], length, ◌∙◌, ap}
use Rattle.std.specs.Prelude.{slice_index}
use Rattle.std.proofs.lemmas.List.{length-map, get_or-map}
use Rattle.graph_laws.specs.Exploring.{KeyTable, IsExplored}
use Rattle.lash_model.specs.Tables.{Table, ints}
use Rattle.step_tables.specs.Kept.{Kept, plain, answered, laid}
use Rattle.subset_build.specs.Projection.{kept, AreStartSets, int_transitions, subsets, set_says, IsSubsetTable}

pub starts_of : (t : Table) (track limit : ℕ) (sets : List (List ℕ)) (k : KeyTable) → AreStartSets t track sets → IsExplored (subsets (int_transitions t) track sets) limit k → length k.starts ≡ 2 ^ kept t
starts_of t track limit sets k s e = e.starts_count ∙ s.count

pub set_table : (t : Table) (track limit base tracks : ℕ) (sets : List (List ℕ)) (k : KeyTable) (u : Kept) → AreStartSets t track sets → IsExplored (subsets (int_transitions t) track sets) limit k → u ≡ plain (laid base tracks k (answered (set_says t) k.keys)) → IsSubsetTable t track limit u.table
set_table t track limit base tracks sets k u s e is = record {
  sets = sets;
  are_starts = s;
  found = k;
  explored = e;
  states = ap (λ (v : Kept). ints v.table) is ∙ length-map k.keys (λ x. if set_says t x then 1 else 0);
  roots_are = ap (λ (v : Kept). v.table.roots) is;
  rows_are = ap (λ (v : Kept). v.table.rows) is;
  outs_are = λ i lt. ap (λ (v : Kept). slice_index v.table.outs i) is ∙ get_or-map (λ x. if set_says t x then 1 else 0) k.keys i [] 0 lt;
}
