-- A diagram has one list of start sets for each track, so sets that are too heavy have no table.
use Rattle.std.proofs.Common.{◌≡◌, ℕ, ◌^◌, ◌<◌, List, [], length, ◌∙◌, sym, subst}
use Rattle.std.specs.List.{slice_index_or}
use Rattle.std.proofs.lemmas.List.{same_lists, get_or_default}
use Rattle.graph_laws.specs.Exploring.{list_at, IsHeavy}
use Rattle.graph_laws.proofs.Weighing.{not_both}
use Rattle.lash_model.specs.Tables.{Table}
use Rattle.subset_build.specs.Projection.{kept, IsSignReached, AreStartSets, int_transitions, subsets, IsSubsetTable, IsHeavyProjection}
use Rattle.subset_build.proofs.RisingSets.{one_set}

pub one_list_of_starts : (t : Table) (track : ℕ) (xs ys : List (List ℕ)) → AreStartSets t track xs → AreStartSets t track ys → xs ≡ ys
one_list_of_starts t track xs ys h k = same_lists xs ys (h.count ∙ sym k.count) (λ i d lt. at i d lt (subst (λ n. i < n) h.count lt))
  where
    at : (i : ℕ) (d : List ℕ) → i < length xs → i < 2 ^ kept t → slice_index_or xs i d ≡ slice_index_or ys i d
    at i d inside lt =
        get_or_default xs i d [] inside
        ∙ one_set (IsSignReached t track i) (list_at xs i) (list_at ys i) (h.each i lt) (k.each i lt)
        ∙ get_or_default ys i [] d (subst (λ n. i < n) (sym k.count) lt)

pub not_heavy_with_table : (t : Table) (track limit : ℕ) (u : Table) → IsHeavyProjection t track limit → IsSubsetTable t track limit u → ⊥
not_heavy_with_table t track limit u heavy h = not_both (subsets (int_transitions t) track h.sets) limit h.found (subst (λ sets. IsHeavy (subsets (int_transitions t) track sets) limit) (one_list_of_starts t track heavy.sets h.sets heavy.are_starts h.are_starts) heavy.heavy) h.explored
