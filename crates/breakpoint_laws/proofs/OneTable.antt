-- A table has one breakpoint table for each track.
use Rattle.std.proofs.Common.{◌≡◌, ℕ, ◌<◌, List, length, slice_index, sym, ap, ap₂, ◌∙◌, subst}
use Rattle.std.proofs.lemmas.List.{ext_get_or}
use Rattle.graph_laws.specs.Exploring.{list_at, IsExploredInTwo}
use Rattle.lash_model.specs.Tables.{Table}
use Rattle.subset_build.specs.Projection.{int_transitions, subsets}
use Rattle.subset_build.proofs.Uniqueness.{one_list_of_starts}
use Rattle.breakpoint_laws.specs.Breakpoints.{breakpoints, entry_key, owing_of, owing_colour, IsBreakpointTable}
use Rattle.breakpoint_laws.proofs.OneExploration.{one_in_two_first, one_in_two_second}

abbrev table_of : ℕ → ℕ → List ℕ → List ℕ → List ℕ → List ℕ → List ℕ → Table
table_of base tracks roots rows outs frac_rows colours =
    record { base = base; tracks = tracks; roots = roots; rows = rows; outs = outs; frac_rows = frac_rows; colours = colours }

same_fields : (u v : Table) → u.base ≡ v.base → u.tracks ≡ v.tracks → u.roots ≡ v.roots → u.rows ≡ v.rows → u.outs ≡ v.outs → u.frac_rows ≡ v.frac_rows
    → u.colours ≡ v.colours → u ≡ v
same_fields u v b n r s o f c = ap₂ (λ x y. table_of x y u.roots u.rows u.outs u.frac_rows u.colours) b n
    ∙ ap₂ (λ x y. table_of v.base v.tracks x y u.outs u.frac_rows u.colours) r s
    ∙ ap₂ (λ x y. table_of v.base v.tracks v.roots v.rows x y u.colours) o f ∙ ap (table_of v.base v.tracks v.roots v.rows v.outs v.frac_rows) c

pub one_breakpoint_table : (t u v : Table) (track limit other : ℕ) → IsBreakpointTable t track limit u → IsBreakpointTable t track other v → u ≡ v
one_breakpoint_table t u v track limit other e f =
    same_fields u v (e.base_is ∙ sym f.base_is) (e.tracks_are ∙ sym f.tracks_are) (e.roots_are ∙ ap (λ k. k.starts) same_sets ∙ sym f.roots_are)
    (e.rows_are ∙ ap (λ k. k.rows) same_sets ∙ sym f.rows_are) (e.outs_are ∙ ap (λ k. k.starts) same_keys ∙ sym f.outs_are)
    (e.frac_rows_are ∙ ap (λ k. k.rows) same_keys ∙ sym f.frac_rows_are)
    (ext_get_or 0 u.colours v.colours (e.frac_states ∙ ap (λ k. length k.keys) same_keys ∙ sym f.frac_states)
    (λ i lt. colour i (subst (λ n. i < n) e.frac_states lt)))
  where
    explored : IsExploredInTwo (subsets (int_transitions t) track f.sets) (entry_key t) (breakpoints t track) limit e.found e.keys
    explored = subst (λ xs. IsExploredInTwo (subsets (int_transitions t) track xs) (entry_key t) (breakpoints t track) limit e.found e.keys)
        (one_list_of_starts t track e.sets f.sets e.are_starts f.are_starts) e.explored

    same_sets : e.found ≡ f.found
    same_sets = one_in_two_first (subsets (int_transitions t) track f.sets) (entry_key t) (breakpoints t track) limit other e.found e.keys f.found f.keys
        explored f.explored

    same_keys : e.keys ≡ f.keys
    same_keys = one_in_two_second (subsets (int_transitions t) track f.sets) (entry_key t) (breakpoints t track) limit other e.found e.keys f.found f.keys
        explored f.explored

    colour : (i : ℕ) → i < length e.keys.keys → slice_index u.colours i ≡ slice_index v.colours i
    colour i lt = e.colours_are i lt ∙ ap (λ k. owing_colour (owing_of (list_at k.keys i))) same_keys
        ∙ sym (f.colours_are i (subst (λ k. i < length k.keys) same_keys lt))
