-- The marked table that is laid out of the explored sets and breakpoint states.
use Rattle.std.proofs.Common.{◌≡◌, ℕ, ◌-◌, ◌^◌, ◌<◌, if◌then◌else◌, List, [], ◌∷◌, length, arith, refl, ◌∙◌, ap, subst}
use Rattle.std.specs.Prelude.{slice_index}
use Rattle.std.proofs.lemmas.List.{length-map, get_or-map}
use Rattle.std.proofs.lemmas.Option.{slice_get_within}
use Rattle.graph_laws.specs.Exploring.{Steps, KeyTable, list_at, led_by, IsExplored, IsHeavy}
use Rattle.graph_laws.proofs.Weighing.{heavy_at_first, heavy_at_second}
use Rattle.lash_model.proofs.Digits.{power_positive}
use Rattle.lash_model.specs.Tables.{Table, ints, fracs}
use Rattle.step_tables.specs.Kept.{Kept, plain, answered, laid_in_two}
use Rattle.subset_build.specs.Projection.{kept, int_transitions, subsets, AreStartSets}
use Rattle.breakpoint_laws.specs.Breakpoints.{entry_key, breakpoints, owing_of, owing_colour, IsBreakpointTable, IsHeavyRealProjection}
use Rattle.breakpoint_build.specs.BreakpointMachines.{Breaking, owes, is_owing}

machine_of : (b : Breaking) (t : Table) (track : ℕ) (k : KeyTable) → b ≡ record { table = t; track = track; sets = k }
    → led_by (entry_key b.table) (breakpoints b.table b.track) b.sets.keys ≡ led_by (entry_key t) (breakpoints t track) k.keys
machine_of b t track k e = ap (λ (v : Breaking). led_by (entry_key v.table) (breakpoints v.table v.track) v.sets.keys) e

pub explored_keys : (b : Breaking) (t : Table) (track limit n : ℕ) (k l : KeyTable) → b ≡ record { table = t; track = track; sets = k } → n ≡ k.cells
    → IsExplored (led_by (entry_key b.table) (breakpoints b.table b.track) b.sets.keys) (limit - n) l
    → IsExplored (led_by (entry_key t) (breakpoints t track) k.keys) (limit - k.cells) l
explored_keys b t track limit n k l e cells x = subst (λ c. IsExplored (led_by (entry_key t) (breakpoints t track) k.keys) (limit - c) l) cells
    (subst (λ (s : Steps). IsExplored s (limit - n) l) (machine_of b t track k e) x)

-- ---- heavy
pub heavy_sets : (t : Table) (track limit : ℕ) (sets : List (List ℕ)) → AreStartSets t track sets → IsHeavy (subsets (int_transitions t) track sets) limit
    → IsHeavyRealProjection t track limit
heavy_sets t track limit sets s h = record {
  sets = sets;
  are_starts = s;
  heavy = heavy_at_first (subsets (int_transitions t) track sets) (entry_key t) (breakpoints t track) limit h;
}

pub heavy_keys : (b : Breaking) (t : Table) (track limit n : ℕ) (sets : List (List ℕ)) (k : KeyTable) → b ≡ record { table = t; track = track; sets = k } → n ≡ k.cells
    → AreStartSets t track sets → IsExplored (subsets (int_transitions t) track sets) limit k
    → IsHeavy (led_by (entry_key b.table) (breakpoints b.table b.track) b.sets.keys) (limit - n) → IsHeavyRealProjection t track limit
heavy_keys b t track limit n sets k e cells s x h = record {
  sets = sets;
  are_starts = s;
  heavy = heavy_at_second (subsets (int_transitions t) track sets) (entry_key t) (breakpoints t track) limit k x
      (subst (λ c. IsHeavy (led_by (entry_key t) (breakpoints t track) k.keys) (limit - c)) cells
      (subst (λ (s : Steps). IsHeavy s (limit - n)) (machine_of b t track k e) h));
}

-- ---- laid out
colour_is : (xs : List ℕ) → (if owes xs then 1 else 0) ≡ owing_colour xs
colour_is [] = refl
colour_is (x ∷ xs) = refl

some_power : (k : ℕ) → 0 < 2 ^ k
some_power k = power_positive 2 k (omega arith)

some_keys : (m : Steps) (limit : ℕ) (k : KeyTable) → 0 < length m.starts → IsExplored m limit k → 0 < length k.keys
some_keys m limit k some x = omega (arith, slice_get_within k.keys (slice_index k.starts 0) (list_at m.starts 0) (x.begins 0 some))

pub some_marks : (t : Table) (track limit base tracks : ℕ) (sets : List (List ℕ)) (k l : KeyTable) (u : Kept) → AreStartSets t track sets
    → IsExplored (subsets (int_transitions t) track sets) limit k → IsExplored (led_by (entry_key t) (breakpoints t track) k.keys) (limit - k.cells) l
    → u ≡ plain (laid_in_two base tracks k l (answered is_owing l.keys)) → 0 < fracs u.table
some_marks t track limit base tracks sets k l u s x y is = omega (
  arith,
  ap (λ (v : Kept). fracs v.table) is,
  length-map {B = ℕ} l.keys (λ c. if is_owing c then 1 else 0),
  some_keys (led_by (entry_key t) (breakpoints t track) k.keys) (limit - k.cells) l
      (omega (arith, length-map k.keys (entry_key t), some_keys (subsets (int_transitions t) track sets) limit k (omega (arith, s.count, some_power (kept t))) x)) y,
)

pub marked_is : (t : Table) (track limit base tracks : ℕ) (sets : List (List ℕ)) (k l : KeyTable) (u : Kept) → AreStartSets t track sets
    → IsExplored (subsets (int_transitions t) track sets) limit k → IsExplored (led_by (entry_key t) (breakpoints t track) k.keys) (limit - k.cells) l
    → base ≡ t.base → tracks ≡ t.tracks - 1 → u ≡ plain (laid_in_two base tracks k l (answered is_owing l.keys)) → IsBreakpointTable t track limit u.table
marked_is t track limit base tracks sets k l u s x y base_is tracks_are is = record {
  sets = sets;
  are_starts = s;
  found = k;
  keys = l;
  explored = record { first_part = x; second_part = y };
  base_is = ap (λ (v : Kept). v.table.base) is ∙ base_is;
  tracks_are = ap (λ (v : Kept). v.table.tracks) is ∙ tracks_are;
  states = ap (λ (v : Kept). ints v.table) is ∙ y.starts_count ∙ length-map k.keys (entry_key t);
  roots_are = ap (λ (v : Kept). v.table.roots) is;
  rows_are = ap (λ (v : Kept). v.table.rows) is;
  outs_are = ap (λ (v : Kept). v.table.outs) is;
  frac_states = ap (λ (v : Kept). fracs v.table) is ∙ length-map l.keys (λ c. if is_owing c then 1 else 0);
  frac_rows_are = ap (λ (v : Kept). v.table.frac_rows) is;
  colours_are = λ i lt. ap (λ (v : Kept). slice_index v.table.colours i) is ∙ get_or-map (λ c. if is_owing c then 1 else 0) l.keys i [] 0 lt
      ∙ colour_is (owing_of (list_at l.keys i));
}
