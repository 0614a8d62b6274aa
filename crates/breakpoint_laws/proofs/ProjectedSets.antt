-- An automaton that accepts exactly the lassos over which the given table accepts some lasso of all tracks stands for the set in which the
-- track is bound by a fraction.
use Rattle.std.proofs.Common.{◌≡◌, ℕ, suc, ◌-◌, ◌*◌, ◌^◌, ◌<◌, List, [], ◌∷◌, length, arith, sym, subst}
use Rattle.std.specs.Prelude.{◌↔◌, IsTrue}
use Rattle.std.specs.List.{AllByRecursion}
use Rattle.std.proofs.Math.IntN.{ℤ}
use Rattle.std.proofs.lemmas.List.Elements.{recursion_from_All}
use Rattle.lash_model.specs.Lassos.{Lasso, IsLasso, denominator, numerators}
use Rattle.lash_model.specs.Sets.{IsOfFractions, bound_by_fraction}
use Rattle.lash_model.specs.Standing.{StandsForMixed}
use Rattle.lash_model.specs.Tables.{Table, fracs, IsTable}
use Rattle.lash_model.specs.Acceptance.{accepts_marked}
use Rattle.lasso_laws.proofs.Moving.{den}
use Rattle.subset_build.specs.Projection.{kept}
use Rattle.marked_laws.specs.Weakening.{StandsForMarked}
use Rattle.breakpoint_laws.specs.Breakpoints.{IsLassoAcceptedOver, AcceptsSomeLasso}
use Rattle.breakpoint_laws.proofs.Machines.{Narrow}
use Rattle.breakpoint_laws.proofs.Projections.{Setting, OverWhole, SomeNumber, OneTrack, numbers, number_of_lifted, lifted_of_track, den_positive}
use Rattle.breakpoint_laws.proofs.TrackSettings.{setting, lasso_of, kept_numbers}
use Rattle.breakpoint_laws.proofs.TableGraphs.{frac_graph}
use Rattle.breakpoint_laws.proofs.TrackLetters.{within, track_setting}
use Rattle.breakpoint_laws.proofs.TrackRuns.{entered, table_stands}
use Rattle.breakpoint_laws.proofs.LassosOver.{completed, lifted_over}
use Rattle.breakpoint_laws.proofs.OneTracks.{one_track}

pub narrow_of : (width : ℕ) (w : List ℕ) → AllByRecursion (λ l. l < width) w → Narrow width w
unfolding Narrow
narrow_of width [] a = tt
narrow_of width (l ∷ w) a = (a.0, narrow_of width w a.1)

-- the numbers and the denominator of the kept tracks are those of the lasso
bound_is : (t : Table) (track : ℕ) (h : IsTable t) (lt : track < t.tracks) (P : List ℤ → ℕ → Type 0) (s : ℕ) (w up v : List ℕ) → s < 2 ^ kept t
    → (SomeNumber P track (numbers t.base ((track_setting t track h lt).tracks s) w up v) (den t.base (length up) (length v))
    → bound_by_fraction track P (numerators t.base (kept t) (lasso_of s w up v)) (denominator t.base (lasso_of s w up v)))
    × (bound_by_fraction track P (numerators t.base (kept t) (lasso_of s w up v)) (denominator t.base (lasso_of s w up v))
    → SomeNumber P track (numbers t.base ((track_setting t track h lt).tracks s) w up v) (den t.base (length up) (length v)))
unfolding denominator den track_setting
bound_is t track h lt P s w up v sb = (
  λ p. subst (λ ns. bound_by_fraction track P ns (t.base ^ length up * (t.base ^ length v - 1))) same (
    p.less,
    (
      p.number,
      p.holds,
    ),
  ),
  λ b. backward (subst (λ ns. bound_by_fraction track P ns (t.base ^ length up * (t.base ^ length v - 1))) (sym same) b),
)
  where
    ns : List ℤ
    ns = numbers t.base ((setting t.base (kept t) track h.shape.base_low (within t track lt)).tracks s) w up v

    same : ns ≡ numerators t.base (kept t) (lasso_of s w up v)
    same = kept_numbers t.base (kept t) track s h.shape.base_low (within t track lt) w up v sb

    backward : bound_by_fraction track P ns (t.base ^ length up * (t.base ^ length v - 1)) → SomeNumber P track ns (t.base ^ length up * (t.base ^ length v - 1))
    backward b = record {
      less = b.0;
      number = b.1.0;
      holds = b.1.1;
    }

-- over a lasso a lasso of all tracks is accepted exactly if the lasso's point is in the set with the track bound
over_is_bound : (t : Table) (track : ℕ) (h : IsTable t) (lt : track < t.tracks) (P : List ℤ → ℕ → Type 0) → IsOfFractions P → StandsForMixed t P
    → (s : ℕ) (w up : List ℕ) (l : ℕ) (v : List ℕ) → s < 2 ^ kept t → AllByRecursion (λ l. l < t.base ^ kept t) w
    → AllByRecursion (λ l. l < t.base ^ kept t) up → AllByRecursion (λ l. l < t.base ^ kept t) (l ∷ v)
    → IsLassoAcceptedOver t track (lasso_of s w up (l ∷ v))
    ↔ SomeNumber P track (numbers t.base ((track_setting t track h lt).tracks s) w up (l ∷ v)) (den t.base (length up) (length (l ∷ v)))
unfolding track_setting setting
over_is_bound t track h lt P free stands s w up l v sb w_in up_in v_in = (
  λ a. number_of_lifted z (frac_graph t h) (λ q. OverWhole z (entered t h) s w q) (entered t h) P (table_stands t track h lt P stands) s w (λ q o. o) up l v
      (lifted_over t track h lt s w up (l ∷ v) sb w_in up_in v_in a),
  λ p. completed t track h lt s w up (l ∷ v) sb
      (lifted_of_track z (frac_graph t h) (λ q. OverWhole z (entered t h) s w q) (entered t h) P free (table_stands t track h lt P stands) s sb w
      (narrow_of z.width w w_in) (λ q o. o) up l v (narrow_of z.width up up_in) (narrow_of z.width (l ∷ v) v_in) p (track_of p)),
)
  where
    z : Setting
    z = track_setting t track h lt

    positive : (e d : ℕ) → 0 < d → 0 < suc e * d
    positive e d k = grind arith

    track_of : (p : SomeNumber P track (numbers t.base ((track_setting t track h lt).tracks s) w up (l ∷ v)) (den t.base (length up) (length (l ∷ v))))
        → OneTrack t.base p.number (suc p.less * den t.base (length up) (length (l ∷ v)))
    track_of p = one_track t.base p.number (suc p.less * den t.base (length up) (length (l ∷ v))) h.shape.base_low
        (positive p.less (den t.base (length up) (length (l ∷ v))) (den_positive t.base (length up) (length v) h.shape.base_low))

over_by : (t : Table) (track : ℕ) → IsTable t → track < t.tracks → (P : List ℤ → ℕ → Type 0) → IsOfFractions P → StandsForMixed t P
    → (s : ℕ) (w up v : List ℕ) → IsLasso t.base (kept t) (lasso_of s w up v) → IsLassoAcceptedOver t track (lasso_of s w up v)
    ↔ bound_by_fraction track P (numerators t.base (kept t) (lasso_of s w up v)) (denominator t.base (lasso_of s w up v))
over_by t track h lt P free stands s w up [] i = absurd (omega (arith, i.turns))
over_by t track h lt P free stands s w up (l ∷ v) i = (
  λ a. (bound_is t track h lt P s w up (l ∷ v) i.sign).0 (by.0 a),
  λ b. by.1 ((bound_is t track h lt P s w up (l ∷ v) i.sign).1 b),
)
  where
    by : IsLassoAcceptedOver t track (lasso_of s w up (l ∷ v))
        ↔ SomeNumber P track (numbers t.base ((track_setting t track h lt).tracks s) w up (l ∷ v)) (den t.base (length up) (length (l ∷ v)))
    by = over_is_bound t track h lt P free stands s w up l v i.sign (recursion_from_All (λ l. l < t.base ^ kept t) w i.whole)
        (recursion_from_All (λ l. l < t.base ^ kept t) up i.stem) (recursion_from_All (λ l. l < t.base ^ kept t) (l ∷ v) i.cycle)

-- a lasso of the kept tracks, of an automaton over them
pub over_is : (t u : Table) (track : ℕ) (P : List ℤ → ℕ → Type 0) → IsTable t → track < t.tracks → u.base ≡ t.base → u.tracks ≡ kept t → IsOfFractions P
    → StandsForMixed t P → (x : Lasso) → IsLasso u.base u.tracks x
    → IsLassoAcceptedOver t track x ↔ bound_by_fraction track P (numerators u.base u.tracks x) (denominator u.base x)
over_is t u track P h lt base_is tracks_are free stands x i = (λ a. to_made (by.0 a), λ b. by.1 (from_made b))
  where
    by : IsLassoAcceptedOver t track x ↔ bound_by_fraction track P (numerators t.base (kept t) x) (denominator t.base x)
    by = over_by t track h lt P free stands x.sign x.whole x.stem x.cycle
        (subst (λ n. IsLasso t.base n x) tracks_are (subst (λ b. IsLasso b u.tracks x) base_is i))

    to_made : bound_by_fraction track P (numerators t.base (kept t) x) (denominator t.base x)
        → bound_by_fraction track P (numerators u.base u.tracks x) (denominator u.base x)
    to_made b = subst (λ r. bound_by_fraction track P (numerators r u.tracks x) (denominator r x)) (sym base_is)
        (subst (λ n. bound_by_fraction track P (numerators t.base n x) (denominator t.base x)) (sym tracks_are) b)

    from_made : bound_by_fraction track P (numerators u.base u.tracks x) (denominator u.base x)
        → bound_by_fraction track P (numerators t.base (kept t) x) (denominator t.base x)
    from_made b = subst (λ n. bound_by_fraction track P (numerators t.base n x) (denominator t.base x)) tracks_are
        (subst (λ r. bound_by_fraction track P (numerators r u.tracks x) (denominator r x)) base_is b)

-- so it stands for that set
pub some_lasso_stands : (t u : Table) (track : ℕ) (P : List ℤ → ℕ → Type 0) → IsTable t → track < t.tracks → 0 < fracs u → u.base ≡ t.base → u.tracks ≡ kept t
    → AcceptsSomeLasso t track u → IsOfFractions P → StandsForMixed t P → StandsForMixed u (bound_by_fraction track P)
some_lasso_stands t u track P h lt some base_is tracks_are accepts free stands = record {
  fractions = some;
  each = λ x i. (
    λ a. (over_is t u track P h lt base_is tracks_are free stands x i).0 ((accepts x i).0 a),
    λ b. (accepts x i).1 ((over_is t u track P h lt base_is tracks_are free stands x i).1 b),
  );
}

-- and it does by its marks, if it accepts so by them
pub some_lasso_marked : (t u : Table) (track : ℕ) (P : List ℤ → ℕ → Type 0) → IsTable t → track < t.tracks → 0 < fracs u → u.base ≡ t.base → u.tracks ≡ kept t
    → ((x : Lasso) → IsLasso u.base u.tracks x → IsTrue (accepts_marked u x) ↔ IsLassoAcceptedOver t track x) → IsOfFractions P → StandsForMixed t P
    → StandsForMarked u (bound_by_fraction track P)
some_lasso_marked t u track P h lt some base_is tracks_are accepts free stands = record {
  fractions = some;
  each = λ x i. (
    λ a. (over_is t u track P h lt base_is tracks_are free stands x i).0 ((accepts x i).0 a),
    λ b. (accepts x i).1 ((over_is t u track P h lt base_is tracks_are free stands x i).1 b),
  );
}
