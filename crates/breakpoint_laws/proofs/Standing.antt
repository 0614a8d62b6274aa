-- What the laws say: tables of formulas' sets with the track bound, and a bound variable is a fraction at the last place.
use Rattle.std.proofs.Common.{◌≡◌, ℕ, suc, ◌+◌, ◌*◌, ◌<◌, List, [], ◌∷◌, ◌++◌, length, arith, refl, ◌∙◌, sym, ap, subst}
use Rattle.std.proofs.Math.IntN.{ℤ, pos, ◌*ℤ◌}
use Rattle.std.specs.Prelude.{◌↔◌}
use Rattle.std.specs.List.{slice_index_or}
use Rattle.std.proofs.lemmas.List.Edits.{get_or-insert_at}
use Rattle.integer_laws.specs.Vectors.{scale}
use Rattle.integer_laws.proofs.Ring.{diff_same, diff_mul, by_diff, pos_diff, eq_unscaled}
use Rattle.integer_laws.proofs.Entries.{scale-append, entry-scale}
use Rattle.lash_model.specs.Formulas.{Int, Real, Formula, Exists}
use Rattle.lash_model.specs.Meaning.{holds}
use Rattle.lash_model.specs.Tables.{Table, letters, fracs, IsTable}
use Rattle.lash_model.specs.Standing.{StandsForMixed}
use Rattle.lash_model.proofs.Scaling.{holds-scale}
use Rattle.lash_model.specs.Sets.{IsOfFractions, KeepsScale, set_of, inserted_at, bound_at, bound_by_fraction}
use Rattle.lash_model.proofs.FractionSets.{set_of_fractions}
use Rattle.part_laws.specs.Graphs.{IsWeak}
use Rattle.part_laws.specs.CanonicalMixed.{fraction_graph}
use Rattle.breakpoint_laws.specs.Breakpoints.{holds_whole, IsBreakpointTable, AcceptsSomeLasso}
use Rattle.marked_laws.specs.Weakening.{StandsForMarked}
use Rattle.breakpoint_laws.proofs.Projections.{SomeNumber}
use Rattle.breakpoint_laws.proofs.WholeFractions.{SomeWhole, Divided, whole_of_some, some_of_whole}
use Rattle.breakpoint_laws.proofs.ProjectedSets.{some_lasso_stands}
use Rattle.breakpoint_laws.proofs.BreakpointTables.{marked_stands}

-- ---- sets of formulas
pub formula_projects : (t u : Table) (track limit : ℕ) (f : Formula) (placed : List ℤ → List ℤ) → IsTable t → IsTable u → track < t.tracks
    → IsWeak (letters t) (fraction_graph t) → IsBreakpointTable t track limit u → KeepsScale placed
    → StandsForMixed t (set_of f placed) → StandsForMarked u (bound_by_fraction track (set_of f placed))
formula_projects t u track limit f placed h hu lt weak e keeps stands =
    marked_stands t u track limit (set_of f placed) h hu lt weak e (set_of_fractions f placed keeps) stands

pub formula_stands : (t u : Table) (track : ℕ) (f : Formula) (placed : List ℤ → List ℤ) → IsTable t → 0 < fracs u → track < t.tracks → u.base ≡ t.base
    → u.tracks + 1 ≡ t.tracks → AcceptsSomeLasso t track u → KeepsScale placed
    → StandsForMixed t (set_of f placed) → StandsForMixed u (bound_by_fraction track (set_of f placed))
formula_stands t u track f placed h some lt base_is one_more accepts keeps stands =
    some_lasso_stands t u track (set_of f placed) h lt some base_is (omega (arith, one_more)) accepts (set_of_fractions f placed keeps) stands

-- ---- a bound real variable stands at the last place
at_end : (m : ℤ) (xs : List ℤ) → inserted_at (length xs) m xs ≡ xs ++ m ∷ []
at_end m [] = refl
at_end m (x ∷ xs) = ap (λ ys. x ∷ ys) (at_end m xs)

length-scale : (c : ℕ) (xs : List ℤ) → length (scale c xs) ≡ length xs
unfolding scale
length-scale c [] = refl
length-scale c (x ∷ xs) = ap suc (length-scale c xs)

scaled_end : (c : ℕ) (m : ℤ) (ns : List ℤ) → inserted_at (length ns) m (scale c ns) ≡ scale c ns ++ m ∷ []
scaled_end c m ns = ap (λ n. inserted_at n m (scale c ns)) (sym (length-scale c ns)) ∙ at_end m (scale c ns)

pub bound_is_exists : (f : Formula) (ns : List ℤ) (d : ℕ) → bound_by_fraction (length ns) (holds f) ns d ↔ holds (Exists Real f) ns d
unfolding holds
bound_is_exists f ns d = (
  λ b. (b.0, (b.1.0, subst (λ ys. holds f ys (suc b.0 * d)) (scaled_end (suc b.0) b.1.0 ns) b.1.1)),
  λ h. (h.0, (h.1.0, subst (λ ys. holds f ys (suc h.0 * d)) (sym (scaled_end (suc h.0) h.1.0 ns)) h.1.1)),
)

-- ---- a set whose entry at the track is whole: the fraction is a whole number
to_some : (P : List ℤ → ℕ → Type 0) (track : ℕ) (ns : List ℤ) (d : ℕ) → bound_by_fraction track P ns d → SomeNumber P track ns d
to_some P track ns d b = record {
  less = b.0;
  number = b.1.0;
  holds = b.1.1;
}

pub whole_bound : (P : List ℤ → ℕ → Type 0) (track : ℕ) → IsOfFractions P
    → ((m : ℤ) (ns : List ℤ) (d : ℕ) → P (inserted_at track m ns) d → (q : ℤ) × (m ≡ q *ℤ pos d)) → (ns : List ℤ) (d : ℕ) → bound_by_fraction track P ns d
    ↔ bound_at track P ns d
whole_bound P track free whole ns d = (
  λ b. from (whole_of_some P free track (λ m ns d h. divided m d (whole m ns d h)) ns d
      (to_some P track ns d b)),
  λ b. back (some_of_whole P track ns d (record { number = b.0; holds = b.1 })),
)
  where
    divided : (m : ℤ) (d : ℕ) → (q : ℤ) × (m ≡ q *ℤ pos d) → Divided m d
    divided m d q = record { quotient = q.0; is = q.1 }

    from : SomeWhole P track ns d → bound_at track P ns d
    from w = (w.number, w.holds)

    back : SomeNumber P track ns d → bound_by_fraction track P ns d
    back s = (s.less, (s.number, s.holds))

-- ---- a bound integer variable: the fraction at the last place is whole
whole_scaled : (c d : ℕ) (q : ℤ) → pos c *ℤ (q *ℤ pos d) ≡ q *ℤ pos (c * d)
whole_scaled c d q = by_diff (λ q. pos c *ℤ (q *ℤ pos d) ≡ q *ℤ pos (c * d)) (λ a b. simp (pos_diff, diff_mul) (diff_same _ _ _ _ (omega arith))) q

pub wholes_of_fractions : (f : Formula) (place : ℕ) → IsOfFractions (holds_whole f place)
wholes_of_fractions f place c ns d = (
  λ h. ((holds-scale f c ns d).0 h.0, (h.1.0, entry-scale (suc c) ns place ∙ ap (λ x. pos (suc c) *ℤ x) h.1.1 ∙ whole_scaled (suc c) d h.1.0)),
  λ h. (
    (holds-scale f c ns d).1 h.0,
    (
      h.1.0,
      eq_unscaled c (slice_index_or ns place (pos 0)) (h.1.0 *ℤ pos d) (sym (entry-scale (suc c) ns place) ∙ h.1.1
          ∙ sym (whole_scaled (suc c) d h.1.0)),
    ),
  ),
)

pub wholes_project : (t u : Table) (track limit place : ℕ) (f : Formula) → IsTable t → IsTable u → track < t.tracks → IsWeak (letters t) (fraction_graph t)
    → IsBreakpointTable t track limit u → StandsForMixed t (holds_whole f place) → StandsForMarked u (bound_by_fraction track (holds_whole f place))
wholes_project t u track limit place f h hu lt weak e stands =
    marked_stands t u track limit (holds_whole f place) h hu lt weak e (wholes_of_fractions f place) stands

-- the entry that was put in
entry_in : (m : ℤ) (ns xs : List ℤ) → length xs ≡ length ns → slice_index_or (inserted_at (length ns) m xs) (length ns) (pos 0) ≡ m
entry_in m ns xs e = get_or-insert_at xs (length ns) m (pos 0) (omega (arith, e))

pub bound_is_exists_int : (f : Formula) (ns : List ℤ) (d : ℕ) → bound_by_fraction (length ns) (holds_whole f (length ns)) ns d ↔ holds (Exists Int f) ns d
unfolding holds
bound_is_exists_int f ns d = (
  λ b. forth b.0 b.1.0 b.1.1.0 b.1.1.1.0 (sym (entry_in b.1.0 ns (scale (suc b.0) ns) (length-scale (suc b.0) ns))
      ∙ b.1.1.1.1),
  λ h. back h.0 h.1,
)
  where
    forth : (e : ℕ) (m : ℤ) → holds f (inserted_at (length ns) m (scale (suc e) ns)) (suc e * d) → (q : ℤ) → m ≡ q *ℤ pos (suc e * d) → (q : ℤ)
        × holds f (ns ++ (q *ℤ pos d) ∷ []) d
    forth e m h q w = (
      q,
      (holds-scale f e (ns ++ (q *ℤ pos d) ∷ []) d).1
          (subst (λ ys. holds f ys (suc e * d)) (scaled_end (suc e) m ns ∙ ap (λ y. scale (suc e) ns ++ y ∷ []) (w ∙ sym (whole_scaled (suc e) d q))
          ∙ sym (scale-append (suc e) ns (q *ℤ pos d))) h),
    )

    back : (q : ℤ) → holds f (ns ++ (q *ℤ pos d) ∷ []) d → bound_by_fraction (length ns) (holds_whole f (length ns)) ns d
    back q h = (
      0,
      (
        pos 1 *ℤ (q *ℤ pos d),
        (
          subst (λ ys. holds f ys (1 * d)) (scale-append 1 ns (q *ℤ pos d) ∙ sym (scaled_end 1 (pos 1 *ℤ (q *ℤ pos d)) ns))
              ((holds-scale f 0 (ns ++ (q *ℤ pos d) ∷ []) d).0 h),
          (
            q,
            entry_in (pos 1 *ℤ (q *ℤ pos d)) ns (scale 1 ns) (length-scale 1 ns)
                ∙ whole_scaled 1 d q,
          ),
        ),
      ),
    )
