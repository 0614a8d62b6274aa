-- The steps of a bound variable: their table stands for the set in which the variable is bound, and the words of a refusal show that set not
-- to be weak.
use Rattle.std.proofs.Common.{◌≡◌, ℕ, suc, ◌+◌, ◌*◌, ◌^◌, ◌<◌, ◌≤◌, true, List, length, arith, refl, ◌∙◌, sym, subst, inl, inr, ◌↔◌}
use Rattle.std.proofs.Math.IntN.{ℤ, pos}
use Rattle.std.specs.List.{slice_index_or}
use Rattle.std.proofs.lemmas.List.Edits.{get_or-insert_at}
use Rattle.integer_laws.specs.Vectors.{scale}
use Rattle.integer_laws.proofs.Entries.{length-vector_from}
use Rattle.lash_model.specs.Formulas.{Sort, Int, Real, Formula, Exists}
use Rattle.lash_model.specs.Meaning.{holds}
use Rattle.lash_model.specs.Sets.{set_of, bound_at, bound_by_fraction, inserted_at, IsOfFractions}
use Rattle.lash_model.specs.Standing.{StandsForMixed}
use Rattle.lash_model.specs.Tables.{Table, IsTable}
use Rattle.lash_model.proofs.FractionSets.{set_of_fractions}
use Rattle.lasso_laws.specs.WholeNumbers.{whole_at}
use Rattle.part_laws.proofs.BothKinds.{canonical_table, canonical_fractions}
use Rattle.formula_core.specs.Counts.{uses, free_places}
use Rattle.subset_build.specs.Projection.{kept}
use Rattle.subset_build.proofs.Binding.{projection_stands}
use Rattle.marked_laws.specs.Weakening.{StandsForMarked, AreShown, ShowsNotWeak}
use Rattle.marked_laws.proofs.TornWords.{torn_words_show, torn_words_shown}
use Rattle.breakpoint_laws.proofs.BreakpointTables.{marked_stands}
use Rattle.breakpoint_laws.proofs.ProjectedSets.{some_lasso_stands}
use Rattle.breakpoint_laws.proofs.Standing.{wholes_of_fractions, bound_is_exists_int}
use Rattle.set_compile.specs.Kinds.{Stands, IsShaped}
use Rattle.set_compile.specs.Positions.{spread}
use Rattle.set_compile.specs.Steps.{always, IsForgotten, IsProjectionRefused, IsForgettingRefused, ShowsRefused}
use Rattle.set_compile.specs.declared.build.Build.{Build}
use Rattle.set_compile.specs.declared.build.Mode.{Mode}
use Rattle.set_compile.specs.declared.build.Mode.TheVariants.{Whole, Mixed}
use Rattle.set_compile.specs.declared.errors.CompileError.{CompileError}
use Rattle.set_compile.specs.declared.errors.CompileError.TheVariants.{Heavy, NotWeak, Memory}
use Rattle.set_compile.proofs.Bodies.{spread_scale, length-scale, int_entries, real_entries, real_entry}
use Rattle.set_compile.proofs.Modes.{as_whole, as_mixed, stands_same}
use Rattle.set_compile.proofs.Restricting.{at_stands}
use Rattle.set_compile.proofs.Spreading.{always_holds, length-spread}

-- the body's set, over its own free places, and with a whole number at the last of them
abbrev body_set : Formula → ℕ → List ℤ → ℕ → Type 0
body_set f m = set_of f (spread (m + 1) (free_places f (m + 1)))

abbrev whole_body : Formula → ℕ → List ℤ → ℕ → Type 0
whole_body f m ns d = body_set f m ns d × whole_at (length (free_places f m)) ns d

body_of_fractions : (f : Formula) (m : ℕ) → IsOfFractions (body_set f m)
body_of_fractions f m = set_of_fractions f (spread (m + 1) (free_places f (m + 1))) (spread_scale (m + 1) (free_places f (m + 1)))

-- whole entries stay whole, both ways, over a multiple of the denominator
whole_of_fractions : (place : ℕ) → IsOfFractions (whole_at place)
whole_of_fractions place c ns d =
    let both = wholes_of_fractions always place c ns d in
    (λ w. (both.0 (always_holds ns d, w)).1, λ w. (both.1 (always_holds _ _, w)).1)

whole_body_of_fractions : (f : Formula) (m : ℕ) → IsOfFractions (whole_body f m)
whole_body_of_fractions f m c ns d =
    let a = body_of_fractions f m c ns d in
    let b = whole_of_fractions (length (free_places f m)) c ns d in
    (λ h. (a.0 h.0, b.0 h.1), λ h. (a.1 h.0, b.1 h.1))

-- a bound integer: a fraction that is whole
entry_put : (x : ℤ) (n : ℕ) (xs : List ℤ) → length xs ≡ n → slice_index_or (inserted_at n x xs) n (pos 0) ≡ x
entry_put x n xs e = get_or-insert_at xs n x (pos 0) (omega (arith, e))

pub whole_entries : (f : Formula) (m : ℕ) (ns : List ℤ) (d : ℕ) → uses m f ≡ true → length ns ≡ length (free_places f m)
    → bound_by_fraction (length (free_places f m)) (whole_body f m) ns d ↔ set_of (Exists Int f) (spread m (free_places f m)) ns d
whole_entries f m ns d used count =
    let n = length (free_places f m) in
    let zs = spread m (free_places f m) ns in
    let long : (c : ℕ) → length (scale c ns) ≡ n = λ c. length-scale c ns ∙ count in
    let wide : (c : ℕ) → length (scale c zs) ≡ m = λ c. length-scale c zs ∙ length-spread m (free_places f m) ns in
    let both = subst (λ k. bound_by_fraction k (λ ys d. holds f ys d × whole_at k ys d) zs d ↔ holds (Exists Int f) zs d) (length-spread m (free_places f m) ns)
    (bound_is_exists_int f zs d) in (
      λ h. both.0 (
        h.0,
        (
          h.1.0,
          (
            subst (λ ys. holds f ys (suc h.0 * d)) (real_entry f m (suc h.0) ns h.1.0 used count) h.1.1.0,
            (h.1.1.1.0, entry_put h.1.0 m (scale (suc h.0) zs) (wide (suc h.0)) ∙ sym (entry_put h.1.0 n (scale (suc h.0) ns) (long (suc h.0))) ∙ h.1.1.1.1),
          ),
        ),
      ),
      λ h. let b = both.1 h in (
        b.0,
        (
          b.1.0,
          (
            subst (λ ys. holds f ys (suc b.0 * d)) (sym (real_entry f m (suc b.0) ns b.1.0 used count)) b.1.1.0,
            (b.1.1.1.0, entry_put b.1.0 n (scale (suc b.0) ns) (long (suc b.0)) ∙ sym (entry_put b.1.0 m (scale (suc b.0) zs) (wide (suc b.0))) ∙ b.1.1.1.1),
          ),
        ),
      ),
    )

-- ---- what is shaped
shaped_table : (mode : Mode) (base n : ℕ) (t : Table) → IsShaped mode base n t → IsTable t
shaped_table mode base n t s = canonical_table t s.canonical

last_in : (mode : Mode) (base n : ℕ) (t : Table) → IsShaped mode base (n + 1) t → n < t.tracks
last_in mode base n t s = omega (arith, s.tracks_are)

few : (mode : Mode) (base n : ℕ) (t : Table) → IsShaped mode base n t → base ^ n ≤ 4096
few mode base n t s = subst (λ k. base ^ k ≤ 4096) s.tracks_are (subst (λ r. r ^ t.tracks ≤ 4096) s.base_is (shaped_table mode base n t s).shape.few_letters)

-- ---- the table stands for the set
pub forgotten_stands : (mode : Mode) (s : Sort) (b : Build) (m : ℕ) (f : Formula) (u t : Table) → b.mode ≡ mode → (mode ≡ Whole → s ≡ Int) → uses m f ≡ true
    → IsShaped mode b.base (length (free_places f m) + 1) u → IsShaped mode b.base (length (free_places f m)) t
    → IsForgotten mode s b (length (free_places f m)) u t → Stands u (body_set f m) → Stands t (set_of (Exists s f) (spread m (free_places f m)))
forgotten_stands Whole s b m f u t is only used su st made stands =
    subst (λ r. Stands t (set_of (Exists r f) (spread m (free_places f m)))) (sym (only refl))
    (stands_same t (bound_at (length (free_places f m)) (body_set f m)) (set_of (Exists Int f) (spread m (free_places f m)))
    (λ ns d count. int_entries f m ns d used (count ∙ st.tracks_are))
    (inl (projection_stands u (length (free_places f m)) t (body_set f m) (shaped_table Whole b.base (length (free_places f m) + 1) u su)
    (last_in Whole b.base (length (free_places f m)) u su) st.kind (st.base_is ∙ sym su.base_is) (omega (arith, st.tracks_are, su.tracks_are)) made.words
    (as_whole u (body_set f m) su.kind stands))))
forgotten_stands Mixed Real b m f u t is only used su st made stands =
    stands_same t (bound_by_fraction (length (free_places f m)) (body_set f m)) (set_of (Exists Real f) (spread m (free_places f m)))
    (λ ns d count. real_entries f m ns d used (count ∙ st.tracks_are))
    (inr (some_lasso_stands u t (length (free_places f m)) (body_set f m) (shaped_table Mixed b.base (length (free_places f m) + 1) u su)
    (last_in Mixed b.base (length (free_places f m)) u su) st.kind (st.base_is ∙ sym su.base_is) (omega (arith, st.tracks_are, su.tracks_are)) made.lassos
    (body_of_fractions f m) (as_mixed u (body_set f m) su.kind stands)))
forgotten_stands Mixed Int b m f u t is only used su st made stands =
    let n = length (free_places f m) in
    let v : Table = made.0 in
    let sv : IsShaped Mixed b.base (n + 1) v = subst (λ mode. IsShaped mode b.base (n + 1) v) is made.1.0.shape in
    let whole : StandsForMixed v (whole_body f m) = at_stands b (n + 1) n u v (body_set f m) is (omega arith) (few Mixed b.base (n + 1) u su)
    (subst (λ mode. IsShaped mode b.base (n + 1) u) (sym is) su) made.1.0 (as_mixed u (body_set f m) su.kind stands) in
    stands_same t (bound_by_fraction n (whole_body f m)) (set_of (Exists Int f) (spread m (free_places f m)))
    (λ ns d count. whole_entries f m ns d used (count ∙ st.tracks_are))
    (inr (some_lasso_stands v t n (whole_body f m) (shaped_table Mixed b.base (n + 1) v sv)
    (last_in Mixed b.base n v sv) st.kind (st.base_is ∙ sym sv.base_is) (omega (arith, st.tracks_are, sv.tracks_are)) made.1.1.lassos
    (whole_body_of_fractions f m) whole))

-- ---- the words of a refusal
shows_same : (P Q : List ℤ → ℕ → Type 0) (r n sign : ℕ) (whole stem accept reject : List ℕ) → ((ns : List ℤ) (d : ℕ) → length ns ≡ n → P ns d ↔ Q ns d)
    → ShowsNotWeak P r n sign whole stem accept reject → ShowsNotWeak Q r n sign whole stem accept reject
shows_same P Q r n sign whole stem accept reject same h = record {
  accepts = λ x. (same _ _ (length-vector_from _ 0 n)).0 (h.accepts x);
  rejects = λ x y q. h.rejects x y ((same _ _ (length-vector_from _ 0 n)).1 q);
}

-- of a table that stands for P, words that show that P with its last entry bound is not weak
refused_shows : (u : Table) (base n limit : ℕ) (P Q : List ℤ → ℕ → Type 0) (e : CompileError) → IsShaped Mixed base (n + 1) u → IsOfFractions P → StandsForMixed u P
    → ((ns : List ℤ) (d : ℕ) → length ns ≡ n → bound_by_fraction n P ns d ↔ Q ns d) → IsProjectionRefused u n limit e → ShowsRefused Q base n e
refused_shows u base n limit P Q Heavy su free stands same h = tt
refused_shows u base n limit P Q Memory su free stands same h = tt
refused_shows u base n limit P Q (NotWeak sign whole stem accept reject) su free stands same h =
    let t = h.marked in
    let bases : t.base ≡ base = h.breakpoints.base_is ∙ su.base_is in
    let tracks : t.tracks ≡ n = h.breakpoints.tracks_are ∙ kept_is in
    let marked : StandsForMarked t (bound_by_fraction n P) = marked_stands u t n limit P (shaped_table Mixed base (n + 1) u su) h.table (last_in Mixed base n u su)
    (canonical_fractions u su.canonical su.kind).weak h.breakpoints free stands in (
      subst (λ k. AreShown base k sign whole stem accept reject) tracks (subst (λ r. AreShown r t.tracks sign whole stem accept reject) bases
          (torn_words_shown t sign whole stem accept reject h.words)),
      shows_same (bound_by_fraction n P) Q base n sign whole stem accept reject same
          (subst (λ k. ShowsNotWeak (bound_by_fraction n P) base k sign whole stem accept reject) tracks
          (subst (λ r. ShowsNotWeak (bound_by_fraction n P) r t.tracks sign whole stem accept reject) bases
          (torn_words_show t (bound_by_fraction n P) marked sign whole stem accept reject h.words))),
    )
  where
    kept_is : kept u ≡ n
    kept_is = omega (arith, su.tracks_are)

pub forgetting_shows : (mode : Mode) (s : Sort) (b : Build) (m : ℕ) (f : Formula) (u : Table) (e : CompileError) → b.mode ≡ mode → uses m f ≡ true
    → IsShaped mode b.base (length (free_places f m) + 1) u → IsForgettingRefused mode s b (length (free_places f m)) u e → Stands u (body_set f m)
    → ShowsRefused (set_of (Exists s f) (spread m (free_places f m))) b.base (length (free_places f m)) e
forgetting_shows Whole s b m f u e is used su h stands = subst (λ k. ShowsRefused (set_of (Exists s f) (spread m (free_places f m))) b.base (length (free_places f m)) k) (sym h.0) tt
forgetting_shows Mixed Real b m f u e is used su h stands =
    refused_shows u b.base (length (free_places f m)) b.limit (body_set f m) (set_of (Exists Real f) (spread m (free_places f m))) e su (body_of_fractions f m)
    (as_mixed u (body_set f m) su.kind stands) (λ ns d count. real_entries f m ns d used count) h
forgetting_shows Mixed Int b m f u e is used su (inl h) stands =
    subst (λ k. ShowsRefused (set_of (Exists Int f) (spread m (free_places f m))) b.base (length (free_places f m)) k) (sym h.0) tt
forgetting_shows Mixed Int b m f u e is used su (inr h) stands =
    let n = length (free_places f m) in
    let v : Table = h.0 in
    let sv : IsShaped Mixed b.base (n + 1) v = subst (λ mode. IsShaped mode b.base (n + 1) v) is h.1.0.shape in
    let whole : StandsForMixed v (whole_body f m) = at_stands b (n + 1) n u v (body_set f m) is (omega arith) (few Mixed b.base (n + 1) u su)
    (subst (λ mode. IsShaped mode b.base (n + 1) u) (sym is) su) h.1.0 (as_mixed u (body_set f m) su.kind stands) in
    refused_shows v b.base n b.limit (whole_body f m) (set_of (Exists Int f) (spread m (free_places f m))) e sv (whole_body_of_fractions f m) whole
    (λ ns d count. whole_entries f m ns d used count) h.1.1
