-- A body's free places are those of the whole, and behind them the bound variable's place, where the body uses it.
use Rattle.std.proofs.Common.{◌≡◌, ℕ, zero, suc, ◌+◌, ◌<◌, List, [], ◌∷◌, ◌++◌, ◌*◌, length, get_or, nat_eq, eqb, arith, refl, sym, ap, ap₂, ◌∙◌, subst, Bool, true, false, cond, inl, inr, IsTrue, ◌↔◌}
use Rattle.std.proofs.Math.IntN.{ℤ, pos, ◌*ℤ◌}
use Rattle.std.specs.Prelude.{All}
use Rattle.std.specs.List.{filter, range_with_len}
use Rattle.std.proofs.lemmas.Bool.{cases_lt, eq-eqb, eqb-true, ne_eqb, false≢true}
use Rattle.std.proofs.lemmas.List.{get_or_past, get_or_append_left, take_all, drop_all, length-append}
use Rattle.std.proofs.lemmas.List.Folds.{position_or_len_push}
use Rattle.std.proofs.lemmas.List.FromFn.{filter_of_map_range_with_len_more}
use Rattle.std.proofs.lemmas.List.Sums.{position_or_len_is}
use Rattle.std.proofs.Math.Seq.{get_or-append_seam}
use Rattle.integer_laws.specs.Vectors.{vector_from, vector, scale}
use Rattle.integer_laws.proofs.Entries.{vector_from_same, scale-vector_from, entry-scale}
use Rattle.integer_laws.proofs.Ring.{times_comm, times_one}
use Rattle.lash_model.specs.Formulas.{Formula, Exists, Sort, Int, Real}
use Rattle.lash_model.specs.Meaning.{holds}
use Rattle.lash_model.specs.Tables.{Table}
use Rattle.lash_model.specs.Sets.{inserted_at, set_of, bound_at, bound_by_fraction, KeepsScale}
use Rattle.lash_model.proofs.Scaling.{holds-scale}
use Rattle.breakpoint_laws.proofs.Standing.{bound_is_exists}
use Rattle.formula_core.specs.Atoms.{HasLinearAtoms}
use Rattle.formula_core.specs.Counts.{uses, free_places}
use Rattle.set_compile.specs.Kinds.{Stands}
use Rattle.set_compile.specs.Positions.{position_of, spread}
use Rattle.set_compile.proofs.Modes.{stands_same}
use Rattle.set_compile.proofs.Places.{unmapped, free_tracks}
use Rattle.set_compile.proofs.Spreading.{Depends, entry_in, length-spread}

-- ---- free places
free_more : (f : Formula) (m : ℕ) → free_places f (m + 1) ≡ free_places f m ++ cond (uses m f) (m ∷ []) []
free_more f m = ap (filter (λ p. uses p f)) (sym (unmapped (range_with_len 0 (m + 1)))) ∙ filter_of_map_range_with_len_more (λ p. uses p f) (λ p. p) 0 m m (omega arith) ∙ ap (λ ps. filter (λ p. uses p f) ps ++ cond (uses m f) (m ∷ []) []) (unmapped (range_with_len 0 m))

pub used_more : (f : Formula) (m : ℕ) → uses m f ≡ true → free_places f (m + 1) ≡ free_places f m ++ m ∷ []
used_more f m e = free_more f m ∙ ap (λ b. free_places f m ++ cond b (m ∷ []) []) e

no_more : (ps : List ℕ) → ps ++ [] ≡ ps
no_more [] = refl
no_more (p ∷ ps) = ap (λ qs. p ∷ qs) (no_more ps)

pub unused_more : (f : Formula) (m : ℕ) → uses m f ≡ false → free_places f (m + 1) ≡ free_places f m
unused_more f m e = free_more f m ∙ ap (λ b. free_places f m ++ cond b (m ∷ []) []) e ∙ no_more (free_places f m)

pub used_count : (f : Formula) (m : ℕ) → uses m f ≡ true → length (free_places f (m + 1)) ≡ length (free_places f m) + 1
used_count f m e = ap length (used_more f m e) ∙ length-append (free_places f m) (m ∷ [])

pub unused_count : (f : Formula) (m : ℕ) → uses m f ≡ false → length (free_places f (m + 1)) ≡ length (free_places f m)
unused_count f m e = ap length (unused_more f m e)

-- the counts of free places tell whether the body uses the bound variable
pub tells_used : (f : Formula) (m : ℕ) → (length (free_places f (m + 1)) ≡ length (free_places f m) → ⊥) → uses m f ≡ true
tells_used f m other = by (uses m f) refl
  where
    by : (b : Bool) → uses m f ≡ b → uses m f ≡ true
    by true e = e
    by false e = absurd (other (unused_count f m e))

pub tells_unused : (f : Formula) (m : ℕ) → length (free_places f (m + 1)) ≡ length (free_places f m) → uses m f ≡ false
tells_unused f m same = by (uses m f) refl
  where
    by : (b : Bool) → uses m f ≡ b → uses m f ≡ false
    by true e = absurd (omega (arith, same, used_count f m e))
    by false e = e

-- ---- vectors
vector_push : (g : ℕ → ℤ) (i n : ℕ) → vector_from g i (suc n) ≡ vector_from g i n ++ g (i + n) ∷ []
unfolding vector_from
vector_push g i zero = ap (λ j. let xs : List ℤ = g j ∷ [] in xs) (more_zero i)
  where
    more_zero : (i : ℕ) → i ≡ i + zero
    more_zero i = omega arith
vector_push g i (suc n) = ap (λ xs. g i ∷ xs) (vector_push g (suc i) n ∙ ap (λ j. vector_from g (suc i) n ++ g j ∷ []) (moved i n))
  where
    moved : (i n : ℕ) → suc i + n ≡ i + suc n
    moved i n = omega arith

at_end : (ns : List ℤ) (x : ℤ) (n : ℕ) → length ns ≡ n → get_or (ns ++ x ∷ []) n (pos 0) ≡ x
at_end ns x n e = subst (λ k. get_or (ns ++ x ∷ []) k (pos 0) ≡ x) e (get_or-append_seam ns x [] (pos 0))

-- the entry for another place than the last, which stands at a position or is not listed
other_entry : (ns : List ℤ) (x : ℤ) (q n : ℕ) (b : Bool) → length ns ≡ n → eqb q n ≡ b → get_or (ns ++ x ∷ []) (cond b (n + 1) q) (pos 0) ≡ get_or ns q (pos 0)
other_entry ns x q n true count e = get_or_past (ns ++ x ∷ []) (n + 1) (pos 0) (omega (arith, length-append ns (x ∷ []), count)) ∙ sym (get_or_past ns q (pos 0) (omega (arith, count, eqb-true q n e)))
other_entry ns x q n false count e = elim (cases_lt q n) [
  | inl lt ↦ get_or_append_left ns (x ∷ []) (pos 0) q (omega (arith, lt, count))
  | inr ge ↦
      let apart : q ≡ n → ⊥ = λ same. false≢true (sym e ∙ eq-eqb q n same) in
      get_or_past (ns ++ x ∷ []) q (pos 0) (omega (arith, length-append ns (x ∷ []), count, ge, apart)) ∙ sym (get_or_past ns q (pos 0) (omega (arith, count, ge)))
]

spread_more : (m : ℕ) (us : List ℕ) (ns : List ℤ) (x : ℤ) → All (λ i. i < m) us → length ns ≡ length us → spread (m + 1) (us ++ m ∷ []) (ns ++ x ∷ []) ≡ spread m us ns ++ x ∷ []
spread_more m us ns x below count = ap (λ k. vector wide k) (omega arith) ∙ vector_push wide 0 m ∙ ap₂ (λ xs y. xs ++ y ∷ []) (vector_from_same wide narrow 0 m (λ p low high. kept p (omega (arith, high)))) (ap wide (omega arith) ∙ last)
  where
    wide : ℕ → ℤ
    wide p = get_or (ns ++ x ∷ []) (position_of (us ++ m ∷ []) p) (pos 0)

    narrow : ℕ → ℤ
    narrow p = get_or ns (position_of us p) (pos 0)

    kept : (p : ℕ) → p < m → wide p ≡ narrow p
    kept p lt =
        ap (λ k. get_or (ns ++ x ∷ []) k (pos 0)) (position_or_len_push (nat_eq p) us m ∙ ap (λ b. cond (eqb (position_of us p) (length us)) (length us + cond b 0 1) (position_of us p)) (ne_eqb p m (λ e. omega (arith, lt, e))))
        ∙ other_entry ns x (position_of us p) (length us) (eqb (position_of us p) (length us)) count refl

    unlisted : position_of us m ≡ length us
    unlisted = position_or_len_is (nat_eq m) us (length us) 0 (omega arith) (λ k lt. ne_eqb m (get_or us k 0) (λ e. omega (arith, below k 0 lt, e))) (λ lt. absurd (omega (arith, lt)))

    last : wide m ≡ x
    last =
        ap (λ k. get_or (ns ++ x ∷ []) k (pos 0)) (position_or_len_push (nat_eq m) us m
        ∙ ap₂ (λ b c. cond b (length us + cond c 0 1) (position_of us m)) (eq-eqb (position_of us m) (length us) unlisted) (eq-eqb m m refl))
        ∙ at_end ns x (length us + 0) (omega (arith, count))

inserted_behind : (n : ℕ) (ns : List ℤ) (x : ℤ) → length ns ≡ n → inserted_at n x ns ≡ ns ++ x ∷ []
inserted_behind n ns x e = ap₂ (λ a b. a ++ x ∷ b) (take_all n ns (omega (arith, e))) (drop_all n ns (omega (arith, e)))

-- ---- scaled vectors
pub scale_once : (xs : List ℤ) → scale 1 xs ≡ xs
unfolding scale
scale_once [] = refl
scale_once (x ∷ xs) = ap₂ (λ y ys. y ∷ ys) (times_comm (pos 1) x ∙ times_one x) (scale_once xs)

pub length-scale : (c : ℕ) (xs : List ℤ) → length (scale c xs) ≡ length xs
unfolding scale
length-scale c [] = refl
length-scale c (x ∷ xs) = ap suc (length-scale c xs)

pub spread_scale : (m : ℕ) (us : List ℕ) → KeepsScale (spread m us)
spread_scale m us c ns = vector_from_same (λ p. get_or (scale c ns) (position_of us p) (pos 0)) (λ p. pos c *ℤ get_or ns (position_of us p) (pos 0)) 0 m
    (λ p low high. entry-scale c ns (position_of us p)) ∙ sym (scale-vector_from c (λ p. get_or ns (position_of us p) (pos 0)) 0 m)

-- ---- the body's numerators
pub with_entry : (f : Formula) (m : ℕ) (ns : List ℤ) (x : ℤ) → uses m f ≡ true → length ns ≡ length (free_places f m)
    → spread (m + 1) (free_places f (m + 1)) (inserted_at (length (free_places f m)) x ns) ≡ spread m (free_places f m) ns ++ x ∷ []
with_entry f m ns x used count = ap₂ (spread (m + 1)) (used_more f m used) (inserted_behind (length (free_places f m)) ns x count)
    ∙ spread_more m (free_places f m) ns x (free_tracks f m).below count

-- the set of the body with its last entry bound by a whole number, and by a fraction
pub int_entries : (f : Formula) (m : ℕ) (ns : List ℤ) (d : ℕ) → uses m f ≡ true → length ns ≡ length (free_places f m)
    → bound_at (length (free_places f m)) (set_of f (spread (m + 1) (free_places f (m + 1)))) ns d ↔ set_of (Exists Int f) (spread m (free_places f m)) ns d
unfolding holds
int_entries f m ns d used count = (
  λ h. (h.0, subst (λ zs. holds f zs d) (with_entry f m ns (h.0 *ℤ pos d) used count) h.1),
  λ h. (h.0, subst (λ zs. holds f zs d) (sym (with_entry f m ns (h.0 *ℤ pos d) used count)) h.1),
)

pub real_entry : (f : Formula) (m c : ℕ) (ns : List ℤ) (x : ℤ) → uses m f ≡ true → length ns ≡ length (free_places f m)
    → spread (m + 1) (free_places f (m + 1)) (inserted_at (length (free_places f m)) x (scale c ns)) ≡ inserted_at m x (scale c (spread m (free_places f m) ns))
real_entry f m c ns x used count = with_entry f m (scale c ns) x used (length-scale c ns ∙ count)
    ∙ ap (λ zs. zs ++ x ∷ []) (spread_scale m (free_places f m) c ns)
    ∙ sym (inserted_behind m (scale c (spread m (free_places f m) ns)) x (length-scale c (spread m (free_places f m) ns) ∙ length-spread m (free_places f m) ns))

pub real_entries : (f : Formula) (m : ℕ) (ns : List ℤ) (d : ℕ) → uses m f ≡ true → length ns ≡ length (free_places f m)
    → bound_by_fraction (length (free_places f m)) (set_of f (spread (m + 1) (free_places f (m + 1)))) ns d ↔ set_of (Exists Real f) (spread m (free_places f m)) ns d
real_entries f m ns d used count =
    let zs = spread m (free_places f m) ns in
    let both = subst (λ k. bound_by_fraction k (holds f) zs d ↔ holds (Exists Real f) zs d) (length-spread m (free_places f m) ns) (bound_is_exists f zs d) in (
      λ h. both.0 (h.0, (h.1.0, subst (λ ys. holds f ys (suc h.0 * d)) (real_entry f m (suc h.0) ns h.1.0 used count) h.1.1)),
      λ h. let b = both.1 h in (b.0, (b.1.0, subst (λ ys. holds f ys (suc b.0 * d)) (sym (real_entry f m (suc b.0) ns b.1.0 used count)) b.1.1)),
    )

-- ---- tables
-- if the body does not use the bound variable, its table stands for the whole
pub unbound_stands : Depends → (s : Sort) (t : Table) (f : Formula) (m : ℕ) → HasLinearAtoms f → uses m f ≡ false
    → Stands t (set_of f (spread (m + 1) (free_places f (m + 1)))) → Stands t (set_of (Exists s f) (spread m (free_places f m)))
unfolding holds
unbound_stands law s t f m linear unused stands = stands_same t (set_of f (spread (m + 1) (free_places f (m + 1)))) (set_of (Exists s f) (spread m vs)) (λ ns d count. by s ns d) stands
  where
    vs : List ℕ
    vs = free_places f m

    wide : List ℤ → List ℤ
    wide ns = spread (m + 1) (free_places f (m + 1)) ns

    pushed : (c : ℕ) (ns : List ℤ) (x : ℤ) → length (scale c (spread m vs ns) ++ x ∷ []) ≡ m + 1
    pushed c ns x = length-append (scale c (spread m vs ns)) (x ∷ []) ∙ ap (λ n. n + 1) (length-scale c (spread m vs ns) ∙ length-spread m vs ns)

    kept : (ns : List ℤ) (p : ℕ) → p < m → get_or (wide ns) p (pos 0) ≡ get_or (spread m vs ns) p (pos 0)
    kept ns p lt = entry_in (m + 1) (free_places f (m + 1)) ns p (omega (arith, lt))
        ∙ ap (λ us. get_or ns (position_of us p) (pos 0)) (unused_more f m unused) ∙ sym (entry_in m vs ns p lt)

    each : (c : ℕ) (ns : List ℤ) (x : ℤ) (p : ℕ) → IsTrue (uses p f) → get_or (scale c (wide ns)) p (pos 0) ≡ get_or (scale c (spread m vs ns) ++ x ∷ []) p (pos 0)
    each c ns x p used = elim (cases_lt p m) [
      | inl lt ↦
          entry-scale c (wide ns) p ∙ ap (λ y. pos c *ℤ y) (kept ns p lt) ∙ sym (entry-scale c (spread m vs ns) p)
          ∙ sym (get_or_append_left (scale c (spread m vs ns)) (x ∷ []) (pos 0) p (omega (arith, lt, length-scale c (spread m vs ns), length-spread m vs ns)))
      | inr ge ↦
          let apart : p ≡ m → ⊥ = λ e. false≢true (sym unused ∙ subst (λ q. uses q f ≡ true) e used) in
          get_or_past (scale c (wide ns)) p (pos 0) (omega (arith, ge, apart, length-scale c (wide ns), length-spread (m + 1) (free_places f (m + 1)) ns))
          ∙ sym (get_or_past (scale c (spread m vs ns) ++ x ∷ []) p (pos 0) (omega (arith, ge, apart, pushed c ns x)))
    ]

    same : (c : ℕ) (ns : List ℤ) (x : ℤ) (d : ℕ) → holds f (scale c (wide ns)) d ↔ holds f (scale c (spread m vs ns) ++ x ∷ []) d
    same c ns x d = law f (scale c (wide ns)) (scale c (spread m vs ns) ++ x ∷ []) d linear
        (length-scale c (wide ns) ∙ length-spread (m + 1) (free_places f (m + 1)) ns ∙ sym (pushed c ns x)) (each c ns x)

    once : (xs : List ℤ) → scale 1 xs ≡ xs
    once xs = scale_once xs

    whole : (ns : List ℤ) (x : ℤ) (d : ℕ) → holds f (wide ns) d ↔ holds f (spread m vs ns ++ x ∷ []) d
    whole ns x d = let both = same 1 ns x d in (
      λ h. subst (λ xs. holds f (xs ++ x ∷ []) d) (once (spread m vs ns)) (both.0 (subst (λ xs. holds f xs d) (sym (once (wide ns))) h)),
      λ h. subst (λ xs. holds f xs d) (once (wide ns)) (both.1 (subst (λ xs. holds f (xs ++ x ∷ []) d) (sym (once (spread m vs ns))) h)),
    )

    by : (s : Sort) (ns : List ℤ) (d : ℕ) → holds f (wide ns) d ↔ holds (Exists s f) (spread m vs ns) d
    by Int ns d = (λ h. (pos 0, (whole ns (pos 0 *ℤ pos d) d).0 h), λ h. (whole ns (h.0 *ℤ pos d) d).1 h.1)
    by Real ns d = (
      λ h. (0, (pos 0, (same 1 ns (pos 0) (1 * d)).0 ((holds-scale f 0 (wide ns) d).0 h))),
      λ h. (holds-scale f h.0 (wide ns) d).1 ((same (suc h.0) ns h.1.0 (suc h.0 * d)).1 h.1.1),
    )
