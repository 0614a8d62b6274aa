-- From the steps of a formula to its table over declared variables.
use Rattle.std.proofs.Common.{◌≡◌, ℕ, ◌+◌, ◌^◌, ◌<◌, ◌≤◌, List, [], ◌∷◌, length, map, drop, get_or, arith, refl, sym, ap, ◌∙◌, subst, ◌↔◌, Bool, true, false, cond}
use mathlib.Core.Logic.{inl, inr}
use Rattle.std.proofs.Math.IntN.{ℤ, pos}
use Rattle.std.specs.Prelude.{◌&&◌}
use Rattle.std.specs.List.{list_all}
use Rattle.std.proofs.lemmas.Bool.{false≢true}
use Rattle.std.proofs.lemmas.List.{drop_more, length-map}
use Rattle.std.proofs.lemmas.List.Elements.{All-from_recursion}
use Rattle.lash_model.specs.Formulas.{Sort, Int, Real, Formula, Atom, Not, And, Or, Exists}
use Rattle.lash_model.specs.Meaning.{holds, IsWhole, Solves}
use Rattle.lash_model.specs.Sets.{IsOfFractions}
use Rattle.lash_model.specs.Standing.{StandsFor, StandsForWhole, StandsForMixed}
use Rattle.lash_model.specs.Tables.{Table, letters, IsTable, IsDiagram}
use Rattle.lash_model.proofs.Scaling.{holds-scale}
use Rattle.canonical_laws.proofs.Carrying.{stands_carried}
use Rattle.part_laws.proofs.BothKinds.{canonical_table}
use Rattle.formula_core.specs.Counts.{is_int, binds_ints}
use Rattle.formula_core.specs.Variables.{sort_of}
use Rattle.formula_core.specs.declared.sort.Sort.{Sort as DeclaredSort}
use Rattle.product_ops.specs.Restriction.{restricted, AcceptsWholes}
use Rattle.product_ops.proofs.Zeros.{restricted_accepts, restricted_stands}
use Rattle.set_compile.specs.Compiling.{AreWholeFrom, IsOfIntegers, IsDeclared, IsDeclaringHeavy, build_of, IsCompiled, IsRefused}
use Rattle.set_compile.specs.Conditions.{are_integers, mode_of, Binds}
use Rattle.set_compile.specs.Kinds.{IsOfMode, Stands, IsShaped}
use Rattle.set_compile.specs.Steps.{IsWide, IsWideRefused}
use Rattle.set_compile.specs.declared.build.Build.{Build}
use Rattle.set_compile.specs.declared.build.Mode.{Mode}
use Rattle.set_compile.specs.declared.build.Mode.TheVariants.{Whole, Mixed}
use Rattle.set_compile.specs.declared.errors.CompileError.{CompileError}
use Rattle.set_compile.specs.declared.errors.CompileError.TheVariants.{Heavy}
use Rattle.set_compile.proofs.DeclaredSorts.{stands_declared, mixed_declared}
use Rattle.set_compile.proofs.Making.{shape_of, one_wide}
use Rattle.set_compile.proofs.Modes.{as_whole, as_mixed, stands_same, same_shape, letters_in}
use Rattle.set_compile.proofs.Refusing.{PairsExclude, StepsExclude}
use Rattle.set_compile.proofs.Refused.{not_wide, one_wide_cause}
use Rattle.set_compile.proofs.Restricting.{WholeFrom, from_shape, from_stands, one_from, not_from}

-- ---- the mode
and_true : (x y : Bool) → (x && y) ≡ true → (x ≡ true) × (y ≡ true)
and_true true true h = (refl, refl)
and_true true false h = absurd (false≢true h)
and_true false y h = absurd (false≢true h)

modes_apart : Mixed ≡ Whole → ⊥
modes_apart e = cc

integers_bound : (f : Formula) → binds_ints f ≡ true → Binds Whole f
integers_bound (Atom kind a) h = tt
integers_bound (Not f) h = integers_bound f h
integers_bound (And f g) h = let both = and_true (binds_ints f) (binds_ints g) h in (integers_bound f both.0, integers_bound g both.1)
integers_bound (Or f g) h = let both = and_true (binds_ints f) (binds_ints g) h in (integers_bound f both.0, integers_bound g both.1)
integers_bound (Exists Int f) h = ((λ _. refl), integers_bound f h)
integers_bound (Exists Real f) h = absurd (false≢true h)

mixed_bound : (f : Formula) → Binds Mixed f
mixed_bound (Atom kind a) = tt
mixed_bound (Not f) = mixed_bound f
mixed_bound (And f g) = (mixed_bound f, mixed_bound g)
mixed_bound (Or f g) = (mixed_bound f, mixed_bound g)
mixed_bound (Exists s f) = ((λ e. absurd (modes_apart e)), mixed_bound f)

-- what a formula binds
pub mode_binds : (sorts : List Sort) (f : Formula) → Binds (mode_of sorts f) f
mode_binds sorts f = by (are_integers sorts f) refl
  where
    by : (b : Bool) → are_integers sorts f ≡ b → Binds (cond b Whole Mixed) f
    by true e = integers_bound f (and_true (list_all is_int sorts) (binds_ints f) e).1
    by false e = mixed_bound f

whole_integers : (sorts : List Sort) (f : Formula) → mode_of sorts f ≡ Whole → list_all is_int sorts ≡ true
whole_integers sorts f = by (are_integers sorts f) refl
  where
    by : (b : Bool) → are_integers sorts f ≡ b → cond b Whole Mixed ≡ Whole → list_all is_int sorts ≡ true
    by true e w = (and_true (list_all is_int sorts) (binds_ints f) e).0
    by false e w = absurd (modes_apart w)

-- ---- whole entries
whole_entries : (sorts : List Sort) (place : ℕ) (ns : List ℤ) (d : ℕ) → place + length sorts ≡ length ns → WholeFrom place sorts ns d ↔ IsWhole sorts (drop place ns) d
unfolding IsWhole
whole_entries [] place ns d e = (λ x. tt, λ y. tt)
whole_entries (Int ∷ sorts) place ns d e =
    let front : drop place ns ≡ get_or ns place (pos 0) ∷ drop (place + 1) ns = drop_more ns place (pos 0) (omega (arith, e)) in
    let rest = whole_entries sorts (place + 1) ns d (omega (arith, e)) in (
      λ h. subst (λ xs. IsWhole (Int ∷ sorts) xs d) (sym front) (h.0, rest.0 h.1),
      λ h. let k = subst (λ xs. IsWhole (Int ∷ sorts) xs d) front h in (k.0, rest.1 k.1),
    )
whole_entries (Real ∷ sorts) place ns d e =
    let front : drop place ns ≡ get_or ns place (pos 0) ∷ drop (place + 1) ns = drop_more ns place (pos 0) (omega (arith, e)) in
    let rest = whole_entries sorts (place + 1) ns d (omega (arith, e)) in
    (λ h. subst (λ xs. IsWhole (Real ∷ sorts) xs d) (sym front) (rest.0 h), λ h. rest.1 (subst (λ xs. IsWhole (Real ∷ sorts) xs d) front h))

-- ---- what a compiled table stands for
pub wide_shape : (b : Build) (m : ℕ) (f : Formula) (t : Table) → IsWide b m f t → IsShaped b.mode b.base m t
wide_shape b m f t (inl h) = subst (λ n. IsShaped b.mode b.base n t) h.0 (shape_of b m f t h.1)
wide_shape b m f t (inr h) = h.1.shape

pub whole_stands_for : (sorts : List Sort) (f : Formula) (t : Table) → mode_of sorts f ≡ Whole → length sorts < 13 → IsOfMode (mode_of sorts f) t → Stands t (holds f)
    → StandsFor t sorts f
whole_stands_for sorts f t whole lt kind s =
    stands_declared t sorts f (whole_integers sorts f whole) lt (as_whole t (holds f) (subst (λ mode. IsOfMode mode t) whole kind) s)

-- the diagram that accepts the whole vectors of a table with fraction states stands for the set
formula_of_fractions : (f : Formula) → IsOfFractions (holds f)
formula_of_fractions f c ns d = ((holds-scale f c ns d).0, (holds-scale f c ns d).1)

wholes_stand_for : (u t : Table) (P : List ℤ → ℕ → Type 0) → IsTable u → IsDiagram t → t.base ≡ u.base → t.tracks ≡ u.tracks → IsOfFractions P
    → AcceptsWholes u t → StandsForMixed u P → StandsForWhole t P
wholes_stand_for u t P h diagram base tracks free words stands =
    stands_carried (restricted u) t P (sym base) (sym tracks) diagram (λ sign w lt ls.
    let ls_all = All-from_recursion (λ l. l < letters u) w ls in
    restricted_accepts u h sign w lt ls_all ∙ sym (words sign w lt ls_all))
    (restricted_stands u h P free stands)

-- of the vectors that a table with fraction states accepts, the whole ones
integers_stand_for : (b : Build) (sorts : List Sort) (f : Formula) (u t : Table) → b.mode ≡ Mixed → list_all is_int sorts ≡ true → length sorts < 13
    → IsShaped b.mode b.base (length sorts) u → IsOfIntegers b (length sorts) u t → Stands u (holds f) → StandsFor t sorts f
integers_stand_for b sorts f u t mode all lt su made s =
    let some = subst (λ k. IsOfMode k u) mode su.kind in
    stands_declared t sorts f all lt (wholes_stand_for u t (holds f) (canonical_table u su.canonical) made.shape.kind (made.shape.base_is ∙ sym su.base_is) (made.shape.tracks_are ∙ sym su.tracks_are)
    (formula_of_fractions f) made.words (as_mixed u (holds f) some s))

reals_stand_for : (b : Build) (sorts : List Sort) (f : Formula) (u t : Table) → b.mode ≡ Mixed → list_all is_int sorts ≡ false → length sorts < 13
    → b.base ^ length sorts ≤ 4096 → IsShaped b.mode b.base (length sorts) u
    → AreWholeFrom b (length sorts) 0 sorts u t → Stands u (holds f) → StandsFor t sorts f
reals_stand_for b sorts f u t mode some_real lt few su made s =
    let P : List ℤ → ℕ → Type 0 = λ ns d. holds f ns d × WholeFrom 0 sorts ns d in
    let some = subst (λ k. IsOfMode k u) mode su.kind in
    let st = from_shape b (length sorts) 0 sorts u t su made in
    let kept : StandsForMixed t P = from_stands b (length sorts) 0 sorts u t (holds f) mode (omega arith) few su made (as_mixed u (holds f) some s) in
    mixed_declared t sorts f lt some_real
    (as_mixed t (Solves sorts f) kept.fractions (stands_same t P (Solves sorts f) (λ ns d count.
    let entries = whole_entries sorts 0 ns d (omega (arith, count, st.tracks_are)) in
    (λ x. (x.0, entries.0 x.1), λ y. (y.0, entries.1 y.1))) (inr kept)))

-- the table over the declared variables is of the base, and has a track for each
pub declared_base : (b : Build) (all : Bool) (sorts : List Sort) (u t : Table) → IsShaped b.mode b.base (length sorts) u → IsDeclared Mixed all b sorts u t → t.base ≡ b.base
declared_base b true sorts u t su made = made.shape.base_is
declared_base b false sorts u t su made = (from_shape b (length sorts) 0 sorts u t su made).base_is

pub declared_tracks : (b : Build) (all : Bool) (sorts : List Sort) (u t : Table) → IsShaped b.mode b.base (length sorts) u → IsDeclared Mixed all b sorts u t → t.tracks ≡ length sorts
declared_tracks b true sorts u t su made = made.shape.tracks_are
declared_tracks b false sorts u t su made = (from_shape b (length sorts) 0 sorts u t su made).tracks_are

pub declared_stands_for : (b : Build) (all : Bool) (sorts : List Sort) (f : Formula) (u t : Table) → b.mode ≡ Mixed → list_all is_int sorts ≡ all → length sorts < 13
    → b.base ^ length sorts ≤ 4096 → IsShaped b.mode b.base (length sorts) u → IsDeclared Mixed all b sorts u t → Stands u (holds f) → StandsFor t sorts f
declared_stands_for b true sorts f u t mode all lt few su made s = integers_stand_for b sorts f u t mode all lt su made s
declared_stands_for b false sorts f u t mode all lt few su made s = reals_stand_for b sorts f u t mode all lt few su made s

-- ---- how it is made
pub compiled_whole : (base limit : ℕ) (sorts : List Sort) (f : Formula) (t : Table) → mode_of sorts f ≡ Whole → IsWide (build_of base limit sorts f) (length sorts) f t
    → IsCompiled base limit sorts f t
compiled_whole base limit sorts f t whole made = record {
  wide = t;
  wide_made = made;
  declared = subst (λ mode. IsDeclared mode (list_all is_int sorts) (build_of base limit sorts f) sorts t t) (sym whole) refl;
}

pub compiled_mixed : (base limit : ℕ) (sorts : List Sort) (f : Formula) (u t : Table) → mode_of sorts f ≡ Mixed
    → IsWide (build_of base limit sorts f) (length sorts) f u → IsDeclared Mixed (list_all is_int sorts) (build_of base limit sorts f) sorts u t
    → IsCompiled base limit sorts f t
compiled_mixed base limit sorts f u t mixed made declared = record {
  wide = u;
  wide_made = made;
  declared = subst (λ mode. IsDeclared mode (list_all is_int sorts) (build_of base limit sorts f) sorts u t) (sym mixed) declared;
}

pub refused_mixed : (base limit : ℕ) (sorts : List Sort) (f : Formula) (u : Table) (e : CompileError) → mode_of sorts f ≡ Mixed
    → IsWide (build_of base limit sorts f) (length sorts) f u → e ≡ Heavy
    → IsDeclaringHeavy Mixed (list_all is_int sorts) (build_of base limit sorts f) sorts u → IsRefused base limit sorts f e
refused_mixed base limit sorts f u e mixed made is heavy =
    inr (is, (u, (made, subst (λ mode. IsDeclaringHeavy mode (list_all is_int sorts) (build_of base limit sorts f) sorts u) (sym mixed) heavy)))

-- ---- from the sorts as they are declared
mode_told : (base limit : ℕ) (sorts : List Sort) (f : Formula) (mode : Mode) → mode ≡ mode_of sorts f
    → record { mode = mode; base = base; limit = limit } ≡ build_of base limit sorts f
mode_told base limit sorts f mode e = ap (λ k. let b : Build = record { mode = k; base = base; limit = limit } in b) e

pub declared_wide : (base limit : ℕ) (sorts : List DeclaredSort) (f : Formula) (mode : Mode) (t : Table) → mode ≡ mode_of (map sort_of sorts) f
    → IsWide (record { mode = mode; base = base; limit = limit }) (length sorts) f t
    → IsWide (build_of base limit (map sort_of sorts) f) (length (map sort_of sorts)) f t
declared_wide base limit sorts f mode t e h = subst (λ n. IsWide (build_of base limit (map sort_of sorts) f) n f t) (sym (length-map sorts sort_of))
    (subst (λ b. IsWide b (length sorts) f t) (mode_told base limit (map sort_of sorts) f mode e) h)

pub declared_steps : (base limit : ℕ) (sorts : List DeclaredSort) (f : Formula) (mode : Mode) (all : Bool) (u t : Table) → mode ≡ mode_of (map sort_of sorts) f
    → IsDeclared Mixed all (record { mode = mode; base = base; limit = limit }) (map sort_of sorts) u t
    → IsDeclared Mixed all (build_of base limit (map sort_of sorts) f) (map sort_of sorts) u t
declared_steps base limit sorts f mode all u t e h =
    subst (λ b. IsDeclared Mixed all b (map sort_of sorts) u t) (mode_told base limit (map sort_of sorts) f mode e) h

pub declared_heavy : (base limit : ℕ) (sorts : List DeclaredSort) (f : Formula) (mode : Mode) (all : Bool) (u : Table) → mode ≡ mode_of (map sort_of sorts) f
    → IsDeclaringHeavy Mixed all (record { mode = mode; base = base; limit = limit }) (map sort_of sorts) u
    → IsDeclaringHeavy Mixed all (build_of base limit (map sort_of sorts) f) (map sort_of sorts) u
declared_heavy base limit sorts f mode all u e h =
    subst (λ b. IsDeclaringHeavy Mixed all b (map sort_of sorts) u) (mode_told base limit (map sort_of sorts) f mode e) h

pub declared_refused : (base limit : ℕ) (sorts : List DeclaredSort) (f : Formula) (mode : Mode) (e : CompileError) → mode ≡ mode_of (map sort_of sorts) f
    → IsWideRefused (record { mode = mode; base = base; limit = limit }) (length sorts) f e
    → IsRefused base limit (map sort_of sorts) f e
declared_refused base limit sorts f mode e is h = inl (subst (λ n. IsWideRefused (build_of base limit (map sort_of sorts) f) n f e) (sym (length-map sorts sort_of))
    (subst (λ b. IsWideRefused b (length sorts) f e) (mode_told base limit (map sort_of sorts) f mode is) h))

-- ---- uniqueness, and refusals
one_integers : (b : Build) (n : ℕ) (x t u : Table) → IsShaped b.mode b.base n x → IsOfIntegers b n x t → IsOfIntegers b n x u → t ≡ u
one_integers b n x t u sx ht hu = same_shape Whole b.base n t u ht.shape hu.shape (inl (
  ht.shape.kind,
  λ sign w lt ls.
      let sign_in = subst (λ k. sign < 2 ^ k) (ht.shape.tracks_are ∙ sym sx.tracks_are) lt in
      let word_in = letters_in x.base x.tracks t w (ht.shape.base_is ∙ sym sx.base_is) (ht.shape.tracks_are ∙ sym sx.tracks_are) (All-from_recursion (λ l. l < letters t) w ls) in
      ht.words sign w sign_in word_in ∙ sym (hu.words sign w sign_in word_in),
))

one_declared : (mode : Mode) (all : Bool) (b : Build) (sorts : List Sort) (x t u : Table) → b.mode ≡ mode → IsShaped b.mode b.base (length sorts) x
    → IsDeclared mode all b sorts x t → IsDeclared mode all b sorts x u → t ≡ u
one_declared Whole all b sorts x t u is sx ht hu = ht ∙ sym hu
one_declared Mixed true b sorts x t u is sx ht hu = one_integers b (length sorts) x t u sx ht hu
one_declared Mixed false b sorts x t u is sx ht hu = one_from b (length sorts) 0 sorts x t u is sx ht hu

not_declared : PairsExclude → (mode : Mode) (all : Bool) (b : Build) (sorts : List Sort) (x t : Table) → b.mode ≡ mode → IsShaped b.mode b.base (length sorts) x
    → IsDeclaringHeavy mode all b sorts x → IsDeclared mode all b sorts x t → ⊥
not_declared law Whole all b sorts x t is sx h made = h
not_declared law Mixed true b sorts x t is sx h made = h
not_declared law Mixed false b sorts x t is sx h made = not_from law b (length sorts) 0 sorts x t is sx h made

pub one_compiled : (base limit : ℕ) (sorts : List Sort) (f : Formula) (t u : Table) → IsCompiled base limit sorts f t → IsCompiled base limit sorts f u → t ≡ u
one_compiled base limit sorts f t u ht hu =
    let b = build_of base limit sorts f in
    let n = length sorts in
    one_declared (mode_of sorts f) (list_all is_int sorts) b sorts ht.wide t u refl (wide_shape b n f ht.wide ht.wide_made) ht.declared
    (subst (λ w. IsDeclared (mode_of sorts f) (list_all is_int sorts) b sorts w u) (one_wide b n f hu.wide ht.wide hu.wide_made ht.wide_made) hu.declared)

pub not_compiled : StepsExclude → (base limit : ℕ) (sorts : List Sort) (f : Formula) (e : CompileError) (t : Table) → IsRefused base limit sorts f e
    → IsCompiled base limit sorts f t → ⊥
not_compiled law base limit sorts f e t (inl h) made = not_wide law (build_of base limit sorts f) (length sorts) f e made.wide h made.wide_made
not_compiled law base limit sorts f e t (inr h) made =
    let b = build_of base limit sorts f in
    let n = length sorts in
    not_declared law.pairs (mode_of sorts f) (list_all is_int sorts) b sorts made.wide t refl (wide_shape b n f made.wide made.wide_made)
    (subst (λ w. IsDeclaringHeavy (mode_of sorts f) (list_all is_int sorts) b sorts w) (one_wide b n f h.1.0 made.wide h.1.1.0 made.wide_made) h.1.1.1) made.declared

pub one_refusal : StepsExclude → (base limit : ℕ) (sorts : List Sort) (f : Formula) (e k : CompileError) → IsRefused base limit sorts f e → IsRefused base limit sorts f k → e ≡ k
one_refusal law base limit sorts f e k (inl h) (inl g) = one_wide_cause law (build_of base limit sorts f) (length sorts) f e k h g
one_refusal law base limit sorts f e k (inl h) (inr g) = absurd (not_wide law (build_of base limit sorts f) (length sorts) f e g.1.0 h g.1.1.0)
one_refusal law base limit sorts f e k (inr h) (inl g) = absurd (not_wide law (build_of base limit sorts f) (length sorts) f k h.1.0 g h.1.1.0)
one_refusal law base limit sorts f e k (inr h) (inr g) = h.0 ∙ sym g.0
