-- The weak form of a breakpoint table: what it accepts, and that it is the only one.
use Rattle.std.proofs.Common.{◌≡◌, ℕ, ◌<◌, List, arith, ◌∙◌, sym, ap, subst, inl, inr}
use Rattle.std.specs.Prelude.{slice_index, ◌⊎◌}
use Rattle.canonical_laws.proofs.Diagrams.{same_lists}
use Rattle.lash_model.specs.Lassos.{IsLasso}
use Rattle.lash_model.specs.Tables.{Table, letters, fracs, IsTable}
use Rattle.part_laws.specs.CanonicalMixed.{fraction_graph}
use Rattle.part_laws.specs.Graphs.{IsWeak}
use Rattle.marked_laws.specs.TornTables.{AreTornWords}
use Rattle.marked_laws.specs.Weakening.{IsTorn, IsWeakForm, recoloured}
use Rattle.marked_laws.proofs.LeastWords.{least_words}
use Rattle.marked_laws.proofs.WeakForms.{form_accepts}
use Rattle.breakpoint_laws.specs.Breakpoints.{IsBreakpointTable, AcceptsSomeLasso}
use Rattle.breakpoint_laws.proofs.BreakpointTables.{marked_completes}
use Rattle.breakpoint_laws.proofs.OneTable.{one_breakpoint_table}
use Rattle.breakpoint_build.specs.RealProjections.{IsRealProjection, IsTornProjection}

pub form_completes : (t m u : Table) (track limit : ℕ) → IsTable t → IsTable m → 0 < fracs t → 0 < fracs m → track < t.tracks → IsWeak (letters t) (fraction_graph t)
    → IsBreakpointTable t track limit m → (IsTorn m → ⊥) → IsWeakForm m u → AcceptsSomeLasso t track u
form_completes t m u track limit h hm some marks lt weak e whole form x i =
    let j : IsLasso m.base m.tracks x = subst (λ (v : Table). IsLasso v.base v.tracks x) form.same i in
    let a = form_accepts m u hm marks form whole x j in
    let b = marked_completes t m track limit h hm some lt weak e x j in
    ((λ y. b.0 (a.0 y)), (λ z. a.1 (b.1 z)))

pub base_of : (m u : Table) (base : ℕ) → m.base ≡ base → IsWeakForm m u → u.base ≡ base
base_of m u base e form = ap (λ (v : Table). v.base) form.same ∙ e

pub tracks_of : (m u : Table) (tracks : ℕ) → m.tracks ≡ tracks → IsWeakForm m u → u.tracks ≡ tracks
tracks_of m u tracks e form = ap (λ (v : Table). v.tracks) form.same ∙ e

pub some_fracs : (m u : Table) → 0 < fracs m → IsWeakForm m u → 0 < fracs u
some_fracs m u some form = subst (λ n. 0 < n) (sym form.count) some

-- ---- one form
colour_clash : (c d : ℕ) → c < 2 → d < 2 → (c ≡ 0 → d ≡ 0) → (d ≡ 0 → c ≡ 0) → c ≡ d
colour_clash c d c_in d_in f g = by (two c c_in) (two d d_in)
  where
    two : (x : ℕ) → x < 2 → (x ≡ 0) ⊎ (x ≡ 1)
    two x lt = grind arith

    by : (c ≡ 0) ⊎ (c ≡ 1) → (d ≡ 0) ⊎ (d ≡ 1) → c ≡ d
    by (inl e) (inl k) = e ∙ sym k
    by (inl e) (inr k) = absurd (omega (arith, f e, k))
    by (inr e) (inl k) = absurd (omega (arith, g k, e))
    by (inr e) (inr k) = e ∙ sym k

one_form : (t u v : Table) → IsWeakForm t u → IsWeakForm t v → u ≡ v
one_form t u v f g = f.same ∙ ap (recoloured t) same_colours ∙ sym g.same
  where
    same_colours : u.colours ≡ v.colours
    same_colours = same_lists u.colours v.colours (f.count ∙ sym g.count) (λ q lt.
        let inside : q < fracs t = subst (λ n. q < n) f.count lt in
        colour_clash (slice_index u.colours q) (slice_index v.colours q) (f.two q inside) (g.two q inside)
        (λ e. g.marked q inside (f.found q inside e)) (λ e. f.marked q inside (g.found q inside e)))

pub one_projection : (t u v : Table) (track limit : ℕ) → IsRealProjection t track limit u → IsRealProjection t track limit v → u ≡ v
one_projection t u v track limit f g = one_form f.marked u v f.form
    (subst (λ m. IsWeakForm m v) (one_breakpoint_table t g.marked f.marked track limit limit g.breakpoints f.breakpoints) g.form)

pub one_words : (t : Table) (track limit s1 s2 : ℕ) (w1 w2 p1 p2 a1 a2 r1 r2 : List ℕ) → IsTornProjection t track limit s1 w1 p1 a1 r1
    → IsTornProjection t track limit s2 w2 p2 a2 r2 → (s1 ≡ s2) × ((w1 ≡ w2) × ((p1 ≡ p2) × ((a1 ≡ a2) × (r1 ≡ r2))))
one_words t track limit s1 s2 w1 w2 p1 p2 a1 a2 r1 r2 f g = least_words f.marked s1 s2 w1 w2 p1 p2 a1 a2 r1 r2 f.words
    (subst (λ m. AreTornWords m s2 w2 p2 a2 r2) (one_breakpoint_table t g.marked f.marked track limit limit g.breakpoints f.breakpoints) g.words)

pub not_both : (t u : Table) (track limit sign : ℕ) (whole stem accept reject : List ℕ) → IsRealProjection t track limit u
    → IsTornProjection t track limit sign whole stem accept reject → ⊥
not_both t u track limit sign whole stem accept reject f g = f.untorn (subst IsTorn (one_breakpoint_table t g.marked f.marked track limit limit g.breakpoints f.breakpoints)
    (record { state = g.words.state; torn = g.words.torn }))
