-- Tables of both kinds: what they stand for, what is carried to a canonical table, and that there is one canonical table.
use Rattle.std.proofs.Common.{◌≡◌, ℕ, ◌^◌, ◌<◌, List, [], ◌∷◌, length, arith, refl, sym, ap, ◌∙◌, subst, ◌↔◌}
use mathlib.Core.Logic.{◌⊎◌, inl, inr}
use Rattle.std.proofs.Math.IntN.{ℤ}
use Rattle.std.specs.Prelude.{All}
use Rattle.integer_laws.proofs.Entries.{length-vector_from}
use Rattle.lash_model.specs.Lassos.{Lasso, IsLasso, denominator, numerator, numerators}
use Rattle.lash_model.specs.Words.{value, values}
use Rattle.lash_model.specs.Tables.{Table, letters, fracs, IsDiagram}
use Rattle.lash_model.specs.Standing.{StandsForWhole, StandsForMixed}
use Rattle.canonical_laws.specs.Canonical.{IsCanonical, AcceptSameWords}
use Rattle.canonical_laws.proofs.Carrying.{stands_carried, agreeing_accept}
use Rattle.canonical_laws.proofs.Diagrams.{diagrams_unique}
use Rattle.part_laws.specs.CanonicalMixed.{IsCanonicalMixed, AcceptSameLassos}
use Rattle.part_laws.proofs.BothKinds.{one_kind, canonical_diagram, canonical_fractions}
use Rattle.part_laws.proofs.CanonicalSets.{mixed_carried, agreeing_lassos}
use Rattle.part_laws.proofs.CanonicalTables.{mixed_unique}
use Rattle.product_ops.specs.Products.{HaveSameKind}
use Rattle.set_compile.specs.Kinds.{IsOfMode, Stands, AcceptSame, IsShaped}
use Rattle.set_compile.specs.declared.build.Mode.{Mode}
use Rattle.set_compile.specs.declared.build.Mode.TheVariants.{Whole, Mixed}

-- ---- kinds
pub diagram_too : (t u : Table) → HaveSameKind t u → IsDiagram t → IsDiagram u
diagram_too t u (inl both) d = both.1
diagram_too t u (inr both) d = absurd (one_kind t d both.0)

pub fractions_too : (t u : Table) → HaveSameKind t u → 0 < fracs t → 0 < fracs u
fractions_too t u (inl both) some = absurd (one_kind t both.0 some)
fractions_too t u (inr both) some = both.1

pub fractions_back : (t u : Table) → HaveSameKind t u → 0 < fracs u → 0 < fracs t
fractions_back t u (inl both) some = absurd (one_kind u both.1 some)
fractions_back t u (inr both) some = both.0

pub one_mode : (mode : Mode) (t u : Table) → IsOfMode mode t → IsOfMode mode u → HaveSameKind t u
one_mode Whole t u a b = inl (a, b)
one_mode Mixed t u a b = inr (a, b)

pub mode_kept : (mode : Mode) (t u : Table) → HaveSameKind t u → IsOfMode mode t → IsOfMode mode u
mode_kept Whole t u same a = diagram_too t u same a
mode_kept Mixed t u same a = fractions_too t u same a

-- ---- sets
pub as_whole : (t : Table) (P : List ℤ → ℕ → Type 0) → IsDiagram t → Stands t P → StandsForWhole t P
as_whole t P d (inl s) = s
as_whole t P d (inr s) = absurd (one_kind t d s.fractions)

pub as_mixed : (t : Table) (P : List ℤ → ℕ → Type 0) → 0 < fracs t → Stands t P → StandsForMixed t P
as_mixed t P some (inl s) = absurd (one_kind t s.diagram some)
as_mixed t P some (inr s) = s

-- a table stands for any set that has the same vectors
pub stands_same : (t : Table) (P Q : List ℤ → ℕ → Type 0) → ((ns : List ℤ) (d : ℕ) → length ns ≡ t.tracks → P ns d ↔ Q ns d) → Stands t P → Stands t Q
stands_same t P Q same (inl s) = inl (record {
  diagram = s.diagram;
  each = λ sign w h ls.
      let there = same (values t.base t.tracks sign w) 1 (length-vector_from (λ i. value t.base t.tracks i sign w) 0 t.tracks) in
      let both = s.each sign w h ls in
      (λ a. there.0 (both.0 a), λ b. both.1 (there.1 b));
})
stands_same t P Q same (inr s) = inr (record {
  fractions = s.fractions;
  each = λ x v.
      let there = same (numerators t.base t.tracks x) (denominator t.base x) (length-vector_from (λ i. numerator t.base t.tracks i x) 0 t.tracks) in
      let both = s.each x v in
      (λ a. there.0 (both.0 a), λ b. both.1 (there.1 b));
})

-- ---- what is carried
-- a word, and a lasso, of one table's range is in another range of the same base and number of tracks
pub letters_in : (base n : ℕ) (t : Table) (w : List ℕ) → t.base ≡ base → t.tracks ≡ n → All (λ l. l < letters t) w → All (λ l. l < base ^ n) w
letters_in base n t w b k h = subst (λ r. All (λ l. l < r ^ n) w) b (subst (λ i. All (λ l. l < t.base ^ i) w) k h)

pub lasso_in : (base n r m : ℕ) (x : Lasso) → r ≡ base → m ≡ n → IsLasso r m x → IsLasso base n x
lasso_in base n r m x b k h = subst (λ r. IsLasso r n x) b (subst (λ m. IsLasso r m x) k h)

pub carried : (t u : Table) (P : List ℤ → ℕ → Type 0) → t.base ≡ u.base → t.tracks ≡ u.tracks → HaveSameKind t u → AcceptSame t u → Stands t P → Stands u P
carried t u P base tracks kinds (inl same) s = inl (stands_carried t u P base tracks (diagram_too t u kinds same.0) same.1 (as_whole t P same.0 s))
carried t u P base tracks kinds (inr same) s = inr (mixed_carried t u P base tracks (fractions_too t u kinds same.0) same.1 (as_mixed t P same.0 s))

-- ---- uniqueness
-- tables of one shape that accept the same are equal
pub same_shape : (mode : Mode) (base n : ℕ) (t u : Table) → IsShaped mode base n t → IsShaped mode base n u → AcceptSame t u → t ≡ u
same_shape mode base n t u a b (inl same) = diagrams_unique t u (canonical_diagram t a.canonical same.0)
    (canonical_diagram u b.canonical (diagram_too t u (one_mode mode t u a.kind b.kind) same.0))
    (a.base_is ∙ sym b.base_is) (a.tracks_are ∙ sym b.tracks_are) same.1
same_shape mode base n t u a b (inr same) = mixed_unique t u (canonical_fractions t a.canonical same.0)
    (canonical_fractions u b.canonical (fractions_too t u (one_mode mode t u a.kind b.kind) same.0))
    (a.base_is ∙ sym b.base_is) (a.tracks_are ∙ sym b.tracks_are) same.1

-- tables of one shape that stand for one set accept the same
pub accept_same : (mode : Mode) (base n : ℕ) (t u : Table) (P : List ℤ → ℕ → Type 0) → IsShaped mode base n t → IsShaped mode base n u
    → Stands t P → Stands u P → AcceptSame t u
accept_same mode base n t u P a b (inl s) r = inl (
  s.diagram,
  agreeing_accept t u P P (a.base_is ∙ sym b.base_is) (a.tracks_are ∙ sym b.tracks_are) s
      (as_whole u P (diagram_too t u (one_mode mode t u a.kind b.kind) s.diagram) r) (λ sign w lt ls. (λ x. x, λ y. y)),
)
accept_same mode base n t u P a b (inr s) r = inr (
  s.fractions,
  agreeing_lassos t u P P (a.base_is ∙ sym b.base_is) (a.tracks_are ∙ sym b.tracks_are) s
      (as_mixed u P (fractions_too t u (one_mode mode t u a.kind b.kind) s.fractions) r) (λ x v. (λ p. p, λ q. q)),
)

-- ---- the canonical table of a table
either_kind : (t : Table) → IsDiagram t ⊎ (0 < fracs t)
either_kind t = by t.colours refl
  where
    by : (cs : List ℕ) → t.colours ≡ cs → IsDiagram t ⊎ (0 < fracs t)
    by [] e = inl e
    by (x ∷ cs) e = inr (omega (arith, ap length e))

pub made_shape : (mode : Mode) (t u : Table) → u.base ≡ t.base → u.tracks ≡ t.tracks → (IsDiagram t → IsCanonical u) → (0 < fracs t → IsCanonicalMixed u)
    → IsOfMode mode t → IsShaped mode t.base t.tracks u
made_shape Whole t u base tracks whole mixed k = record { canonical = inl (whole k); kind = (whole k).diagram; base_is = base; tracks_are = tracks }
made_shape Mixed t u base tracks whole mixed k = record { canonical = inr (mixed k); kind = (mixed k).fractions; base_is = base; tracks_are = tracks }

pub made_kind : (t u : Table) → (IsDiagram t → IsCanonical u) → (0 < fracs t → IsCanonicalMixed u) → HaveSameKind t u
made_kind t u whole mixed = elim (either_kind t) [ inl d ↦ inl (d, (whole d).diagram) | inr some ↦ inr (some, (mixed some).fractions) ]

pub made_same : (t u : Table) → (IsDiagram t → AcceptSameWords t u) → (0 < fracs t → AcceptSameLassos t u) → AcceptSame t u
made_same t u words lassos = elim (either_kind t) [ inl d ↦ inl (d, words d) | inr some ↦ inr (some, lassos some) ]

-- of a diagram the words, and of a table with fraction states the lassos
pub same_words : (t u : Table) → IsDiagram t → AcceptSame t u → AcceptSameWords t u
same_words t u d (inl same) = same.1
same_words t u d (inr same) = absurd (one_kind t d same.0)

pub same_lassos : (t u : Table) → 0 < fracs t → AcceptSame t u → AcceptSameLassos t u
same_lassos t u some (inl same) = absurd (one_kind t same.0 some)
same_lassos t u some (inr same) = same.1
