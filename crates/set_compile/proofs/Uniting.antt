-- The steps of a node make one table.
use Rattle.std.proofs.Common.{◌≡◌, ℕ, ◌^◌, ◌<◌, ◌≤◌, arith, refl, sym, ◌∙◌, subst, Bool, true, false, IsTrue, ◌↔◌}
use mathlib.Core.Logic.{inl, inr}
use Rattle.std.proofs.lemmas.List.Elements.{All-from_recursion}
use Rattle.lash_model.specs.Formulas.{Linear, Atom, Comparison}
use Rattle.lash_model.specs.Meaning.{holds}
use Rattle.lash_model.specs.Tables.{Table, letters}
use Rattle.lasso_laws.proofs.RealAtomTables.{real_atom_stands}
use Rattle.threshold_laws.proofs.AtomTables.{counting_stands}
use Rattle.part_laws.proofs.BothKinds.{one_kind, canonical_table}
use Rattle.product_ops.specs.Tracks.{TrackLists}
use Rattle.product_ops.specs.declared.operation.Op.{Op}
use Rattle.subset_build.specs.Projection.{kept}
use Rattle.set_compile.specs.Kinds.{IsOfMode, Stands, AcceptSame, AcceptOthers, GivesBoth, IsTableOfAtom, IsShaped}
use Rattle.set_compile.specs.Steps.{IsOfAtom, IsOfPairs, IsOfSubsets, IsOfBreakpoints}
use Rattle.set_compile.specs.declared.build.Build.{Build}
use Rattle.set_compile.specs.declared.build.Mode.{Mode}
use Rattle.set_compile.specs.declared.build.Mode.TheVariants.{Whole, Mixed}
use Rattle.set_compile.proofs.Modes.{one_mode, diagram_too, fractions_too, letters_in, lasso_in, carried, same_shape, accept_same}

pub base_low : (mode : Mode) (base n : ℕ) (t : Table) → IsShaped mode base n t → 2 ≤ base
base_low mode base n t s = omega (arith, (canonical_table t s.canonical).shape.base_low, s.base_is)

-- ---- atoms
-- the table of an atom is of the mode's kind, base and number of tracks, and stands for the atom
pub record IsAtomLike (mode : Mode) (kind : Comparison) (a : Linear) (base n : ℕ) (t : Table) : Type 0 where
  pub of_mode : IsOfMode mode t
  pub base_is : t.base ≡ base
  pub tracks_are : t.tracks ≡ n
  pub stands : Stands t (holds (Atom kind a))

pub atom_like : (mode : Mode) (kind : Comparison) (a : Linear) (base n limit : ℕ) (t : Table) → 2 ≤ base → IsTableOfAtom mode kind a base n limit t
    → IsAtomLike mode kind a base n t
atom_like Whole kind a base n limit t low h = record {
  of_mode = h.counts.diagram;
  base_is = h.counts.steps.base;
  tracks_are = h.counts.steps.tracks;
  stands = inl (counting_stands kind a base n h.found t (omega (arith, low)) h.counts h.thresholds);
}
atom_like Mixed kind a base n limit t low h =
    let s = real_atom_stands kind a base n limit t low h in
    record { of_mode = s.fractions; base_is = h.steps.base; tracks_are = h.steps.tracks; stands = inr s }

atom_stands : (b : Build) (kind : Comparison) (a : Linear) (n : ℕ) (t : Table) → IsShaped b.mode b.base n t → IsOfAtom b kind a n t → Stands t (holds (Atom kind a))
atom_stands b kind a n t shape h =
    let u = h.atom_table in
    let like = atom_like b.mode kind a b.base n b.limit u (base_low b.mode b.base n t shape) h.counts in
    carried u t (holds (Atom kind a)) (like.base_is ∙ sym shape.base_is) (like.tracks_are ∙ sym shape.tracks_are) (one_mode b.mode u t like.of_mode shape.kind)
    h.same like.stands

pub one_atom : (b : Build) (kind : Comparison) (a : Linear) (n : ℕ) (t u : Table) → IsShaped b.mode b.base n t → IsShaped b.mode b.base n u → IsOfAtom b kind a n t
    → IsOfAtom b kind a n u → t ≡ u
one_atom b kind a n t u st su ht hu = same_shape b.mode b.base n t u st su
    (accept_same b.mode b.base n t u (holds (Atom kind a)) st su (atom_stands b kind a n t st ht) (atom_stands b kind a n u su hu))

-- ---- nodes
pub one_opposite : (mode : Mode) (base n : ℕ) (x t u : Table) → IsShaped mode base n x → IsShaped mode base n t → IsShaped mode base n u → AcceptOthers x t
    → AcceptOthers x u → t ≡ u
one_opposite mode base n x t u sx st su ht hu = same_shape mode base n t u st su (by ht hu)
  where
    by : AcceptOthers x t → AcceptOthers x u → AcceptSame t u
    by (inl f) (inl g) = inl (
      diagram_too x t (one_mode mode x t sx.kind st.kind) f.0,
      λ sign w lt ls.
          let sign_in = subst (λ k. sign < 2 ^ k) (st.tracks_are ∙ sym sx.tracks_are) lt in
          let word_in = letters_in x.base x.tracks t w (st.base_is ∙ sym sx.base_is) (st.tracks_are ∙ sym sx.tracks_are) (All-from_recursion (λ l. l < letters t) w ls) in
          f.1 sign w sign_in word_in ∙ sym (g.1 sign w sign_in word_in),
    )
    by (inr f) (inr g) = inr (
      fractions_too x t (one_mode mode x t sx.kind st.kind) f.0,
      λ y v.
          let in_x = lasso_in x.base x.tracks t.base t.tracks y (st.base_is ∙ sym sx.base_is) (st.tracks_are ∙ sym sx.tracks_are) v in
          f.1 y in_x ∙ sym (g.1 y in_x),
    )
    by (inl f) (inr g) = absurd (one_kind x f.0 g.0)
    by (inr f) (inl g) = absurd (one_kind x g.0 f.0)

pub one_join : (op : Op) (mode : Mode) (base limit : ℕ) (m : TrackLists) (x y t u : Table) → IsShaped mode base x.tracks x → IsShaped mode base m.tracks t
    → IsShaped mode base m.tracks u → IsOfPairs op x y m limit t → IsOfPairs op x y m limit u → t ≡ u
one_join op mode base limit m x y t u sx st su ht hu = same_shape mode base m.tracks t u st su (by ht.gives hu.gives)
  where
    by : GivesBoth op x y m t → GivesBoth op x y m u → AcceptSame t u
    by (inl f) (inl g) = inl (
      diagram_too x t (one_mode mode x t sx.kind st.kind) f.0,
      λ sign w lt ls.
          let sign_in = subst (λ k. sign < 2 ^ k) st.tracks_are lt in
          let word_in = letters_in x.base m.tracks t w (st.base_is ∙ sym sx.base_is) st.tracks_are (All-from_recursion (λ l. l < letters t) w ls) in
          f.1 sign w sign_in word_in ∙ sym (g.1 sign w sign_in word_in),
    )
    by (inr f) (inr g) = inr (
      fractions_too x t (one_mode mode x t sx.kind st.kind) f.0,
      λ z v.
          let in_x = lasso_in x.base m.tracks t.base t.tracks z (st.base_is ∙ sym sx.base_is) st.tracks_are v in
          f.1 z in_x ∙ sym (g.1 z in_x),
    )
    by (inl f) (inr g) = absurd (one_kind x f.0 g.0)
    by (inr f) (inl g) = absurd (one_kind x g.0 f.0)

same_test : (a b : Bool) (P : Type 0) → IsTrue a ↔ P → IsTrue b ↔ P → a ≡ b
same_test true true P h k = refl
same_test true false P h k = sym (k.1 (h.0 refl))
same_test false true P h k = h.1 (k.0 refl)
same_test false false P h k = refl

pub one_projection : (base n track limit : ℕ) (x t u : Table) → x.base ≡ base → kept x ≡ n → IsShaped Whole base n t → IsShaped Whole base n u
    → IsOfSubsets x track limit t → IsOfSubsets x track limit u → t ≡ u
one_projection base n track limit x t u bx kx st su ht hu = same_shape Whole base n t u st su (inl (
  st.kind,
  λ sign w lt ls.
      let sign_in = subst (λ k. sign < 2 ^ k) (st.tracks_are ∙ sym kx) lt in
      let word_in = letters_in x.base (kept x) t w (st.base_is ∙ sym bx) (st.tracks_are ∙ sym kx) (All-from_recursion (λ l. l < letters t) w ls) in
      same_test _ _ _ (ht.words sign w sign_in word_in) (hu.words sign w sign_in word_in),
))

pub one_breakpoints : (base n track limit : ℕ) (x t u : Table) → IsShaped Mixed base n t → IsShaped Mixed base n u
    → IsOfBreakpoints x track limit t → IsOfBreakpoints x track limit u → t ≡ u
one_breakpoints base n track limit x t u st su ht hu = same_shape Mixed base n t u st su (inr (
  st.kind,
  λ y v. same_test _ _ _ (ht.lassos y v) (hu.lassos y (lasso_in u.base u.tracks t.base t.tracks y (st.base_is ∙ sym su.base_is) (st.tracks_are ∙ sym su.tracks_are) v)),
))
