-- What stands for a set is carried to a table that accepts the same words, and canonical tables tell sets apart.
use Rattle.std.proofs.Common.{◌≡◌, ℕ, ◌^◌, ◌<◌, Bool, true, false, List, refl, ◌∙◌, sym, ap, subst}
use Rattle.std.proofs.Math.IntN.{ℤ}
use Rattle.std.specs.Prelude.{◌↔◌, All, IsTrue}
use Rattle.std.specs.List.{AllByRecursion}
use Rattle.std.proofs.lemmas.List.Elements.{recursion_from_All, All-from_recursion}
use Rattle.lash_model.specs.Words.{values}
use Rattle.lash_model.specs.Tables.{Table, letters, IsDiagram}
use Rattle.lash_model.specs.Acceptance.{accepts_word}
use Rattle.lash_model.specs.Standing.{StandsForWhole}
use Rattle.canonical_laws.specs.Canonical.{IsCanonical, AcceptSameWords, AgreeOnWords}
use Rattle.canonical_laws.proofs.Diagrams.{diagrams_unique}

iff_through : (a b : Bool) (P : Type 0) → a ≡ b → IsTrue a ↔ P → IsTrue b ↔ P
iff_through a b P e h = (λ x. h.0 (subst IsTrue (sym e) x), λ y. subst IsTrue e (h.1 y))

pub stands_carried : (t u : Table) (P : List ℤ → ℕ → Type 0) → t.base ≡ u.base → t.tracks ≡ u.tracks → IsDiagram u → AcceptSameWords t u → StandsForWhole t P → StandsForWhole u P
stands_carried t u P base tracks d same s = record {
  diagram = d;
  each = λ sign w h ls. subst (λ b. IsTrue (accepts_word u sign w) ↔ P (values b u.tracks sign w) 1) base (subst (λ n. IsTrue (accepts_word u sign w) ↔ P (values t.base n sign w) 1) tracks
      (iff_through (accepts_word t sign w) (accepts_word u sign w) (P (values t.base t.tracks sign w) 1)
      (same sign w (subst (λ n. sign < 2 ^ n) (sym tracks) h) (recursion_from_All (λ l. l < letters t) w (in_letters w ls)))
      (s.each sign w (subst (λ n. sign < 2 ^ n) (sym tracks) h) (in_letters w ls))));
}
  where
    in_letters : (w : List ℕ) → All (λ l. l < letters u) w → All (λ l. l < letters t) w
    in_letters w ls = subst (λ k. All (λ l. l < k) w) (sym (ap (λ b. b ^ t.tracks) base ∙ ap (λ n. u.base ^ n) tracks)) ls

same_test : (a b : Bool) → (IsTrue a → IsTrue b) → (IsTrue b → IsTrue a) → a ≡ b
same_test true true f g = refl
same_test true false f g = sym (f refl)
same_test false true f g = g refl
same_test false false f g = refl

-- tables that stand for sets which agree accept the same words
pub agreeing_accept : (t u : Table) (P Q : List ℤ → ℕ → Type 0) → t.base ≡ u.base → t.tracks ≡ u.tracks → StandsForWhole t P → StandsForWhole u Q → AgreeOnWords t.base t.tracks P Q → AcceptSameWords t u
agreeing_accept t u P Q base tracks st su agree sign w h ls = same_test (accepts_word t sign w) (accepts_word u sign w)
    (λ x. (su.each sign w (subst (λ n. sign < 2 ^ n) tracks h) in_u).1 (subst (λ b. Q (values b u.tracks sign w) 1) base (subst (λ n. Q (values t.base n sign w) 1) tracks ((agree sign w h ls).0 ((st.each sign w h in_t).0 x)))))
    (λ y. (st.each sign w h in_t).1 ((agree sign w h ls).1 (subst (λ n. Q (values t.base n sign w) 1) (sym tracks) (subst (λ b. Q (values b u.tracks sign w) 1) (sym base) ((su.each sign w (subst (λ n. sign < 2 ^ n) tracks h) in_u).0 y)))))
  where
    in_t : All (λ l. l < letters t) w
    in_t = All-from_recursion (λ l. l < letters t) w ls

    in_u : All (λ l. l < letters u) w
    in_u = subst (λ k. All (λ l. l < k) w) (ap (λ b. b ^ t.tracks) base ∙ ap (λ n. u.base ^ n) tracks) in_t

-- one table that stands for two sets shows that they agree
pub standing_agree : (t : Table) (P Q : List ℤ → ℕ → Type 0) → StandsForWhole t P → StandsForWhole t Q → AgreeOnWords t.base t.tracks P Q
standing_agree t P Q sp sq sign w h ls = (λ x. (sq.each sign w h in_t).0 ((sp.each sign w h in_t).1 x), λ y. (sp.each sign w h in_t).0 ((sq.each sign w h in_t).1 y))
  where
    in_t : All (λ l. l < letters t) w
    in_t = All-from_recursion (λ l. l < letters t) w ls

-- canonical tables of one base and number of tracks are equal exactly where their sets agree
pub agreeing_same : (t u : Table) (P Q : List ℤ → ℕ → Type 0) → IsCanonical t → IsCanonical u → t.base ≡ u.base → t.tracks ≡ u.tracks → StandsForWhole t P → StandsForWhole u Q → AgreeOnWords t.base t.tracks P Q → t ≡ u
agreeing_same t u P Q ct cu base tracks st su agree = diagrams_unique t u ct cu base tracks (agreeing_accept t u P Q base tracks st su agree)

pub same_agree : (t u : Table) (P Q : List ℤ → ℕ → Type 0) → StandsForWhole t P → StandsForWhole u Q → t ≡ u → AgreeOnWords t.base t.tracks P Q
same_agree t u P Q st su e = standing_agree t P Q st (subst (λ v. StandsForWhole v Q) (sym e) su)
