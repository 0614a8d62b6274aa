-- Canonical tables with fraction states tell sets apart.
use Rattle.std.proofs.Common.{◌≡◌, ℕ, ◌<◌, Bool, true, false, List, refl, sym, subst}
use Rattle.std.proofs.Math.IntN.{ℤ}
use Rattle.std.specs.Prelude.{◌↔◌, IsTrue}
use Rattle.lash_model.specs.Lassos.{Lasso, IsLasso, denominator, numerators}
use Rattle.lash_model.specs.Tables.{Table, fracs}
use Rattle.lash_model.specs.Acceptance.{accepts_lasso}
use Rattle.lash_model.specs.Standing.{StandsForMixed}
use Rattle.part_laws.specs.CanonicalMixed.{IsCanonicalMixed, AcceptSameLassos, AgreeOnLassos}
use Rattle.part_laws.proofs.CanonicalTables.{mixed_unique}

same_test : (a b : Bool) → (IsTrue a → IsTrue b) → (IsTrue b → IsTrue a) → a ≡ b
same_test true true f g = refl
same_test true false f g = sym (f refl)
same_test false true f g = g refl
same_test false false f g = refl

iff_through : (a b : Bool) (P : Type 0) → a ≡ b → IsTrue a ↔ P → IsTrue b ↔ P
iff_through a b P e h = (λ x. h.0 (subst IsTrue (sym e) x), λ y. subst IsTrue e (h.1 y))

lasso_over : (t u : Table) → t.base ≡ u.base → t.tracks ≡ u.tracks → (x : Lasso) → IsLasso t.base t.tracks x → IsLasso u.base u.tracks x
lasso_over t u base tracks x v = subst (λ b. IsLasso b u.tracks x) base (subst (λ n. IsLasso t.base n x) tracks v)

-- what stands for a set is carried to a table that accepts the same lassos
pub mixed_carried : (t u : Table) (P : List ℤ → ℕ → Type 0) → t.base ≡ u.base → t.tracks ≡ u.tracks → 0 < fracs u → AcceptSameLassos t u
    → StandsForMixed t P → StandsForMixed u P
mixed_carried t u P base tracks some same s = record {
  fractions = some;
  each = λ x v. let v_t : IsLasso t.base t.tracks x = lasso_over u t (sym base) (sym tracks) x v in
      subst (λ b. IsTrue (accepts_lasso u x) ↔ P (numerators b u.tracks x) (denominator b x)) base
      (subst (λ n. IsTrue (accepts_lasso u x) ↔ P (numerators t.base n x) (denominator t.base x)) tracks
      (iff_through (accepts_lasso t x) (accepts_lasso u x) (P (numerators t.base t.tracks x) (denominator t.base x)) (same x v_t) (s.each x v_t)));
}

-- tables that stand for sets which agree accept the same lassos
pub agreeing_lassos : (t u : Table) (P Q : List ℤ → ℕ → Type 0) → t.base ≡ u.base → t.tracks ≡ u.tracks → StandsForMixed t P → StandsForMixed u Q
    → AgreeOnLassos t.base t.tracks P Q → AcceptSameLassos t u
agreeing_lassos t u P Q base tracks st su agree x v = let v_u : IsLasso u.base u.tracks x = lasso_over t u base tracks x v in
    same_test (accepts_lasso t x) (accepts_lasso u x)
    (λ a. (su.each x v_u).1 (subst (λ b. Q (numerators b u.tracks x) (denominator b x)) base
    (subst (λ n. Q (numerators t.base n x) (denominator t.base x)) tracks ((agree x v).0 ((st.each x v).0 a)))))
    (λ a. (st.each x v).1 ((agree x v).1 (subst (λ n. Q (numerators t.base n x) (denominator t.base x)) (sym tracks)
    (subst (λ b. Q (numerators b u.tracks x) (denominator b x)) (sym base) ((su.each x v_u).0 a)))))

-- one table that stands for two sets shows that they agree
pub mixed_agree : (t : Table) (P Q : List ℤ → ℕ → Type 0) → StandsForMixed t P → StandsForMixed t Q → AgreeOnLassos t.base t.tracks P Q
mixed_agree t P Q sp sq x v = (λ a. (sq.each x v).0 ((sp.each x v).1 a), λ a. (sp.each x v).0 ((sq.each x v).1 a))

pub one_mixed_table : (t u : Table) (P Q : List ℤ → ℕ → Type 0) → IsCanonicalMixed t → IsCanonicalMixed u → t.base ≡ u.base → t.tracks ≡ u.tracks
    → StandsForMixed t P → StandsForMixed u Q → AgreeOnLassos t.base t.tracks P Q → t ≡ u
one_mixed_table t u P Q ct cu base tracks st su agree = mixed_unique t u ct cu base tracks (agreeing_lassos t u P Q base tracks st su agree)

pub one_mixed_set : (t u : Table) (P Q : List ℤ → ℕ → Type 0) → StandsForMixed t P → StandsForMixed u Q → t ≡ u → AgreeOnLassos t.base t.tracks P Q
one_mixed_set t u P Q st su e = mixed_agree t P Q st (subst (λ x. StandsForMixed x Q) (sym e) su)
