-- The meaning of a formula does not tell a vector of fractions from the same vector over a multiple of its denominator.
use Rattle.std.proofs.Common.{◌≡◌, ℕ, suc, ◌+◌, ◌*◌, List, [], ◌∷◌, ◌++◌, arith, ◌∙◌, sym, ap, subst}
use Rattle.std.proofs.Math.IntN.{ℤ, pos, ◌*ℤ◌}
use mathlib.Core.Logic.{inl, inr}
use Rattle.integer_laws.specs.Vectors.{scale}
use Rattle.integer_laws.proofs.Ring.{diff_same, diff_mul, by_diff, pos_diff, le_scaled, le_unscaled, eq_unscaled}
use Rattle.integer_laws.proofs.Entries.{scale-append, scale-scale, scale-product}
use Rattle.lash_model.specs.Formulas.{Sort, Int, Real, Comparison, AtMost, Equal, Formula, Atom, Not, And, Or, Exists}
use Rattle.lash_model.specs.Meaning.{compares, holds, IsWhole, Solves}
use Rattle.lash_model.proofs.Totals.{total-scale}

pub shift_denominator : (c d : ℕ) (b : ℤ) → pos c *ℤ (b *ℤ pos d) ≡ b *ℤ pos (c * d)
shift_denominator c d b = by_diff (λ b. pos c *ℤ (b *ℤ pos d) ≡ b *ℤ pos (c * d)) (λ p q. simp (pos_diff, diff_mul) (diff_same _ _ _ _ (omega arith))) b

pub swap_factors : (e c d : ℕ) → suc e * (suc c * d) ≡ suc c * (suc e * d)
swap_factors e c d = omega arith

pub joined_factor : (e c : ℕ) → suc e * suc c ≡ suc (c + e * suc c)
joined_factor e c = omega arith

up_real : (g : Formula) (c e : ℕ) (n : List ℤ) (m : ℤ) (d : ℕ) → holds g (scale (suc c) (scale (suc e) n ++ m ∷ [])) (suc c * (suc e * d)) → holds g (scale (suc e) (scale (suc c) n) ++ (pos (suc c) *ℤ m) ∷ []) (suc e * (suc c * d))
up_real g c e n m d h = subst (λ v. holds g v (suc e * (suc c * d))) (scale-append (suc c) (scale (suc e) n) m ∙ ap (λ t. t ++ (pos (suc c) *ℤ m) ∷ []) (scale-scale (suc c) (suc e) n)) (subst (λ k. holds g (scale (suc c) (scale (suc e) n ++ m ∷ [])) k) (sym (swap_factors e c d)) h)

down_real : (g : Formula) (c e : ℕ) (n : List ℤ) (m : ℤ) (d : ℕ) → holds g (scale (suc e) (scale (suc c) n) ++ m ∷ []) (suc e * (suc c * d)) → holds g (scale (suc (c + e * suc c)) n ++ m ∷ []) (suc (c + e * suc c) * d)
down_real g c e n m d h = subst (λ v. holds g (v ++ m ∷ []) (suc (c + e * suc c) * d)) (scale-product (suc e) (suc c) n ∙ ap (λ k. scale k n) (joined_factor e c)) (subst (λ k. holds g (scale (suc e) (scale (suc c) n) ++ m ∷ []) k) (omega arith) h)

up_whole : (c : ℕ) (n : List ℤ) (m : ℤ) (d : ℕ) → scale (suc c) (n ++ (m *ℤ pos d) ∷ []) ≡ scale (suc c) n ++ (m *ℤ pos (suc c * d)) ∷ []
up_whole c n m d = scale-append (suc c) n (m *ℤ pos d) ∙ ap (λ t. scale (suc c) n ++ t ∷ []) (shift_denominator (suc c) d m)

compares-scale : (kind : Comparison) (c : ℕ) (x y : ℤ) → (compares kind x y → compares kind (pos (suc c) *ℤ x) (pos (suc c) *ℤ y)) × (compares kind (pos (suc c) *ℤ x) (pos (suc c) *ℤ y) → compares kind x y)
compares-scale AtMost c x y = (le_scaled (suc c) x y, le_unscaled c x y)
compares-scale Equal c x y = (ap (λ t. pos (suc c) *ℤ t), eq_unscaled c x y)

pub holds-scale : (f : Formula) (c : ℕ) (n : List ℤ) (d : ℕ) → (holds f n d → holds f (scale (suc c) n) (suc c * d)) × (holds f (scale (suc c) n) (suc c * d) → holds f n d)
unfolding holds
holds-scale (Atom kind a) c n d = (λ h. rw (total-scale (suc c) a.terms n) (rw (sym (shift_denominator (suc c) d a.constant)) ((compares-scale kind c _ _).0 h)), λ h. (compares-scale kind c _ _).1 (rw (sym (total-scale (suc c) a.terms n)) (rw (shift_denominator (suc c) d a.constant) h)))
holds-scale (Not f) c n d = (λ h k. h ((holds-scale f c n d).1 k), λ h k. h ((holds-scale f c n d).0 k))
holds-scale (And f g) c n d = (λ h. ((holds-scale f c n d).0 h.0, (holds-scale g c n d).0 h.1), λ h. ((holds-scale f c n d).1 h.0, (holds-scale g c n d).1 h.1))
holds-scale (Or f g) c n d = (λ h. elim h [ inl x ↦ inl ((holds-scale f c n d).0 x) | inr y ↦ inr ((holds-scale g c n d).0 y) ], λ h. elim h [ inl x ↦ inl ((holds-scale f c n d).1 x) | inr y ↦ inr ((holds-scale g c n d).1 y) ])
holds-scale (Exists Int g) c n d = (λ h. (h.0, subst (λ v. holds g v (suc c * d)) (up_whole c n h.0 d) ((holds-scale g c (n ++ (h.0 *ℤ pos d) ∷ []) d).0 h.1)), λ h. (h.0, (holds-scale g c (n ++ (h.0 *ℤ pos d) ∷ []) d).1 (subst (λ v. holds g v (suc c * d)) (sym (up_whole c n h.0 d)) h.1)))
holds-scale (Exists Real g) c n d = (λ h. (h.0, (pos (suc c) *ℤ h.1.0, up_real g c h.0 n h.1.0 d ((holds-scale g c (scale (suc h.0) n ++ h.1.0 ∷ []) (suc h.0 * d)).0 h.1.1))), λ h. (c + h.0 * suc c, (h.1.0, down_real g c h.0 n h.1.0 d h.1.1)))

pub IsWhole-scale : (sorts : List Sort) (c : ℕ) (n : List ℤ) (d : ℕ) → (IsWhole sorts n d → IsWhole sorts (scale (suc c) n) (suc c * d)) × (IsWhole sorts (scale (suc c) n) (suc c * d) → IsWhole sorts n d)
unfolding IsWhole scale
IsWhole-scale [] c n d = (λ h. tt, λ h. tt)
IsWhole-scale (Real ∷ sorts) c [] d = IsWhole-scale sorts c [] d
IsWhole-scale (Real ∷ sorts) c (x ∷ n) d = IsWhole-scale sorts c n d
IsWhole-scale (Int ∷ sorts) c [] d = IsWhole-scale sorts c [] d
IsWhole-scale (Int ∷ sorts) c (x ∷ n) d = (λ h. ((h.0.0, ap (λ y. pos (suc c) *ℤ y) h.0.1 ∙ shift_denominator (suc c) d h.0.0), (IsWhole-scale sorts c n d).0 h.1), λ h. ((h.0.0, eq_unscaled c _ _ (h.0.1 ∙ sym (shift_denominator (suc c) d h.0.0))), (IsWhole-scale sorts c n d).1 h.1))

pub Solves-scale : (sorts : List Sort) (f : Formula) (c : ℕ) (n : List ℤ) (d : ℕ) → (Solves sorts f n d → Solves sorts f (scale (suc c) n) (suc c * d)) × (Solves sorts f (scale (suc c) n) (suc c * d) → Solves sorts f n d)
Solves-scale sorts f c n d = (λ h. ((holds-scale f c n d).0 h.0, (IsWhole-scale sorts c n d).0 h.1), λ h. ((holds-scale f c n d).1 h.0, (IsWhole-scale sorts c n d).1 h.1))
