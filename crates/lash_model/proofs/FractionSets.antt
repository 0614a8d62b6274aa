-- Sets that do not tell fractions from the same over a multiple of their denominator: those of formulas, and those with a bound entry.
use Rattle.std.proofs.Common.{◌≡◌, ℕ, zero, suc, ◌+◌, ◌*◌, List, [], ◌∷◌, arith, refl, sym, ap, ◌∙◌, subst}
use Rattle.std.proofs.Math.IntN.{ℤ, pos, ◌*ℤ◌}
use Rattle.integer_laws.specs.Vectors.{scale}
use Rattle.integer_laws.proofs.Entries.{scale-scale, scale-product}
use Rattle.lash_model.specs.Formulas.{Formula}
use Rattle.lash_model.specs.Meaning.{holds}
use Rattle.lash_model.specs.Sets.{IsOfFractions, KeepsScale, set_of, inserted_at, bound_at, bound_by_fraction}
use Rattle.lash_model.proofs.Scaling.{shift_denominator, swap_factors, joined_factor, holds-scale}

-- the set of a formula whose numerators stand elsewhere
pub set_of_fractions : (f : Formula) (placed : List ℤ → List ℤ) → KeepsScale placed → IsOfFractions (set_of f placed)
set_of_fractions f placed keeps c ns d = (λ h. subst (λ v. holds f v (suc c * d)) (sym (keeps (suc c) ns)) ((holds-scale f c (placed ns) d).0 h), λ h. (holds-scale f c (placed ns) d).1 (subst (λ v. holds f v (suc c * d)) (keeps (suc c) ns) h))

pub scale-inserted : (c i : ℕ) (x : ℤ) (ns : List ℤ) → scale c (inserted_at i x ns) ≡ inserted_at i (pos c *ℤ x) (scale c ns)
unfolding scale
scale-inserted c zero x ns = refl
scale-inserted c (suc i) x [] = refl
scale-inserted c (suc i) x (y ∷ ns) = ap (λ t. (pos c *ℤ y) ∷ t) (scale-inserted c i x ns)

-- binding by a whole number
pub whole_bound_fractions : (track : ℕ) (P : List ℤ → ℕ → Type 0) → IsOfFractions P → IsOfFractions (bound_at track P)
whole_bound_fractions track P same c ns d = (λ h. (h.0, subst (λ v. P v (suc c * d)) (moved h.0) ((same c _ d).0 h.1)), λ h. (h.0, (same c _ d).1 (subst (λ v. P v (suc c * d)) (sym (moved h.0)) h.1)))
  where
    moved : (m : ℤ) → scale (suc c) (inserted_at track (m *ℤ pos d) ns) ≡ inserted_at track (m *ℤ pos (suc c * d)) (scale (suc c) ns)
    moved m = scale-inserted (suc c) track (m *ℤ pos d) ns ∙ ap (λ x. inserted_at track x (scale (suc c) ns)) (shift_denominator (suc c) d m)

-- binding by a fraction
pub fraction_bound_fractions : (track : ℕ) (P : List ℤ → ℕ → Type 0) → IsOfFractions P → IsOfFractions (bound_by_fraction track P)
fraction_bound_fractions track P same c ns d = (λ h. (h.0, (pos (suc c) *ℤ h.1.0, up h.0 h.1.0 ((same c _ (suc h.0 * d)).0 h.1.1))), λ h. (c + h.0 * suc c, (h.1.0, down h.0 h.1.0 h.1.1)))
  where
    up : (e : ℕ) (m : ℤ) → P (scale (suc c) (inserted_at track m (scale (suc e) ns))) (suc c * (suc e * d)) → P (inserted_at track (pos (suc c) *ℤ m) (scale (suc e) (scale (suc c) ns))) (suc e * (suc c * d))
    up e m h = subst (λ v. P v (suc e * (suc c * d))) (scale-inserted (suc c) track m (scale (suc e) ns) ∙ ap (λ v. inserted_at track (pos (suc c) *ℤ m) v) (scale-scale (suc c) (suc e) ns)) (subst (λ k. P (scale (suc c) (inserted_at track m (scale (suc e) ns))) k) (sym (swap_factors e c d)) h)

    down : (e : ℕ) (m : ℤ) → P (inserted_at track m (scale (suc e) (scale (suc c) ns))) (suc e * (suc c * d)) → P (inserted_at track m (scale (suc (c + e * suc c)) ns)) (suc (c + e * suc c) * d)
    down e m h = subst (λ v. P (inserted_at track m v) (suc (c + e * suc c) * d)) (scale-product (suc e) (suc c) ns ∙ ap (λ k. scale k ns) (joined_factor e c)) (subst (λ k. P (inserted_at track m (scale (suc e) (scale (suc c) ns))) k) (omega arith) h)
