-- The point of a lasso that is woven of a kept one and one of a further track: it is in a set that does not tell multiples apart
-- exactly if the kept point with the further track's fraction is.
use Rattle.std.proofs.Common.{◌≡◌, ℕ, suc, ◌*◌, List, arith, ◌∙◌, sym, ap, subst}
use Rattle.std.proofs.Math.IntN.{ℤ, pos, ◌*ℤ◌}
use Rattle.integer_laws.specs.Vectors.{scale}
use Rattle.integer_laws.proofs.Ring.{diff_same, diff_mul, by_diff, pos_diff, eq_unscaled}
use Rattle.integer_laws.proofs.Entries.{scale-product}
use Rattle.lash_model.specs.Sets.{IsOfFractions, inserted_at}
use Rattle.lash_model.proofs.FractionSets.{scale-inserted}

cross : (e f : ℕ) (m nt : ℤ) (d dt g : ℕ) → nt *ℤ pos (suc e * d) ≡ m *ℤ pos (suc dt) → f * d ≡ g * suc dt → pos f *ℤ m ≡ pos (suc e) *ℤ (pos g *ℤ nt)
cross e f m nt d dt g h j = eq_unscaled dt (pos f *ℤ m) (pos (suc e) *ℤ (pos g *ℤ nt)) (left ∙ ap (λ y. pos f *ℤ y) (sym h) ∙ middle
    ∙ ap (λ y. (pos (suc e) *ℤ nt) *ℤ pos y) j ∙ right)
  where
    left : pos (suc dt) *ℤ (pos f *ℤ m) ≡ pos f *ℤ (m *ℤ pos (suc dt))
    left = by_diff (λ m. pos (suc dt) *ℤ (pos f *ℤ m) ≡ pos f *ℤ (m *ℤ pos (suc dt))) (λ p q. simp (pos_diff, diff_mul) (diff_same _ _ _ _ (omega arith))) m

    middle : pos f *ℤ (nt *ℤ pos (suc e * d)) ≡ (pos (suc e) *ℤ nt) *ℤ pos (f * d)
    middle = by_diff (λ nt. pos f *ℤ (nt *ℤ pos (suc e * d)) ≡ (pos (suc e) *ℤ nt) *ℤ pos (f * d))
        (λ p q. simp (pos_diff, diff_mul) (diff_same _ _ _ _ (omega arith))) nt

    right : (pos (suc e) *ℤ nt) *ℤ pos (g * suc dt) ≡ pos (suc dt) *ℤ (pos (suc e) *ℤ (pos g *ℤ nt))
    right = by_diff (λ nt. (pos (suc e) *ℤ nt) *ℤ pos (g * suc dt) ≡ pos (suc dt) *ℤ (pos (suc e) *ℤ (pos g *ℤ nt)))
        (λ p q. simp (pos_diff, diff_mul) (diff_same _ _ _ _ (omega arith))) nt

-- kept part: f times the kept lasso (den d); removed part: g times the removed lasso (gain nt, den suc dt), whose fraction is m / (suc e * d)
pub woven_point : (P : List ℤ → ℕ → Type 0) → IsOfFractions P → (t : ℕ) (ns : List ℤ) (d e f : ℕ) (m nt : ℤ) (dt g : ℕ)
    → P (inserted_at t m (scale (suc e) ns)) (suc e * d) → nt *ℤ pos (suc e * d) ≡ m *ℤ pos (suc dt) → suc f * d ≡ g * suc dt
    → P (inserted_at t (pos g *ℤ nt) (scale (suc f) ns)) (suc f * d)
woven_point P free t ns d e f m nt dt g p h j =
    (free e (inserted_at t (pos g *ℤ nt) (scale (suc f) ns)) (suc f * d)).1
    (subst (λ k. P (scale (suc e) (inserted_at t (pos g *ℤ nt) (scale (suc f) ns))) k) (turned f e d)
    (subst (λ xs. P xs (suc f * (suc e * d))) vectors ((free f (inserted_at t m (scale (suc e) ns)) (suc e * d)).0 p)))
  where
    turned : (f e d : ℕ) → suc f * (suc e * d) ≡ suc e * (suc f * d)
    turned f e d = omega arith

    swapped : (f e : ℕ) → suc f * suc e ≡ suc e * suc f
    swapped f e = omega arith

    vectors : scale (suc f) (inserted_at t m (scale (suc e) ns)) ≡ scale (suc e) (inserted_at t (pos g *ℤ nt) (scale (suc f) ns))
    vectors = scale-inserted (suc f) t m (scale (suc e) ns) ∙ ap (λ y. inserted_at t y (scale (suc f) (scale (suc e) ns))) (cross e (suc f) m nt d dt g h j)
        ∙ ap (λ xs. inserted_at t (pos (suc e) *ℤ (pos g *ℤ nt)) xs) (scale-product (suc f) (suc e) ns ∙ ap (λ k. scale k ns) (swapped f e)
        ∙ sym (scale-product (suc e) (suc f) ns)) ∙ sym (scale-inserted (suc e) t (pos g *ℤ nt) (scale (suc f) ns))
