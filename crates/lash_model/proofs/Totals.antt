-- The total of a linear term over a scaled vector.
use Rattle.std.proofs.Common.{◌≡◌, ℕ, List, [], ◌∷◌, arith, ◌∙◌, ap}
use Rattle.std.proofs.Math.IntN.{ℤ, pos, ◌+ℤ◌, ◌*ℤ◌}
use Rattle.std.specs.List.{slice_index_or}
use Rattle.integer_laws.specs.Differences.{diff}
use Rattle.integer_laws.specs.Vectors.{scale}
use Rattle.integer_laws.proofs.Ring.{diff_same, diff_add, diff_mul, by_diff, pos_diff}
use Rattle.integer_laws.proofs.Entries.{entry-scale}
use Rattle.lash_model.specs.Meaning.{total}

ring_scale : (c : ℕ) (a x s : ℤ) → (a *ℤ (pos c *ℤ x)) +ℤ (pos c *ℤ s) ≡ pos c *ℤ ((a *ℤ x) +ℤ s)
ring_scale c a x s = by_diff (λ a. (a *ℤ (pos c *ℤ x)) +ℤ (pos c *ℤ s) ≡ pos c *ℤ ((a *ℤ x) +ℤ s)) (λ p q.
    by_diff (λ x. (diff p q *ℤ (pos c *ℤ x)) +ℤ (pos c *ℤ s) ≡ pos c *ℤ ((diff p q *ℤ x) +ℤ s)) (λ u v.
    by_diff (λ s. (diff p q *ℤ (pos c *ℤ diff u v)) +ℤ (pos c *ℤ s) ≡ pos c *ℤ ((diff p q *ℤ diff u v) +ℤ s)) (λ k l.
    simp (pos_diff, diff_add, diff_mul) (diff_same _ _ _ _ (omega arith))) s) x) a

ring_zero : (c : ℕ) → pos 0 ≡ pos c *ℤ pos 0
ring_zero c = simp (pos_diff, diff_mul) (diff_same _ _ _ _ (omega arith))

pub total-scale : (c : ℕ) (ts : List (ℕ × ℤ)) (ns : List ℤ) → total ts (scale c ns) ≡ pos c *ℤ total ts ns
unfolding total
total-scale c [] ns = ring_zero c
total-scale c (t ∷ ts) ns = ap (λ x. (t.1 *ℤ x) +ℤ total ts (scale c ns)) (entry-scale c ns t.0) ∙ ap (λ s. (t.1 *ℤ (pos c *ℤ slice_index_or ns t.0 (pos 0))) +ℤ s) (total-scale c ts ns) ∙ ring_scale c t.1 (slice_index_or ns t.0 (pos 0)) (total ts ns)
