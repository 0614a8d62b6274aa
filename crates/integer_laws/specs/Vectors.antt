-- Vectors of integers: lists, made by place and multiplied by naturals.
use Rattle.std.proofs.Common.{ℕ, zero, suc, List, [], ◌∷◌}
use Rattle.std.specs.Prelude.{ℤ, pos, ◌*ℤ◌}

-- each entry times c
unfoldable pub scale : ℕ → List ℤ → List ℤ
scale c [] = []
scale c (x ∷ xs) = (pos c *ℤ x) ∷ scale c xs

-- the entries f i, f (i + 1), .. of a vector of n entries
unfoldable pub vector_from : (ℕ → ℤ) → ℕ → ℕ → List ℤ
vector_from f i zero = []
vector_from f i (suc n) = f i ∷ vector_from f (suc i) n

-- the vector of the n entries f 0, f 1, ..
abbrev pub vector : (ℕ → ℤ) → ℕ → List ℤ
vector f n = vector_from f 0 n
