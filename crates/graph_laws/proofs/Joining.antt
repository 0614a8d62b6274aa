-- Walks join.
use Rattle.std.proofs.Common.{◌≡◌, ℕ, ◌+◌, ◌*◌, List, [], ◌∷◌, ◌++◌, refl}
use Rattle.std.specs.Prelude.{slice_index}
use Rattle.graph_laws.specs.Walks.{go}

pub go-append : (rows : List ℕ) (width q : ℕ) (x y : List ℕ) → go rows width q (x ++ y) ≡ go rows width (go rows width q x) y
go-append rows width q [] y = refl
go-append rows width q (l ∷ x) y = go-append rows width (slice_index rows (q * width + l)) x y
