-- Walks in a graph that is given by flat rows of targets: state q goes on letter l to the entry q * width + l.
use Rattle.std.specs.Prelude.{ℕ, zero, suc, ◌+◌, ◌*◌, List, [], ◌∷◌, ◌++◌, slice_index}

-- the state after a word
abbrev pub go : List ℕ → ℕ → ℕ → List ℕ → ℕ
go rows width q [] = q
go rows width q (l ∷ w) = go rows width (slice_index rows (q * width + l)) w

-- a word, so many times
abbrev pub copies : ℕ → List ℕ → List ℕ
copies zero w = []
copies (suc n) w = w ++ copies n w
