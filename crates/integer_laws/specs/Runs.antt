-- Reading digits from a number on. The digits are integers, so that one function serves a track and a linear form of tracks.
use Rattle.std.proofs.Common.{ℕ, List, [], ◌∷◌, ◌++◌}
use Rattle.std.specs.Prelude.{ℤ, pos, ◌+ℤ◌, ◌-ℤ◌, ◌*ℤ◌}

-- from x, each digit d leads to r * x + d (Horner's rule)
unfoldable pub run : ℕ → ℤ → List ℤ → ℤ
run r x [] = x
run r x (d ∷ ds) = run r ((pos r *ℤ x) +ℤ d) ds

-- the run over a stem and one cycle, less the run over the stem: the numerator of a periodic expansion
unfoldable pub gain : ℕ → ℤ → List ℤ → List ℤ → ℤ
gain r x stem cycle = run r x (stem ++ cycle) -ℤ run r x stem
