-- Places of tokens.
use Rattle.std.proofs.Common.{◌≡◌, ℕ, zero, suc, ◌≤◌, ◌<◌, List, [], ◌∷◌, length, map, get_or, arith, refl}
use Rattle.script_tokens.specs.declared.token.Placed.{Placed}
use Rattle.script_tokens.specs.Shape.{placed_of}
use Rattle.script_parse.specs.Answers.{place_at}

-- the place of a token
pub place_there : (end : ℕ) (ts : List Placed) (k : ℕ) (d : Placed) → k < length ts → (get_or ts k d).place ≡ place_at end (map placed_of ts) k
place_there end [] k d lt = absurd (omega (arith, lt))
place_there end (t ∷ ts) zero d lt = refl
place_there end (t ∷ ts) (suc k) d lt = place_there end ts k d (omega (arith, lt))

-- the place of the end
pub place_behind : (end : ℕ) (ts : List Placed) (k : ℕ) → length ts ≤ k → end ≡ place_at end (map placed_of ts) k
place_behind end [] k h = refl
place_behind end (t ∷ ts) zero h = absurd (omega (arith, h))
place_behind end (t ∷ ts) (suc k) h = place_behind end ts k (omega (arith, h))
