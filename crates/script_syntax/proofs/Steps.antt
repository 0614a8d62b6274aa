-- One token on.
use Rattle.std.proofs.Common.{◌≡◌, ℕ, zero, suc, List, [], ◌∷◌, drop, map, refl}

pub next_map : {A B : Type 0} (f : A → B) (i : ℕ) (ts : List A) → map f (drop (suc i) ts) ≡ drop 1 (map f (drop i ts))
next_map f zero [] = refl
next_map f zero (t ∷ ts) = refl
next_map f (suc i) [] = refl
next_map f (suc i) (t ∷ ts) = next_map f i ts
