-- Sets of vectors of fractions: what is true of numerators and their one denominator.
use Rattle.std.specs.Prelude.{ℕ, suc, ◌*◌, ◌≡◌, ◌↔◌, List, ◌∷◌, ◌++◌, take, drop, ℤ, pos, ◌*ℤ◌}
use Rattle.integer_laws.specs.Vectors.{scale}
use Rattle.lash_model.specs.Formulas.{Formula}
use Rattle.lash_model.specs.Meaning.{holds}

-- the set does not tell fractions from the same fractions over a multiple of their denominator
abbrev pub IsOfFractions : (List ℤ → ℕ → Type 0) → Type 0
IsOfFractions P = (c : ℕ) (ns : List ℤ) (d : ℕ) → P ns d ↔ P (scale (suc c) ns) (suc c * d)

-- numerators that stand elsewhere are multiplied as they are where they stood
abbrev pub KeepsScale : (List ℤ → List ℤ) → Type 0
KeepsScale placed = (k : ℕ) (ns : List ℤ) → placed (scale k ns) ≡ scale k (placed ns)

-- the set of a formula whose numerators stand elsewhere
abbrev pub set_of : Formula → (List ℤ → List ℤ) → List ℤ → ℕ → Type 0
set_of f placed ns d = holds f (placed ns) d

-- a list with one more entry, at a place
abbrev pub inserted_at : {A : Type 0} → ℕ → A → List A → List A
inserted_at i x xs = take i xs ++ x ∷ drop i xs

-- the set in which the entry at a place is bound by a whole number
abbrev pub bound_at : ℕ → (List ℤ → ℕ → Type 0) → List ℤ → ℕ → Type 0
bound_at track P ns d = (m : ℤ) × P (inserted_at track (m *ℤ pos d) ns) d

-- the set in which the entry at a place is bound by a fraction, which may refine the denominator
abbrev pub bound_by_fraction : ℕ → (List ℤ → ℕ → Type 0) → List ℤ → ℕ → Type 0
bound_by_fraction track P ns d = (e : ℕ) × ((m : ℤ) × P (inserted_at track m (scale (suc e) ns)) (suc e * d))
