-- The meaning of formulas over fractions: a vector of fractions is a list of numerators with one positive denominator.
use Rattle.std.specs.Prelude.{ℕ, suc, ◌*◌, ◌≡◌, ◌⊎◌, List, [], ◌∷◌, ◌++◌, ℤ, pos, ◌+ℤ◌, ◌*ℤ◌, ◌≤ℤ◌}
use Rattle.std.specs.List.{slice_index_or}
use Rattle.integer_laws.specs.Vectors.{scale}
use Rattle.lash_model.specs.Formulas.{Sort, Int, Real, Comparison, AtMost, Equal, Formula, Atom, Not, And, Or, Exists}

-- the sum of coefficient times entry; places past the vector's end count as 0
unfoldable pub total : List (ℕ × ℤ) → List ℤ → ℤ
total [] ns = pos 0
total (t ∷ ts) ns = (t.1 *ℤ slice_index_or ns t.0 (pos 0)) +ℤ total ts ns

-- the comparison holds between the numbers
abbrev pub compares : Comparison → ℤ → ℤ → Type 0
compares AtMost x y = x ≤ℤ y
compares Equal x y = x ≡ y

-- the formula holds of the fractions ns over d; a bound integer is a multiple of d, and a bound real may refine the denominator
unfoldable pub holds : Formula → List ℤ → ℕ → Type 0
holds (Atom kind a) ns d = compares kind (total a.terms ns) (a.constant *ℤ pos d)
holds (Not f) ns d = ¬ holds f ns d
holds (And f g) ns d = holds f ns d × holds g ns d
holds (Or f g) ns d = holds f ns d ⊎ holds g ns d
holds (Exists Int f) ns d = (m : ℤ) × holds f (ns ++ (m *ℤ pos d) ∷ []) d
holds (Exists Real f) ns d = (e : ℕ) × ((m : ℤ) × holds f (scale (suc e) ns ++ m ∷ []) (suc e * d))

-- d divides the numerator at each integer place
unfoldable pub IsWhole : List Sort → List ℤ → ℕ → Type 0
IsWhole [] ns d = Unit {0}
IsWhole (Real ∷ sorts) [] d = IsWhole sorts [] d
IsWhole (Real ∷ sorts) (x ∷ ns) d = IsWhole sorts ns d
IsWhole (Int ∷ sorts) [] d = IsWhole sorts [] d
IsWhole (Int ∷ sorts) (x ∷ ns) d = ((m : ℤ) × (x ≡ m *ℤ pos d)) × IsWhole sorts ns d

-- the fractions solve the set of the sorts and the formula
abbrev pub Solves : List Sort → Formula → List ℤ → ℕ → Type 0
Solves sorts f ns d = holds f ns d × IsWhole sorts ns d
