-- Loops, by iteration. A turn is allowed where the guard holds at the current vector, and leads from x to A x + b.
use Rattle.std.specs.Prelude.{◌≡◌, ℕ, zero, suc, List, ℤ, pos, ◌+ℤ◌, ◌*ℤ◌}
use Rattle.integer_laws.specs.Vectors.{vector}
use Rattle.lash_model.specs.Formulas.{Formula, AtMost, Equal, Atom, Not, And, Or, Exists}
use Rattle.lash_model.specs.Meaning.{holds}
use Rattle.matrix_powers.specs.Matrices.{Square, entry, sum_below}
use Rattle.matrix_powers.specs.Orbits.{at_row}

-- the matrix A, the shift b and the guard of a loop
pub record Body : Type 0 where
  pub matrix : Square
  pub shift : List ℤ
  pub guard : Formula

-- where one turn leads from the fractions ns over d
abbrev pub turned : Body → ℕ → List ℤ → List ℤ
turned l d ns = vector (λ row. sum_below l.matrix.side (λ i. entry l.matrix row i *ℤ at_row ns i) +ℤ (at_row l.shift row *ℤ pos d)) l.matrix.side

-- so many turns, each allowed, lead from one vector to the other
unfoldable pub after : Body → ℕ → ℕ → List ℤ → List ℤ → Type 0
after l d zero x y = x ≡ y
after l d (suc k) x y = holds l.guard x d × after l d k (turned l d x) y

-- a comparison that holds between two points of a line where it holds at both
abbrev pub IsMember : Formula → Type 0
IsMember (Atom kind a) = Unit {0}
IsMember (Not (Atom AtMost a)) = Unit {0}
IsMember (Not (Atom Equal a)) = ⊥
IsMember (Not (Not f)) = ⊥
IsMember (Not (And f g)) = ⊥
IsMember (Not (Or f g)) = ⊥
IsMember (Not (Exists s f)) = ⊥
IsMember (And f g) = ⊥
IsMember (Or f g) = ⊥
IsMember (Exists s f) = ⊥

-- one such comparison, or a guard and one more
abbrev pub IsGuard : Formula → Type 0
IsGuard (Atom kind a) = Unit {0}
IsGuard (Not f) = IsMember (Not f)
IsGuard (And f g) = IsGuard f × IsMember g
IsGuard (Or f g) = ⊥
IsGuard (Exists s f) = ⊥
