-- The thresholds of an atom (own): the least set that holds the seeds, and with each bound also the bounds to which letters lower it.
-- A state of the atom's table is the number of thresholds below the value that has been read.
use Rattle.std.specs.Prelude.{ℕ, ◌+◌, ◌-◌, ◌*◌, ◌^◌, ◌<◌, ◌≤◌, ◌≡◌, ◌⊎◌, Bool, true, false, ◌&&◌, List, [], ◌∷◌, length, All, ℤ, pos, neg_ℤ, ◌+ℤ◌, ◌-ℤ◌, ◌*ℤ◌, ◌<ℤ◌, int_lt, int_le}
use Rattle.std.specs.List.{AllPairs, AllByRecursion, slice_index_or}
use Rattle.std.specs.Int.{int_div_euclid}
use Rattle.integer_laws.specs.Vectors.{vector}
use Rattle.lash_model.specs.Letters.{digit, sign_bit}
use Rattle.lash_model.specs.Formulas.{Linear, Comparison, AtMost, Equal}
use Rattle.lash_model.specs.Meaning.{total}
use Rattle.lash_model.specs.Tables.{Table, IsDiagram}

-- the bounds whose passing decides the comparison
abbrev pub seeds : Comparison → ℤ → List ℤ
seeds AtMost bound = bound ∷ []
seeds Equal bound = bound ∷ (bound -ℤ pos 1) ∷ []

-- the comparison of a value to the bound
abbrev pub passes : Comparison → ℤ → ℤ → Bool
passes AtMost value bound = int_le value bound
passes Equal value bound = int_le value bound && int_le bound value

-- the total of a letter's digits, and of a sign vector's bits
unfoldable pub letter_total : List (ℕ × ℤ) → ℕ → ℕ → ℕ → ℤ
letter_total terms r n l = total terms (vector (λ i. pos (digit r n i l)) n)

unfoldable pub sign_total : List (ℕ × ℤ) → ℕ → ℕ → ℤ
sign_total terms n sign = total terms (vector (λ i. pos (sign_bit n i sign)) n)

-- a bound for the values before a letter of total t: r * value + t passes beta exactly where value passes this
abbrev pub lowered_by : ℕ → ℤ → ℤ → ℤ
lowered_by r t beta = int_div_euclid (beta -ℤ t) (pos r)

-- a seed, lowered by each letter of a word in turn
abbrev pub lowered : ℕ → (ℕ → ℤ) → ℤ → List ℕ → ℤ
lowered r total beta [] = beta
lowered r total beta (l ∷ w) = lowered r total (lowered_by r (total l) beta) w

abbrev pub Among : ℤ → List ℤ → Type 0
Among x [] = ⊥
Among x (y ∷ ys) = (x ≡ y) ⊎ Among x ys

-- a threshold is a seed, lowered by a word of the letters below width
pub record IsThreshold (r width : ℕ) (total : ℕ → ℤ) (seeds : List ℤ) (beta : ℤ) : Type 0 where
  pub seed : ℤ
  pub word : List ℕ
  pub given : Among seed seeds
  pub letters : AllByRecursion (λ l. l < width) word
  pub leads : lowered r total seed word ≡ beta

-- the list has exactly the thresholds, rising
pub record AreThresholds (r width : ℕ) (total : ℕ → ℤ) (seeds ts : List ℤ) : Type 0 where
  pub rising : AllPairs (λ x y. x <ℤ y) ts
  pub sound : All (IsThreshold r width total seeds) ts
  pub complete : (beta : ℤ) → IsThreshold r width total seeds beta → Among beta ts

-- the cells of a table of that many thresholds and so many fraction states: an integer state more than there are thresholds, and each
-- state with a row and an output or a colour
abbrev pub atom_cells : ℕ → ℕ → ℕ → ℕ
atom_cells width count fracs = (count + 1 + fracs) * (width + 1)

-- distinct thresholds are so many that their table, with so many fraction states, passes the limit
pub record TooManyThresholds (r width : ℕ) (total : ℕ → ℤ) (seeds : List ℤ) (fracs limit : ℕ) : Type 0 where
  pub found : List ℤ
  pub distinct : AllPairs (λ x y. x ≡ y → ⊥) found
  pub sound : All (IsThreshold r width total seeds) found
  pub over : limit < atom_cells width (length found) fracs

abbrev pub one_if : Bool → ℕ
one_if true = 1
one_if false = 0

-- how many of the list are below the value
abbrev pub below : List ℤ → ℤ → ℕ
below [] value = 0
below (t ∷ ts) value = one_if (int_lt t value) + below ts value

-- a value with so many of the rising list below it: the next member, or one more than the last
abbrev pub representative : List ℤ → ℕ → ℤ
representative ts count = slice_index_or ts count (slice_index_or ts (length ts - 1) (pos 0) +ℤ pos 1)

-- the steps of a table whose states count thresholds: a root counts those below minus the sign bits' total, and a letter leads from a
-- value to r * value + total
pub record StepsByThresholds (a : Linear) (r n : ℕ) (ts : List ℤ) (t : Table) : Type 0 where
  pub base : t.base ≡ r
  pub tracks : t.tracks ≡ n
  pub states : length t.outs ≡ length ts + 1
  pub roots : (sign : ℕ) → sign < 2 ^ n → slice_index_or t.roots sign 0 ≡ below ts (neg_ℤ (sign_total a.terms n sign))
  pub rows : (c l : ℕ) → c < length ts + 1 → l < r ^ n → slice_index_or t.rows (c * r ^ n + l) 0 ≡ below ts ((pos r *ℤ representative ts c) +ℤ letter_total a.terms r n l)

-- the diagram whose states count thresholds, and whose outputs compare a value with the bound
pub record CountsThresholds (kind : Comparison) (a : Linear) (r n : ℕ) (ts : List ℤ) (t : Table) : Type 0 where
  pub steps : StepsByThresholds a r n ts t
  pub diagram : IsDiagram t
  pub outs : (c : ℕ) → c < length ts + 1 → slice_index_or t.outs c 0 ≡ one_if (passes kind (representative ts c) a.constant)

-- the table of an atom over integers: it counts exactly the atom's thresholds, and its cells are within the limit
pub record IsAtomTable (kind : Comparison) (a : Linear) (r n limit : ℕ) (t : Table) : Type 0 where
  pub found : List ℤ
  pub thresholds : AreThresholds r (r ^ n) (letter_total a.terms r n) (seeds kind a.constant) found
  pub counts : CountsThresholds kind a r n found t
  pub within : atom_cells (r ^ n) (length found) 0 ≤ limit

-- the table of an atom over integers has more cells than the limit
abbrev pub IsHeavyAtom : Comparison → Linear → ℕ → ℕ → ℕ → Type 0
IsHeavyAtom kind a r n limit = TooManyThresholds r (r ^ n) (letter_total a.terms r n) (seeds kind a.constant) 0 limit
