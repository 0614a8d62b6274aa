-- The doubled graph of a table: of each fraction state the first copy is met as long as no mark is met, and the second one from then on.
use Rattle.std.specs.Prelude.{◌≡◌, ℕ, ◌+◌, ◌-◌, ◌*◌, ◌<◌, if◌then◌else◌, nat_eq, nat_lt, List, All, length, slice_index}
use Rattle.lash_model.specs.Tables.{Table, letters, fracs}

-- the fraction state after a state and a letter (own)
abbrev pub next_state : Table → ℕ → ℕ → ℕ
next_state t q l = slice_index t.frac_rows (q * letters t + l)

-- the copy after a copy and a letter (own)
abbrev pub doubled : Table → ℕ → ℕ → ℕ
doubled t q l = if nat_lt q (fracs t)
    then (if nat_eq (slice_index t.colours (next_state t q l)) 1 then next_state t q l else next_state t q l + fracs t)
    else next_state t (q - fracs t) l + fracs t

-- rows of targets, as far as a state and a letter: each as the function says, and below the bound (own)
pub record AreWritten (f : ℕ → ℕ → ℕ) (width bound at letter : ℕ) (rows : List ℕ) : Type 0 where
  pub count : length rows ≡ at * width + letter
  pub each : (q l : ℕ) → l < width → q * width + l < length rows → slice_index rows (q * width + l) ≡ f q l
  pub inside : All (λ q. q < bound) rows

-- those of the doubled graph (own)
abbrev pub AreDoubled : Table → ℕ → ℕ → List ℕ → Type 0
AreDoubled t at letter rows = AreWritten (doubled t) (letters t) (2 * fracs t) at letter rows
