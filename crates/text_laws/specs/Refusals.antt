-- What reading a text answers: the table, or the first cause in this order: a wrong byte in the first lines, a size beyond the limits, a
-- wrong byte after them, a table that is not canonical. Own order.
use Rattle.std.specs.Prelude.{ℕ, ◌+◌, ◌*◌, ◌^◌, ◌<◌, ◌≤◌, ◌≡◌, ◌⊎◌, List, ◌++◌, length, take}
use Rattle.lash_model.specs.Formulas.{Sort}
use Rattle.lash_model.specs.Tables.{Table}
use Rattle.canonical_laws.specs.Canonical.{IsCanonical}
use Rattle.part_laws.specs.CanonicalMixed.{IsCanonicalMixed}
use Rattle.text_laws.specs.Spellings.{Head, IsHead, head_text, head_of, spelling, IsInRange}

-- the bytes are the text of these variables and this table
pub record IsSpelling (bytes : List ℕ) (vs : List (List ℕ × Sort)) (t : Table) : Type 0 where
  pub in_range : IsInRange vs t
  pub is : bytes ≡ spelling vs t

-- the bytes begin some spelling
pub record BeginsSpelling (bytes : List ℕ) : Type 0 where
  pub variables : List (List ℕ × Sort)
  pub table : Table
  pub in_range : IsInRange variables table
  pub more : List ℕ
  pub is : spelling variables table ≡ bytes ++ more

-- the longest front of the bytes that begins some spelling has length k, and it is no spelling if it is all of the bytes
pub record IsWrongAt (bytes : List ℕ) (k : ℕ) : Type 0 where
  pub inside : k ≤ length bytes
  pub begins : BeginsSpelling (take k bytes)
  pub longest : k < length bytes → BeginsSpelling (take (k + 1) bytes) → ⊥
  pub unfinished : k ≡ length bytes → (vs : List (List ℕ × Sort)) (t : Table) → IsSpelling bytes vs t → ⊥

-- the first lines are whole, and say this
pub record HasHead (bytes : List ℕ) (h : Head) : Type 0 where
  pub head : IsHead h
  pub more : List ℕ
  pub is : bytes ≡ head_text h ++ more

-- at most 4,096 letters and 16,777,216 cells
pub record IsWithin (h : Head) : Type 0 where
  pub few_letters : h.base ^ length h.variables ≤ 4096
  pub few_cells : (h.ints + h.fracs) * (h.base ^ length h.variables + 1) ≤ 16777216

abbrev pub IsCanonicalTable : Table → Type 0
IsCanonicalTable t = IsCanonical t ⊎ IsCanonicalMixed t

-- wrong in the first lines: they are not whole
pub record IsWrongHead (bytes : List ℕ) (k : ℕ) : Type 0 where
  pub wrong : IsWrongAt bytes k
  pub not_whole : (h : Head) → HasHead bytes h → ⊥

-- the first lines pass a limit
pub record IsPastLimit (bytes : List ℕ) : Type 0 where
  pub said : Head
  pub whole : HasHead bytes said
  pub passed : IsWithin said → ⊥

-- wrong after first lines that are within the limits
pub record IsWrongRest (bytes : List ℕ) (k : ℕ) : Type 0 where
  pub said : Head
  pub whole : HasHead bytes said
  pub within : IsWithin said
  pub wrong : IsWrongAt bytes k

-- a wrong byte
abbrev pub IsForm : List ℕ → ℕ → Type 0
IsForm bytes k = IsWrongHead bytes k ⊎ IsWrongRest bytes k

-- a table within the limits
pub record SpellsWithin (bytes : List ℕ) : Type 0 where
  pub variables : List (List ℕ × Sort)
  pub table : Table
  pub spelled : IsSpelling bytes variables table
  pub within : IsWithin (head_of variables table)

-- a table within the limits that is not canonical
pub record IsNotCanonical (bytes : List ℕ) : Type 0 where
  pub variables : List (List ℕ × Sort)
  pub table : Table
  pub spelled : IsSpelling bytes variables table
  pub within : IsWithin (head_of variables table)
  pub other : IsCanonicalTable table → ⊥

-- a canonical table within the limits
pub record IsTextOf (bytes : List ℕ) (vs : List (List ℕ × Sort)) (t : Table) : Type 0 where
  pub spelled : IsSpelling bytes vs t
  pub within : IsWithin (head_of vs t)
  pub canonical : IsCanonicalTable t

-- what reading answers
pub data Answer : Type 0 where
  Form : ℕ → Answer
  Limit : Answer
  NotCanonical : Answer
  Read : List (List ℕ × Sort) → Table → Answer

-- this is the answer to these bytes
abbrev pub IsAnswer : List ℕ → Answer → Type 0
IsAnswer bytes (Form k) = IsForm bytes k
IsAnswer bytes Limit = IsPastLimit bytes
IsAnswer bytes NotCanonical = IsNotCanonical bytes
IsAnswer bytes (Read vs t) = IsTextOf bytes vs t
