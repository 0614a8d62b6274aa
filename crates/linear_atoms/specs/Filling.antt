-- Tables of atoms as far as they are filled.
use Rattle.std.specs.Prelude.{ℕ, ◌+◌, ◌-◌, ◌*◌, ◌^◌, ◌<◌, ◌≤◌, ◌≡◌, List, length, All, ℤ, pos, neg_ℤ, ◌+ℤ◌, ◌*ℤ◌, ◌<ℤ◌}
use Rattle.std.specs.List.{slice_index_or, AllPairs}
use Rattle.lash_model.specs.Formulas.{Linear, IsInside, Comparison}
use Rattle.lash_model.specs.Tables.{Table, IsTable}
use Rattle.threshold_laws.specs.Thresholds.{passes, sign_total, one_if, below, representative}
use Rattle.step_tables.specs.Kept.{Kept}
use Rattle.linear_atoms.specs.Closing.{entry, IsSmall, IsSmallTotal}

-- the state that a letter of the total leads to
abbrev pub target_of : ℕ → List ℤ → ℕ → ℤ → ℕ
target_of base ts count total = below ts ((pos base *ℤ representative ts count) +ℤ total)

-- there are so many thresholds, of which the last is below the value
pub record IsCountedUpTo (ts : List ℤ) (value : ℤ) (count : ℕ) : Type 0 where
  pub within : count ≤ length ts
  pub last : 0 < count → entry ts (count - 1) <ℤ value

-- the first entries of rows are filled: how many states, how many letters, how many entries, the target of a state and a letter
pub record AreEntries (states width filled : ℕ) (target : ℕ → ℕ → ℕ) (rows : List ℕ) : Type 0 where
  pub each : (q l : ℕ) → q < states → l < width → q * width + l < filled → slice_index_or rows (q * width + l) 0 ≡ target q l

-- the first entries of the rows of counts are filled
abbrev pub AreRows : ℕ → List ℤ → List ℤ → ℕ → List ℕ → Type 0
AreRows base totals ts filled rows = AreEntries (length ts + 1) (length totals) filled (λ c l. target_of base ts c (entry totals l)) rows

-- the first roots are filled
pub record AreRoots (terms : List (ℕ × ℤ)) (tracks : ℕ) (ts : List ℤ) (filled : ℕ) (roots : List ℕ) : Type 0 where
  pub each : (sign : ℕ) → sign < filled → slice_index_or roots sign 0 ≡ below ts (neg_ℤ (sign_total terms tracks sign))

-- the first outputs are filled
pub record AreOuts (kind : Comparison) (bound : ℤ) (ts : List ℤ) (filled : ℕ) (outs : List ℕ) : Type 0 where
  pub each : (c : ℕ) → c < filled → slice_index_or outs c 0 ≡ one_if (passes kind (representative ts c) bound)

-- a table of that base, number of tracks, and numbers of integer and of fraction states
pub record IsBlankShape (base tracks ints fracs : ℕ) (t : Table) : Type 0 where
  pub base_is : t.base ≡ base
  pub tracks_are : t.tracks ≡ tracks
  pub states : length t.outs ≡ ints
  pub fractions : length t.colours ≡ fracs
  pub table : IsTable t

-- bounds of cells are those of a plain table
pub record IsWide (k : Kept) : Type 0 where
  pub roots : k.bounds.roots ≡ 2 ^ 32
  pub rows : k.bounds.rows ≡ 2 ^ 32
  pub outs : k.bounds.outs ≡ 2 ^ 32
  pub frac_rows : k.bounds.frac_rows ≡ 2 ^ 32

-- what the steps of a table are filled from: the base and the number of tracks, an atom inside the limits, the totals of its letters,
-- and its thresholds, rising
pub record IsPlan (base tracks : ℕ) (a : Linear) (totals ts : List ℤ) : Type 0 where
  pub low : 2 ≤ base
  pub high : base ≤ 16
  pub few_letters : base ^ tracks ≤ 4096
  pub places : All (λ t. t.0 < tracks) a.terms
  pub inside : IsInside a
  pub totals_count : length totals ≡ base ^ tracks
  pub totals_small : All (IsSmallTotal base) totals
  pub rising : AllPairs (λ x y. x <ℤ y) ts
  pub some : 0 < length ts
  pub few : length ts < 2 ^ 31
  pub small : All IsSmall ts

-- the kept table, with so many fraction states, and with so many roots and entries of rows filled
pub record AreStepsFilled (a : Linear) (base tracks : ℕ) (totals ts : List ℤ) (fracs roots rows : ℕ) (k : Kept) : Type 0 where
  pub shape : IsBlankShape base tracks (length ts + 1) fracs k.table
  pub wide : IsWide k
  pub roots_filled : AreRoots a.terms tracks ts roots k.table.roots
  pub rows_filled : AreRows base totals ts rows k.table.rows

-- the kept table has all roots and rows filled, and so many outputs
pub record IsFilling (kind : Comparison) (a : Linear) (base tracks : ℕ) (totals ts : List ℤ) (fracs outs : ℕ) (k : Kept) : Type 0 where
  pub steps : AreStepsFilled a base tracks totals ts fracs (2 ^ tracks) ((length ts + 1) * length totals) k
  pub outs_filled : AreOuts kind a.constant ts outs k.table.outs
