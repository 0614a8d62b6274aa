-- What is found by the names of statements (own).
use Rattle.std.specs.Prelude.{◌≡◌, ℕ, List, None, Some, Result, Ok, Err}
use Rattle.script_syntax.specs.Trees.{Named}
use Rattle.script_names.specs.Kept.{KeptSet, kept_place, kept_set}
use Rattle.script_names.specs.Faults.{unknown}
use Rattle.script_names.specs.declared.names.FaultAt.{FaultAt}
use Rattle.statement_meaning.specs.Judging.{tested_fault, compared_fault}

-- the place of the name's set, or the fault
abbrev pub IsFound : List KeptSet → Named → Result ℕ FaultAt → Type 0
IsFound kept name (Ok at) = kept_place kept name.left ≡ Some at
IsFound kept name (Err f) = unknown name (kept_place kept name.left) ≡ Some f

-- the place of the name's set, which has so many variables, or the fault
abbrev pub IsFoundWith : List KeptSet → Named → ℕ → Result ℕ FaultAt → Type 0
IsFoundWith kept name count (Ok at) = (tested_fault name (kept_set kept name.left) count ≡ None) × (kept_place kept name.left ≡ Some at)
IsFoundWith kept name count (Err f) = tested_fault name (kept_set kept name.left) count ≡ Some f

-- the names' sets, of which the second has the sorts of the first
pub record IsPair (kept : List KeptSet) (a b : Named) (places : ℕ × ℕ) : Type 0 where
  pub names : compared_fault kept a b ≡ None
  pub left : kept_place kept a.left ≡ Some places.0
  pub right : kept_place kept b.left ≡ Some places.1

-- their places, or the first fault
abbrev pub AreFound : List KeptSet → Named → Named → Result (ℕ × ℕ) FaultAt → Type 0
AreFound kept a b (Ok places) = IsPair kept a b places
AreFound kept a b (Err f) = compared_fault kept a b ≡ Some f
