-- Searches of fraction states, for the fixed solution.
use Rattle.std.specs.Prelude.{ℕ, ◌+◌, ◌*◌, ◌<◌, ◌≡◌, false, nat_eq, List, length, slice_index}
use Rattle.graph_laws.specs.Exploring.{KeyTable}
use Rattle.lash_model.specs.Tables.{Table, letters, ints, fracs}
use Rattle.least_paths.specs.Nets.{Net}
use Rattle.least_paths.specs.Searches.{state_at}
use Rattle.solution_pick.specs.FractionSolutions.{IsYesLoop}

-- the fraction state has colour no, and all its steps lead to itself (own; nothing is accepted from it)
pub record IsDead (t : Table) (q : ℕ) : Type 0 where
  pub colour : nat_eq (slice_index t.colours q) 1 ≡ false
  pub stays : (l : ℕ) → l < letters t → slice_index t.frac_rows (q * letters t + l) ≡ q

-- the first integer state whose output is not dead (own)
pub record IsFirstLive (t : Table) (q : ℕ) : Type 0 where
  pub inside : q < ints t
  pub live : IsDead t (slice_index t.outs q) → ⊥
  pub first : (p : ℕ) → p < q → IsDead t (slice_index t.outs p)

-- the fraction states of a table, from some of them (own)
abbrev pub frac_net : Table → List ℕ → Net
frac_net t starts = record { starts = starts; rows = t.frac_rows; width = letters t; states = fracs t }

-- the first position whose state is looping and of colour yes (own)
pub record IsFirstYesLoop (t : Table) (k : KeyTable) (i : ℕ) : Type 0 where
  pub inside : i < length k.keys
  pub good : IsYesLoop t (state_at k i)
  pub first : (j : ℕ) → j < i → IsYesLoop t (state_at k j) → ⊥

-- the targets of a fraction state by the first letters (own)
pub record AreTargets (t : Table) (q upto : ℕ) (targets : List ℕ) : Type 0 where
  pub count : length targets ≡ upto
  pub each : (l : ℕ) → l < upto → slice_index targets l ≡ slice_index t.frac_rows (q * letters t + l)
