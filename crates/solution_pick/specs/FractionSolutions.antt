-- Solutions of tables with fraction states: what such a table accepts, and the one lasso that is chosen of it.
use Rattle.std.specs.Prelude.{ℕ, ◌^◌, ◌<◌, ◌≡◌, true, false, List, All, length, slice_index}
use Rattle.graph_laws.specs.Walks.{go}
use Rattle.graph_laws.specs.Paths.{AtMost}
use Rattle.lash_model.specs.Lassos.{Lasso, IsLasso}
use Rattle.lash_model.specs.Tables.{Table, letters}
use Rattle.lash_model.specs.Acceptance.{int_state, accepts_lasso}
use Rattle.part_laws.specs.Graphs.{IsWord, IsLooping}
use Rattle.part_laws.specs.Endings.{accepts_from}
use Rattle.part_laws.specs.CanonicalMixed.{fraction_graph}

-- no lasso in range is accepted (emptiness of a Büchi automaton, on lassos)
abbrev pub AcceptsNoLasso : Table → Type 0
AcceptsNoLasso t = (x : Lasso) → IsLasso t.base t.tracks x → accepts_lasso t x ≡ false

-- some stem and some cycle that is not empty are accepted from the fraction state (non-emptiness of a Büchi automaton, from a state)
pub record AcceptsSome (t : Table) (q : ℕ) : Type 0 where
  pub stem : List ℕ
  pub cycle : List ℕ
  pub stem_in : IsWord (letters t) stem
  pub cycle_in : IsWord (letters t) cycle
  pub turns : 0 < length cycle
  pub accepted : accepts_from (letters t) (fraction_graph t) q stem cycle ≡ true

-- the output after a sign vector and a whole word (own)
abbrev pub output : Table → ℕ → List ℕ → ℕ
output t sign whole = slice_index t.outs (int_state t sign whole)

-- the one word is the other or comes before it: shorter words first, then by letters (own)
abbrev pub IsWordAtMost : List ℕ → List ℕ → Type 0
IsWordAtMost u v = AtMost (record { start = 0; word = u }) (record { start = 0; word = v })

-- the fraction state lies on a loop, and its colour is yes (own)
pub record IsYesLoop (t : Table) (q : ℕ) : Type 0 where
  pub loops : IsLooping t.frac_rows (letters t) q
  pub yes : slice_index t.colours q ≡ 1

-- no word leads from the fraction state to a looping one of colour yes (own)
abbrev pub LeadsNowhere : Table → ℕ → Type 0
LeadsNowhere t q = (w : List ℕ) → IsWord (letters t) w → IsYesLoop t (go t.frac_rows (letters t) q w) → ⊥

-- the word leads from the fraction state to a looping one of colour yes, and it is at most every word that does (own)
pub record IsLeastStem (t : Table) (q : ℕ) (w : List ℕ) : Type 0 where
  pub letters_in : IsWord (letters t) w
  pub leads : IsYesLoop t (go t.frac_rows (letters t) q w)
  pub least : (v : List ℕ) → IsWord (letters t) v → IsYesLoop t (go t.frac_rows (letters t) q v) → IsWordAtMost w v

-- the word is not empty and leads from the fraction state back to it, and it is at most every such word (own)
pub record IsLeastCycle (t : Table) (q : ℕ) (w : List ℕ) : Type 0 where
  pub letters_in : IsWord (letters t) w
  pub some : 0 < length w
  pub leads : go t.frac_rows (letters t) q w ≡ q
  pub least : (v : List ℕ) → IsWord (letters t) v → 0 < length v → go t.frac_rows (letters t) q v ≡ q → IsWordAtMost w v

-- the sign vector and the whole word lead to an output from which something is accepted, and no pair that does is less: by length, then
-- sign vector, then letters (own)
pub record IsLeastPair (t : Table) (sign : ℕ) (whole : List ℕ) : Type 0 where
  pub accepts : AcceptsSome t (output t sign whole)
  pub least : (other : ℕ) (w : List ℕ) → other < 2 ^ t.tracks → All (λ l. l < letters t) w → AcceptsSome t (output t other w)
      → AtMost (record { start = sign; word = whole }) (record { start = other; word = w })

-- the fixed solution: the least pair, the least stem from its output, and the least cycle from there (own choice)
pub record IsFixedSolution (t : Table) (x : Lasso) : Type 0 where
  pub range : IsLasso t.base t.tracks x
  pub pair : IsLeastPair t x.sign x.whole
  pub stem : IsLeastStem t (output t x.sign x.whole) x.stem
  pub cycle : IsLeastCycle t (go t.frac_rows (letters t) (output t x.sign x.whole) x.stem) x.cycle
