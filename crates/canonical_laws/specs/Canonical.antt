-- Canonical diagrams: every state is reached, states are numbered by their least paths, and no two behave alike (own numbering).
use Rattle.std.specs.Prelude.{ℕ, ◌^◌, ◌<◌, ◌≡◌, ◌↔◌, List, length, slice_index, ℤ}
use Rattle.lash_model.specs.Words.{values}
use Rattle.lash_model.specs.Acceptance.{accepts_word}
use Rattle.std.specs.List.{AllByRecursion}
use Rattle.graph_laws.specs.Walks.{go}
use Rattle.graph_laws.specs.Paths.{Path, AtMost, path_at, IsRising}
use Rattle.lash_model.specs.Tables.{Table, letters, ints, IsTable, IsDiagram}
use Rattle.canonical_laws.specs.Behaviour.{Behaves}

-- a start of the list and letters below width
pub record IsPathOf (starts : List ℕ) (width : ℕ) (p : Path) : Type 0 where
  pub start : p.start < length starts
  pub letters : AllByRecursion (λ l. l < width) p.word

-- the state that a path leads to
abbrev pub walked : List ℕ → List ℕ → ℕ → Path → ℕ
walked starts rows width p = go rows width (slice_index starts p.start) p.word

-- the states are numbered by their least paths: a rising list of paths has for each state one that leads to it, and no path leads to
-- a state before its listed one
pub record IsNumbered (starts rows : List ℕ) (width states : ℕ) : Type 0 where
  pub paths : List Path
  pub count : length paths ≡ states
  pub valid : (i : ℕ) → i < states → IsPathOf starts width (path_at paths i)
  pub leads : (i : ℕ) → i < states → walked starts rows width (path_at paths i) ≡ i
  pub rising : IsRising paths
  pub least : (p : Path) → IsPathOf starts width p → AtMost (path_at paths (walked starts rows width p)) p

-- states that behave alike are one
abbrev pub IsSeparated : List ℕ → ℕ → List ℕ → Type 0
IsSeparated rows width outs = (p q : ℕ) → p < length outs → q < length outs → Behaves rows width outs p q → p ≡ q

-- a diagram is canonical
pub record IsCanonical (t : Table) : Type 0 where
  pub table : IsTable t
  pub diagram : IsDiagram t
  pub numbered : IsNumbered t.roots t.rows (letters t) (ints t)
  pub separated : IsSeparated t.rows (letters t) t.outs

-- the two diagrams accept the same words, under each sign vector
abbrev pub AcceptSameWords : Table → Table → Type 0
AcceptSameWords t u = (sign : ℕ) (w : List ℕ) → sign < 2 ^ t.tracks → AllByRecursion (λ l. l < letters t) w → accepts_word t sign w ≡ accepts_word u sign w

-- the same words spell members of both sets
abbrev pub AgreeOnWords : ℕ → ℕ → (List ℤ → ℕ → Type 0) → (List ℤ → ℕ → Type 0) → Type 0
AgreeOnWords base tracks P Q = (sign : ℕ) (w : List ℕ) → sign < 2 ^ tracks → AllByRecursion (λ l. l < base ^ tracks) w → P (values base tracks sign w) 1 ↔ Q (values base tracks sign w) 1
