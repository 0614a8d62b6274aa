-- Canonical tables with fraction states (own numbering; the canonical weak automata are those of Löding 2001).
use Rattle.std.specs.Prelude.{ℕ, ◌<◌, ◌≡◌, ◌⊎◌, ◌↔◌, List, [], ◌∷◌, ℤ}
use Rattle.lash_model.specs.Lassos.{Lasso, IsLasso, denominator, numerators}
use Rattle.lash_model.specs.Tables.{Table, letters, ints, fracs, IsTable}
use Rattle.lash_model.specs.Acceptance.{accepts_lasso}
use Rattle.canonical_laws.specs.Canonical.{IsNumbered, IsSeparated, IsCanonical}
use Rattle.part_laws.specs.Graphs.{Graph, IsWeak}
use Rattle.part_laws.specs.Ranks.{IsByRank}

-- the fraction part of a table, as a graph with colours
abbrev pub fraction_graph : Table → Graph
fraction_graph t = record { rows = t.frac_rows; colours = t.colours }

-- a table with fraction states is canonical: integer states are numbered from the roots, and no two of them have equal outputs after
-- all words; fraction states are numbered from the outputs, and no two of them have equal colours after all words; the fraction part
-- is weak, and its colours are by rank
pub record IsCanonicalMixed (t : Table) : Type 0 where
  pub table : IsTable t
  pub fractions : 0 < fracs t
  pub numbered : IsNumbered t.roots t.rows (letters t) (ints t)
  pub separated : IsSeparated t.rows (letters t) t.outs
  pub fraction_numbered : IsNumbered t.outs t.frac_rows (letters t) (fracs t)
  pub fraction_separated : IsSeparated t.frac_rows (letters t) t.colours
  pub weak : IsWeak (letters t) (fraction_graph t)
  pub by_rank : IsByRank (letters t) (fraction_graph t)

-- a table of either kind is canonical: a diagram, or a table with fraction states
abbrev pub IsCanonicalTable : Table → Type 0
IsCanonicalTable t = IsCanonical t ⊎ IsCanonicalMixed t

-- the two tables accept the same lassos, of the base and the tracks of the first
abbrev pub AcceptSameLassos : Table → Table → Type 0
AcceptSameLassos t u = (x : Lasso) → IsLasso t.base t.tracks x → accepts_lasso t x ≡ accepts_lasso u x

-- the same lassos spell members of both sets
abbrev pub AgreeOnLassos : ℕ → ℕ → (List ℤ → ℕ → Type 0) → (List ℤ → ℕ → Type 0) → Type 0
AgreeOnLassos base tracks P Q = (x : Lasso) → IsLasso base tracks x
    → P (numerators base tracks x) (denominator base x) ↔ Q (numerators base tracks x) (denominator base x)

-- the table with no tracks that accepts all lassos
abbrev pub everything : Table
everything = record { base = 2; tracks = 0; roots = 0 ∷ []; rows = 0 ∷ []; outs = 0 ∷ []; frac_rows = 0 ∷ []; colours = 1 ∷ [] }
