-- The product of two tables of one kind (the synchronous product): of diagrams the pairs of their states, and of tables with fraction
-- states the pairs of both parts.
use Rattle.std.specs.Prelude.{ℕ, ◌<◌, ◌⊎◌}
use Rattle.graph_laws.specs.Exploring.{IsHeavy, IsHeavyInTwo}
use Rattle.lash_model.specs.Tables.{Table, fracs, IsDiagram}
use Rattle.product_ops.specs.FractionPairs.{outs_of, fraction_pairs, IsPairTableInTwo}
use Rattle.product_ops.specs.Pairs.{pairs, IsPairTable}
use Rattle.product_ops.specs.Tracks.{TrackLists}
use Rattle.product_ops.specs.declared.operation.Op.{Op}

-- the table of exactly the pairs that are reached, within the limit of cells
abbrev pub IsProductTable : Op → Table → Table → TrackLists → ℕ → Table → Type 0
IsProductTable op a b m limit t = (IsDiagram a × IsPairTable op a b m limit t) ⊎ ((0 < fracs a) × IsPairTableInTwo op a b m limit t)

-- the pairs that are reached have more cells than the limit
abbrev pub IsHeavyProduct : Table → Table → TrackLists → ℕ → Type 0
IsHeavyProduct a b m limit = (IsDiagram a × IsHeavy (pairs a b m) limit) ⊎ ((0 < fracs a) × IsHeavyInTwo (pairs a b m) (outs_of a b) (fraction_pairs a b m) limit)

-- both tables are diagrams, or both have fraction states
abbrev pub HaveSameKind : Table → Table → Type 0
HaveSameKind a b = (IsDiagram a × IsDiagram b) ⊎ ((0 < fracs a) × (0 < fracs b))
