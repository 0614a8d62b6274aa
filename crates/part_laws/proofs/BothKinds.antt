-- Canonical tables of either kind.
use Rattle.std.proofs.Common.{◌≡◌, ℕ, ◌<◌, length, arith, ap}
use mathlib.Core.Logic.{inl, inr}
use Rattle.lash_model.specs.Tables.{Table, fracs, IsTable, IsDiagram}
use Rattle.canonical_laws.specs.Canonical.{IsCanonical}
use Rattle.part_laws.specs.CanonicalMixed.{IsCanonicalMixed, IsCanonicalTable}

-- no table is of both kinds
pub one_kind : (t : Table) → IsDiagram t → 0 < fracs t → ⊥
one_kind t none some = omega (arith, some, ap length none)

pub canonical_diagram : (t : Table) → IsCanonicalTable t → IsDiagram t → IsCanonical t
canonical_diagram t h none = elim h [ inl diagram ↦ diagram | inr mixed ↦ absurd (one_kind t none mixed.fractions) ]

pub canonical_fractions : (t : Table) → IsCanonicalTable t → 0 < fracs t → IsCanonicalMixed t
canonical_fractions t h some = elim h [ inl diagram ↦ absurd (one_kind t diagram.diagram some) | inr mixed ↦ mixed ]

pub canonical_table : (t : Table) → IsCanonicalTable t → IsTable t
canonical_table t h = elim h [ inl diagram ↦ diagram.table | inr mixed ↦ mixed.table ]
