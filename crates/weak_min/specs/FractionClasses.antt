-- The classes of both parts of a table with fraction states (own): fraction states by the colours of their ranks after all words, and
-- integer states by the classes of their outputs after all words.
use Rattle.std.specs.Prelude.{ℕ, ◌≡◌, List}
use Rattle.graph_laws.specs.Exploring.{KeyTable, IsExplored}
use Rattle.lash_model.specs.Tables.{Table, letters, IsTable}
use Rattle.canonical_laws.specs.Behaviour.{AreClasses}
use Rattle.part_laws.specs.Ranks.{IsRecolouring}
use Rattle.part_laws.specs.CanonicalMixed.{fraction_graph}
use Rattle.part_laws.specs.ClassTables.{class_outs, named_outs}
use Rattle.weak_min.specs.Quotients.{Classing, quotient, all_cells}

-- the rows of the fraction part of a table in range, the colours of its ranks, and its classes by these colours
pub record AreRanked (t : Table) (rows colours classes : List ℕ) : Type 0 where
  pub table : IsTable t
  pub rows_are : rows ≡ t.frac_rows
  pub colours_are : IsRecolouring (letters t) (fraction_graph t) colours
  pub classes_are : AreClasses t.frac_rows (letters t) colours classes

-- the integer part with classes, from the roots
abbrev pub int_classing : Table → List ℕ → Classing
int_classing t classes = record { width = letters t; rows = t.rows; classes = classes; starts = t.roots }

-- the fraction part with classes, from the outputs of the integer states that keys name
abbrev pub fraction_classing : Table → List ℕ → KeyTable → Classing
fraction_classing t classes ints = record { width = letters t; rows = t.frac_rows; classes = classes; starts = named_outs t ints }

-- the classes of integer states that are reached
pub record AreReachedInts (t : Table) (fraction_classes : List ℕ) (found : KeyTable) : Type 0 where
  pub classes : List ℕ
  pub behaviour : AreClasses t.rows (letters t) (class_outs t fraction_classes) classes
  pub explored : IsExplored (quotient (int_classing t classes)) (all_cells (int_classing t classes)) found

-- the classes of fraction states that are reached from those
abbrev pub AreReachedFractions : Table → List ℕ → KeyTable → KeyTable → Type 0
AreReachedFractions t classes ints found = IsExplored (quotient (fraction_classing t classes ints)) (all_cells (fraction_classing t classes ints)) found
