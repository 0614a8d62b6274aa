-- What an error tells of a table.
use Rattle.std.specs.Prelude.{ℕ, List}
use Rattle.lash_model.specs.Tables.{Table}
use Rattle.marked_laws.specs.TornTables.{AreTornWords}
use Rattle.weak_forms.specs.declared.errors.WeakError.{WeakError}
use Rattle.weak_forms.specs.declared.errors.WeakError.TheVariants.{NotWeak, Memory}

-- the words of a torn table, if no weak automaton has its set
abbrev pub TellsTorn : Table → WeakError → Type 0
TellsTorn t (NotWeak sign whole stem accept reject) = AreTornWords t sign whole stem accept reject
TellsTorn t Memory = Unit

-- what it tells of each table that these are the words of (own)
abbrev pub TellsOfWords : ℕ → List ℕ → List ℕ → List ℕ → List ℕ → WeakError → Type 0
TellsOfWords sign whole stem accept reject e = (t : Table) → AreTornWords t sign whole stem accept reject → TellsTorn t e
