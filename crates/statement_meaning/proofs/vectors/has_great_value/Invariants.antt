use Rattle.std.proofs.Common.{◌≡◌, map, drop}
use Rattle.script_statements.specs.Values.{rational_of}
use Rattle.statement_meaning.specs.Values.{values_pass}
use Rattle.statement_meaning.proofs.vectors.has_great_value.Given as goal

abbrev pub invariant-loop-value : goal.invariant-loop-value
invariant-loop-value l = values_pass (map rational_of l.values) ≡ values_pass (map rational_of (drop l.value-index l.values))
