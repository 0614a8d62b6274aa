use Rattle.std.proofs.Common.{map, drop}
use Rattle.script_statements.specs.Values.{rational_of}
use Rattle.statement_meaning.proofs.Filling.{IsFilling}
use Rattle.statement_meaning.proofs.vectors.ratios.Given as goal

abbrev pub invariant-loop-value : goal.invariant-loop-value
invariant-loop-value l = IsFilling (map rational_of l.values) l.ratios.items (map rational_of (drop l.value-index l.values))
