use Rattle.std.proofs.Common.{arith}
use Rattle.std.proofs.lemmas.List.{length-map}
use Rattle.least_paths.specs.Searches.{state_key}
use Rattle.least_paths.proofs.StateWalks.{never_heavy}
use Rattle.least_paths.proofs.row_steps.explored_rows.Goals as goal

pub explore-requires-clause-starts : goal.explore-requires-clause-starts
explore-requires-clause-starts c = omega (arith, length-map c.new.result.starts state_key, c.new.ensures.search.few_starts)

pub unreachable-requires : goal.unreachable-requires
unreachable-requires c = never_heavy c.new.result c.new.ensures.search (c.in-Err-Heavy.ensures.heavy c.in-Err-Heavy.field-0-is)
