use Rattle.std.proofs.Common.{◌≡◌}
use Rattle.lash_model.specs.Tables.{IsTable}
use Rattle.product_ops.specs.Negation.{exchanged_upto}
use Rattle.product_ops.proofs.negation.exchange_colours.Given as goal

abbrev pub invariant-loop-state : goal.invariant-loop-state
invariant-loop-state g l = record {
  changed : l.table ≡ record l.initial.table { table = record l.initial.table.table { colours = exchanged_upto l.state l.initial.table.table.colours } };
  valid : IsTable l.table.table;
}
