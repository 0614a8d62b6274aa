use Rattle.breakpoint_build.proofs.KeyLists.{ordered_entries}
use Rattle.breakpoint_build.proofs.keys.write_entries.Goals as goal

pub returns : goal.returns
returns g c = ordered_entries c.args.table.now.table c.args.set.now c.write_outputs.new.into.items c.put_in_order.new.list.items c.letters-letters.ensures.table c.requires.fractions c.requires.set c.in-Ok.ensures c.put_in_order.ensures
