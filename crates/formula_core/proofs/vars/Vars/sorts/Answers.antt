-- The sorts are the second parts of the pairs.
use Rattle.std.proofs.Common.{map, ap, sym, ◌∙◌}
use Rattle.formula_core.specs.Variables.{sort_of}
use Rattle.formula_core.proofs.Listing.{sorts_seen}
use Rattle.formula_core.proofs.vars.Vars.sorts.Goals as goal

pub returns : goal.returns
returns c = ap (map sort_of) c.as_slice.ensures.value ∙ sym (sorts_seen c.self.inside.names.items c.self.inside.sorts.items c.args.self.now c.self.view_is c.self.invariant.same_length)
