use Rattle.statement_meaning.proofs.Members.{names_are_fine}
use Rattle.statement_meaning.proofs.sets.set_to_keep.Goals as goal

pub resolve-requires-clause-named : goal.resolve-requires-clause-named
resolve-requires-clause-named c = names_are_fine c.args.set.now.vars.items c.deref.result.now c.deref.ensures.value c.requires.readable.named
