use Rattle.loop_meaning.proofs.Reading.{names_are_names}
use Rattle.loop_meaning.proofs.judging.built.Goals as goal

pub loop_vars-requires-clause-named : goal.loop_vars-requires-clause-named
loop_vars-requires-clause-named c = names_are_names c.args.turns.now.vars.items c.deref-2.result.now c.deref-2.ensures.value c.requires.readable.named
