-- x is a name, since it is a letter and no keyword has one letter alone.
use mathlib.Core.Logic.{inl}
use Rattle.std.proofs.Common.{rules}
use Rattle.formula_core.specs.Names.{keywords}
use Rattle.script_meaning.proofs.tests.one_variable.Goals as goal

pub add-requires-clause-named : goal.add-requires-clause-named
unfolding keywords
add-requires-clause-named c = inl (record { word = search rules; free = ((λ e. cc), ((λ e. cc), ((λ e. cc), ((λ e. cc), ((λ e. cc), ((λ e. cc), ((λ e. cc), ((λ e. cc), ((λ e. cc), ((λ e. cc), ((λ e. cc), ((λ e. cc), ((λ e. cc), ((λ e. cc), ((λ e. cc), ((λ e. cc), ((λ e. cc), ((λ e. cc), ((λ e. cc), ((λ e. cc), ((λ e. cc), tt))))))))))))))))))))) })
