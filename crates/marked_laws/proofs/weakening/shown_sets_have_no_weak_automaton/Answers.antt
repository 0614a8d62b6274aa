use Rattle.lash_model.specs.Meaning.{Solves}
use Rattle.lash_model.specs.Sets.{set_of, bound_by_fraction}
use Rattle.marked_laws.proofs.NoWeak.{no_weak}
use Rattle.marked_laws.proofs.weakening.shown_sets_have_no_weak_automaton.Goals as goal

pub returns-clause-bound : goal.returns-clause-bound
returns-clause-bound c = λ t f placed track sign whole stem accept reject h weak stands. no_weak t
    (bound_by_fraction track (set_of f placed)) h weak stands sign whole stem accept reject

pub returns-clause-solutions : goal.returns-clause-solutions
returns-clause-solutions c = λ t sorts f sign whole stem accept reject h weak stands. no_weak t (Solves sorts f) h weak stands sign whole stem accept reject
