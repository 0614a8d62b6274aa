use Rattle.lash_model.specs.Sets.{set_of, bound_by_fraction}
use Rattle.marked_laws.proofs.WeakForms.{form_is_weak, form_is_table, form_accepts, form_stands}
use Rattle.marked_laws.proofs.weakening.part_colours_weaken.Goals as goal

pub returns-clause-weak : goal.returns-clause-weak
returns-clause-weak c = λ t u h. form_is_weak t u

pub returns-clause-table : goal.returns-clause-table
returns-clause-table c = form_is_table

pub returns-clause-accepts : goal.returns-clause-accepts
returns-clause-accepts c = form_accepts

pub returns-clause-stands : goal.returns-clause-stands
returns-clause-stands c = λ t u f placed track. form_stands t u (bound_by_fraction track (set_of f placed))
