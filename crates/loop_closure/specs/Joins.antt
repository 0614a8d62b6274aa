-- How formulas are joined.
use Rattle.lash_model.specs.Formulas.{Formula, And, Or}
use Rattle.loop_closure.specs.declared.members.Join.{Join}
use Rattle.loop_closure.specs.declared.members.Join.TheVariants.{Every, Any}

abbrev pub join_of : Join → Formula → Formula → Formula
join_of Every = And
join_of Any = Or
