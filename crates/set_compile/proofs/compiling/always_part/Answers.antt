use Rattle.std.proofs.Common.{sym, subst}
use Rattle.lash_model.specs.Sets.{set_of}
use Rattle.formula_core.specs.Counts.{free_places}
use Rattle.set_compile.specs.Conditions.{IsOver, IsNarrow}
use Rattle.set_compile.specs.Kinds.{Stands}
use Rattle.set_compile.specs.Positions.{spread}
use Rattle.set_compile.specs.Steps.{IsMade}
use Rattle.set_compile.proofs.Widening.{always_over, always_narrow}
use Rattle.set_compile.proofs.compiling.always_part.Goals as goal

pub part-requires-clause-over : goal.part-requires-clause-over
part-requires-clause-over c = subst (IsOver c.args.places) (sym c.truth-formula.ensures) (always_over c.args.places)

pub part-requires-clause-letters : goal.part-requires-clause-letters
part-requires-clause-letters c = subst (IsNarrow c.args.build.now.base c.args.places) (sym c.truth-formula.ensures) (always_narrow c.args.build.now.base c.args.places)

pub returns-in-Ok-clause-made : goal.returns-in-Ok-clause-made
returns-in-Ok-clause-made c = subst (λ f. IsMade c.args.build.now c.args.places f c.in-Ok.made.table) c.truth-formula.ensures c.in-Ok.ensures.made

pub returns-in-Ok-clause-stands : goal.returns-in-Ok-clause-stands
returns-in-Ok-clause-stands c = subst (λ f. Stands c.in-Ok.made.table (set_of f (spread c.args.places (free_places f c.args.places)))) c.truth-formula.ensures c.in-Ok.ensures.stands
