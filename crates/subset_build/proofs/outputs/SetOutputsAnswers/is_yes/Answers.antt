use Rattle.lash_model.specs.Tables.{ints}
use Rattle.subset_build.proofs.Targets.{below_from_proper}
use Rattle.subset_build.proofs.outputs.SetOutputsAnswers.is_yes.Goals as goal

pub has_yes-requires : goal.has_yes-requires
has_yes-requires g c = below_from_proper 0 (ints c.args.self.now.table.now.table) c.args.key.now c.requires
