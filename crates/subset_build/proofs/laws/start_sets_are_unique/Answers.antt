use Rattle.subset_build.proofs.Uniqueness.{one_list_of_starts}
use Rattle.subset_build.proofs.laws.start_sets_are_unique.Goals as goal

pub returns : goal.returns
returns c = one_list_of_starts
