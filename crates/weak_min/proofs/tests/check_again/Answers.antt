use Rattle.std.proofs.Common.{◌<◌, sym, subst}
use Rattle.lash_model.specs.Tables.{fracs}
use Rattle.part_laws.specs.CanonicalMixed.{IsCanonicalMixed}
use Rattle.step_tables.specs.Kept.{Kept}
use Rattle.weak_min.proofs.tests.check_again.Goals as goal

pub canonical-requires : goal.canonical-requires
canonical-requires g c = λ some. (subst (λ (k : Kept). IsCanonicalMixed k.table) (sym c.table.ensures.value)
    (c.table.ensures.fractions (subst (λ (k : Kept). 0 < fracs k.table) c.table.ensures.value some))).weak
