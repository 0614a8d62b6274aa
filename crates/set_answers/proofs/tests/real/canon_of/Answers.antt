use Rattle.std.proofs.Common.{rules, IsTrue}
use Rattle.set_answers.proofs.tests.real.canon_of.Goals as goal

pub canonical-requires : goal.canonical-requires
canonical-requires g c = λ _. let rising : IsTrue c.is_rising.result = search rules in (c.is_rising.ensures rising).weak
