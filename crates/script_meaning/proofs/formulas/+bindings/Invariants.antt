use Rattle.std.proofs.Common.{length}
use Rattle.script_meaning.proofs.formulas.+bindings.Given as goal

abbrev pub decreases-bindings : goal.decreases-bindings
decreases-bindings l = length l.declarations.now
