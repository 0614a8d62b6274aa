-- The error of a loop whose closure passes a limit.
use Rattle.term_substitution.specs.declared.errors.FormError.{FormError}
use Rattle.term_substitution.specs.declared.errors.FormError.TheVariants as form
use Rattle.loop_closure.specs.declared.errors.LoopError.{LoopError}
use Rattle.loop_closure.specs.declared.errors.LoopError.TheVariants.{Nodes, Depth, Coefficient, Constant, Memory}

abbrev pub error_of : FormError → LoopError
error_of form.Nodes = Nodes
error_of form.Depth = Depth
error_of form.Coefficient = Coefficient
error_of form.Constant = Constant
error_of form.Memory = Memory
