use Rattle.std.proofs.Common.{refl, [], ◌∷◌}
use Rattle.std.specs.Prelude.{slice_index}
use Rattle.graph_laws.proofs.Joining.{go-append}
use Rattle.lash_model.specs.Tables.{letters}
use Rattle.lash_model.proofs.states_are_read_in_turn.Goals as goal

pub returns-clause-root : goal.returns-clause-root
returns-clause-root c = λ t sign. refl

pub returns-clause-letter : goal.returns-clause-letter
returns-clause-letter c = λ t sign w l. go-append t.rows (letters t) (slice_index t.roots sign) w (l ∷ [])
