use Rattle.std.proofs.Common.{suc}
use Rattle.integer_laws.proofs.Ring.{le_scaled, le_unscaled, eq_unscaled}
use Rattle.integer_laws.proofs.positive_factors_keep_order.Goals as goal

pub returns-clause-keep : goal.returns-clause-keep
returns-clause-keep c = λ k. le_scaled (suc k)

pub returns-clause-reflect : goal.returns-clause-reflect
returns-clause-reflect c = le_unscaled

pub returns-clause-same : goal.returns-clause-same
returns-clause-same c = eq_unscaled
