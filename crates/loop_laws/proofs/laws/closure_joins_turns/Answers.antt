use Rattle.std.proofs.Common.{◌++◌, false}
use Rattle.loop_laws.proofs.Closing.{IsKnown, closure_means, both}
use Rattle.loop_laws.proofs.laws.closure_joins_turns.Goals as goal

pub returns : goal.returns
returns c = λ l p x y d some power guard whole_x whole_y positive.
    let known : IsKnown false l p d x y (x ++ y) = record { some = some; power = power; guard = guard; whole_x = whole_x; whole_y = whole_y; positive = positive; stands = both l.matrix.side x y whole_x whole_y } in
    let means = closure_means false l p d x y (x ++ y) known in
    (λ h. let t = means.0 h in (t.turns, t.leads), λ h. means.1 (record { turns = h.0; leads = h.1; counts = tt }))
