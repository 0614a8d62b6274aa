use Rattle.std.proofs.Common.{◌≡◌, ◌+◌, [], ◌∷◌, ◌++◌, true, sym, ◌∙◌}
use Rattle.std.proofs.Math.IntN.{pos}
use Rattle.std.proofs.lemmas.List.{get_or_push}
use Rattle.matrix_powers.specs.Orbits.{at_row}
use Rattle.loop_laws.proofs.Closing.{IsKnown, closure_means, both, pushed}
use Rattle.loop_laws.proofs.laws.counted_closure_counts_turns.Goals as goal

pub returns : goal.returns
returns c = λ l p x y count d some power guard whole_x whole_y positive.
    let n = l.matrix.side in
    let ns = (x ++ y) ++ count ∷ [] in
    let two = both n x y whole_x whole_y in
    let known : IsKnown true l p d x y ns = record { some = some; power = power; guard = guard; whole_x = whole_x; whole_y = whole_y; positive = positive; stands = pushed n (n + n) x y (x ++ y) count two } in
    let there : at_row ns (n + n) ≡ count = get_or_push (x ++ y) count (pos 0) (n + n) two.count in
    let means = closure_means true l p d x y ns known in
    (λ h. let t = means.0 h in (t.turns, (sym there ∙ t.counts, t.leads)), λ h. means.1 (record { turns = h.0; leads = h.1.1; counts = there ∙ h.1.0 }))
