use Rattle.std.proofs.Common.{◌+◌, [], ◌∷◌, subst, ◌≡◌}
use Rattle.lash_model.specs.Formulas.{And}
use Rattle.loop_laws.specs.Closures.{early_term, gathered, guarded}
use Rattle.loop_closure.specs.Builders.{body_in, joined_on, whole_of}
use Rattle.loop_closure.proofs.Branching.{long_joined}
use Rattle.loop_closure.proofs.branches.long_members.Goals as goal

pub returns-in-Ok-put_long_count : goal.returns-in-Ok-put_long_count
returns-in-Ok-put_long_count c =
    let k = c.all_places-place.result in
    let b = c.args.builder.now in
    let l = body_in b in
    let firsts : whole_of c.in-Ok-put_first_guards.members ≡ joined_on And (whole_of c.in-Ok.members) (gathered (λ j. guarded l (early_term l j) (k + 1) ∷ []) b.orbit.power) = subst (λ n. whole_of c.in-Ok-put_first_guards.members ≡ joined_on And (whole_of c.in-Ok.members) (gathered (λ j. guarded l (early_term l j) (k + 1) ∷ []) n)) c.power-power.ensures.value c.in-Ok-put_first_guards.ensures in
    long_joined b.counted l b.orbit.power c.args.remainder k (whole_of c.in-Ok.members) (whole_of c.in-Ok-put_first_guards.members) (whole_of c.in-Ok-put_middles.members) (whole_of c.in-Ok-put_lasts.members) (whole_of c.in-Ok-put_long_count.members) c.all_places-place.ensures.places c.in-Ok.ensures firsts c.in-Ok-put_middles.ensures c.in-Ok-put_lasts.ensures c.in-Ok-put_long_count.ensures
