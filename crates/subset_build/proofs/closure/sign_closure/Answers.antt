use Rattle.std.proofs.Common.{arith, ◌≡◌, ◌+◌, ◌-◌, ◌^◌, ◌∙◌, ap, sym, subst, map}
use Rattle.std.proofs.lemmas.List.{map_push}
use Rattle.subset_build.specs.Closing.{AreSetsUpto}
use Rattle.subset_build.specs.Projection.{kept, AreStartSets}
use Rattle.subset_build.proofs.Closings.{few_kept_signs, set_more, all_sets}
use Rattle.subset_build.proofs.closure.sign_closure.Goals as goal

pub pow-sign-end-requires : goal.pow-sign-end-requires
pow-sign-end-requires g c = omega (arith, few_kept_signs c.args.table.now.table c.letters-letters.ensures.table, ap (λ n. 2 ^ (n - 1)) c.tracks.ensures)

pub loop-sign-preserved : goal.loop-sign-preserved
loop-sign-preserved g c =
    subst (λ sets. AreSetsUpto c.args.table.now.table c.args.track (c.loop-sign.sign + 1) sets c.closed_set.new.marks)
    (sym (ap (map (λ v. v.items)) c.in-Ok-push.ensures.items ∙ map_push (λ v. v.items) c.loop-sign.sets.items c.in-Ok-closed_set.set))
    (set_more c.args.table.now.table c.args.track c.loop-sign.sign (map (λ v. v.items) c.loop-sign.sets.items) c.in-Ok-closed_set.set.items c.loop-sign.marks c.closed_set.new.marks c.loop-sign.invariant c.in-Ok-closed_set.ensures.closed c.in-Ok-closed_set.ensures.count)

pub returns : goal.returns
returns g c =
    let end : c.loop-sign.sign ≡ 2 ^ kept c.args.table.now.table = omega (arith, c.loop-sign-test.false, c.loop-sign.auto.sign-end, c.pow-sign-end.ensures, ap (λ n. 2 ^ (n - 1)) c.tracks.ensures) in
    subst (AreStartSets c.args.table.now.table c.args.track) (sym c.new-2.ensures) (all_sets c.args.table.now.table c.args.track c.loop-sign.sign (map (λ v. v.items) c.loop-sign.sets.items) c.loop-sign.marks c.loop-sign.invariant end)
