use Rattle.std.proofs.Common.{rules, arith, ◌<◌, ◌^◌, ◌∙◌, sym, subst}
use Rattle.product_ops.proofs.Copying.{few_signs, root_copied}
use Rattle.product_ops.proofs.restriction.copy_roots.Goals as goal

pub pow-sign-end-requires : goal.pow-sign-end-requires
pow-sign-end-requires g c = subst (λ n. 2 ^ n < 4294967296) (sym c.tracks.ensures) (omega (arith, few_signs c.args.source.now.table c.letters-letters.ensures.table))

pub loop-sign-preserved : goal.loop-sign-preserved
loop-sign-preserved g c =
    let inside : c.loop-sign.sign < 2 ^ c.args.source.now.table.tracks = search rules in
    c.set_root.ensures.changed ∙ root_copied c.args.source.now.table c.loop-sign.table c.loop-sign.sign c.root.result c.letters-letters.ensures.table c.loop-sign.invariant inside c.root.ensures.value
