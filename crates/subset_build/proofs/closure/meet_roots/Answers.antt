use Rattle.std.proofs.Common.{arith, ◌+◌, sym, subst}
use Rattle.subset_build.specs.Closing.{IsClosing}
use Rattle.subset_build.proofs.KeptLetters.{few_signs}
use Rattle.subset_build.proofs.Closings.{sign_in, met_root}
use Rattle.subset_build.proofs.closure.meet_roots.Goals as goal

pub letter-requires : goal.letter-requires
letter-requires g c =
    let t = c.args.signed.now.table.now.table in
    omega (
      arith,
      sign_in t c.args.signed.now.track c.args.signed.now.sign c.args.signed.now.roots.first c.args.signed.now.roots.stride c.loop-bit.bit c.requires.signed.track_in c.requires.roots c.loop-bit-test.true,
      few_signs t.base t.tracks c.requires.signed.table.shape.base_low c.requires.signed.table.shape.few_letters,
    )

pub loop-bit-preserved : goal.loop-bit-preserved
loop-bit-preserved g c =
    let t = c.args.signed.now.table.now.table in
    subst (IsClosing t c.args.signed.now.track c.args.signed.now.sign (c.loop-bit.bit + 1) 0 0) (sym c.in-Ok.ensures.met)
    (met_root t c.args.signed.now.track c.args.signed.now.sign c.args.signed.now.roots.first c.args.signed.now.roots.stride c.loop-bit.bit c.letter.result c.root.result c.loop-bit.marks c.requires.roots c.loop-bit-test.true c.loop-bit.invariant c.letter.ensures c.root.ensures.below c.root.ensures.value)
