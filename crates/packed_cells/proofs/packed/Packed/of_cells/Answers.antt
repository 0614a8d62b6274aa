use Rattle.std.proofs.Common.{rules, ◌<◌, length, arith, ap, sym, ◌∙◌, subst}
use Rattle.std.proofs.lemmas.List.{length-set}
use Rattle.std.proofs.lemmas.Grind.{same_number_lists}
use Rattle.packed_cells.specs.Cells.{IsLeastBits}
use Rattle.packed_cells.proofs.Copying.{copied_more, same_exponent, least_for_all}
use Rattle.packed_cells.proofs.packed.Packed.of_cells.Goals as goal

pub loop-at-preserved : goal.loop-at-preserved
loop-at-preserved g c =
    let within : c.loop-at.at < length (g.C.Cells.items c.args.cells.now) = search rules in (
      same_exponent c.set.new.self.bits c.loop-at.packed.bits c.set.ensures.limit ∙ c.loop-at.invariant.0,
      ap length c.set.ensures.items ∙ length-set c.loop-at.packed.items c.loop-at.at c.get.result ∙ c.loop-at.invariant.1,
      rw c.set.ensures.items (copied_more (g.C.Cells.items c.args.cells.now) c.loop-at.packed.items c.loop-at.at c.get.result c.get.ensures.value c.loop-at.invariant.1 within c.loop-at.invariant.2),
    )

pub returns-clause-items : goal.returns-clause-items
returns-clause-items g c = same_number_lists c.loop-at.packed.items (g.C.Cells.items c.args.cells.now) c.loop-at.invariant.1 (λ k h. c.loop-at.invariant.2 k (omega (arith, h, c.loop-at.invariant.1, c.len-at-end.ensures, c.loop-at-test.false)))

pub returns-clause-bits : goal.returns-clause-bits
returns-clause-bits g c =
    subst (λ bits. IsLeastBits (g.C.Cells.items c.args.cells.now) bits) (sym (c.loop-at.invariant.0 ∙ ap (λ p. p.bits) c.in-Ok.ensures))
    (least_for_all (g.C.Cells.items c.args.cells.now) c.largest.result c.least_bits.result c.largest.ensures.above c.largest.ensures.least c.least_bits.ensures.some c.least_bits.ensures.holds c.least_bits.ensures.least)
