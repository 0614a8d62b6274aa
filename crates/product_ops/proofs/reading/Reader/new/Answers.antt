use Rattle.std.proofs.Common.{arith, ap, sym, subst, ◌^◌, ◌≤◌, length}
use Rattle.product_ops.proofs.TrackReading.{few_signs}
use Rattle.product_ops.proofs.reading.Reader.new.Goals as goal

pub read_letters-requires-2-clause-few : goal.read_letters-requires-2-clause-few
read_letters-requires-2-clause-few g c = omega (arith, few_signs c.args.table.now.table.base c.args.tracks c.letters-letters.ensures.table.shape.base_low c.requires.few, ap (λ r. r ^ c.args.tracks) c.sign_base.ensures)

pub read_letters-requires-2-clause-fits : goal.read_letters-requires-2-clause-fits
read_letters-requires-2-clause-fits g c =
    let few : c.args.table.now.table.base ^ length c.args.places.now ≤ 4096 = subst (λ n. c.args.table.now.table.base ^ n ≤ 4096) (sym c.requires.count) c.letters-letters.ensures.table.shape.few_letters in
    omega (arith, few_signs c.args.table.now.table.base (length c.args.places.now) c.letters-letters.ensures.table.shape.base_low few, ap (λ r. r ^ length c.args.places.now) c.sign_base.ensures)
