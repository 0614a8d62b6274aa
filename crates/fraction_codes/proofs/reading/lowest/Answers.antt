use Rattle.std.proofs.Common.{◌≡◌, ◌/◌, ◌≤◌, ◌^◌, ◌∙◌, arith, rules}
use Rattle.std.proofs.Math.IntN.{pos}
use mir.Val.{SFits, to_z}
use mir.Syntax.{w128}
use Rattle.std.proofs.Math.Nat.{div-le_self}
use Rattle.std.proofs.lemmas.Int.{ints, to_z-of_z}
use Rattle.fraction_codes.proofs.LowestTerms.{lowest_is}
use Rattle.fraction_codes.proofs.reading.lowest.Goals as goal

pub returns : goal.returns
returns c =
    let fits : SFits w128 c.signed.result = search rules in
    let small : c.args.den / c.greatest_divisor-divisor.result ≤ 2 ^ 100 = omega (arith, div-le_self c.args.den c.greatest_divisor-divisor.result, c.requires.den) in
    let plain : to_z w128 (c.args.den / c.greatest_divisor-divisor.result) ≡ pos (c.args.den / c.greatest_divisor-divisor.result) = omega (arith, ints, small) in
    lowest_is c.args.negative c.args.num c.args.den c.greatest_divisor-divisor.result _ _ c.requires.positive c.greatest_divisor-divisor.ensures.divisor (to_z-of_z w128 c.signed.result fits ∙ c.signed.ensures) plain
