-- Since the base is at least 2, the sign vectors are at most as many as the letters.
use Rattle.std.proofs.Common.{◌^◌, ap, arith}
use Rattle.std.proofs.Math.Nat.{pow-le-pow_left}
use Rattle.least_paths.proofs.nets.sign_count.Goals as goal

pub pow-count-requires : goal.pow-count-requires
pow-count-requires g c =
    let table = c.letters-letters.ensures.table in
    omega (arith, ap (λ n. 2 ^ n) c.tracks.ensures, pow-le-pow_left table.shape.base_low c.args.table.now.table.tracks, table.shape.few_letters)

pub prove-unreachable-requires : goal.prove-unreachable-requires
prove-unreachable-requires g c =
    let table = c.letters-letters.ensures.table in
    omega (arith, ap (λ n. 2 ^ n) c.tracks.ensures, pow-le-pow_left table.shape.base_low c.args.table.now.table.tracks, c.letters-letters.ensures.value)
