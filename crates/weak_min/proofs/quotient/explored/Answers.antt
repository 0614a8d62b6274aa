use Rattle.std.proofs.Common.{◌+◌, ◌*◌, length, subst}
use Rattle.graph_laws.specs.Exploring.{IsHeavy}
use Rattle.weak_min.specs.Quotients.{Classing, quotient}
use Rattle.weak_min.proofs.Reaching.{never_heavy}
use Rattle.weak_min.proofs.quotient.explored.Goals as goal

pub unreachable-requires : goal.unreachable-requires
unreachable-requires c =
    let made : Classing = record { width = c.args.width; rows = c.args.rows.now; classes = c.args.classes.now; starts = c.args.starts.now } in
    let heavy : IsHeavy (quotient c.new.result) (length c.args.classes.now * (c.from.result + 1)) = c.in-Err-Heavy.ensures.heavy c.in-Err-Heavy.field-0-is in
    never_heavy made c.requires
    (subst (λ m. IsHeavy (quotient m) (length c.args.classes.now * (c.args.width + 1))) c.new.ensures
    (subst (λ n. IsHeavy (quotient c.new.result) (length c.args.classes.now * (n + 1))) c.from.ensures heavy))
