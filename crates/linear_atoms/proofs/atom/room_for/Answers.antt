use Rattle.std.proofs.Common.{rules, ◌≡◌, ◌+◌, ◌-◌, ◌/◌}
use Rattle.linear_atoms.proofs.Finishing.{over_room}
use Rattle.linear_atoms.proofs.atom.room_for.Goals as goal

pub returns-clause-over : goal.returns-clause-over
returns-clause-over c =
    let is : c.saturating_sub.result ≡ c.args.limit / (c.args.letters + 1) - (1 + c.args.fracs) = search rules in
    over_room c.args.limit c.args.letters c.args.fracs c.saturating_sub.result is
