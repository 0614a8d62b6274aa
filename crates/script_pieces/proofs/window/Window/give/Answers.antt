use Rattle.std.proofs.Common.{arith, ◌-◌, drop}
use Rattle.std.proofs.lemmas.List.{length-take}
use Rattle.script_pieces.proofs.Slices.{given}
use Rattle.script_pieces.proofs.window.Window.give.Goals as goal

pub returns : goal.returns
returns c =
    let w = c.args.self.now in
    given w.bytes.items w.start w.end c.args.count (omega (arith, w.ordered, length-take (w.end - w.start) (drop w.start w.bytes.items)))
