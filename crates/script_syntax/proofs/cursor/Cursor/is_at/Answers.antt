use Rattle.std.proofs.Common.{◌∙◌}
use Rattle.script_tokens.specs.Shape.{placed_of}
use Rattle.script_syntax.proofs.InHand.{at_sign}
use Rattle.script_syntax.proofs.cursor.Cursor.is_at.Goals as goal

pub returns-in-Some : goal.returns-in-Some
returns-in-Some c = c.is_sign.ensures ∙ at_sign c.args.kind c.args.self.now (placed_of c.in-Some.placed) c.in-Some.ensures
