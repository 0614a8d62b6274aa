-- The tokens behind the one in hand.
use Rattle.std.proofs.Common.{◌≡◌, ◌∙◌, ap, drop, map, ◌+◌, suc, arith}
use Rattle.script_tokens.specs.Shape.{placed_of}
use Rattle.script_syntax.proofs.Steps.{next_map}
use Rattle.script_syntax.proofs.cursor.Cursor.step.Goals as goal

pub returns : goal.returns
returns c =
    let next : c.self.inside.at + 1 ≡ suc c.self.inside.at = omega arith in
    ap (λ k. map placed_of (drop k c.self.inside.tokens.now)) next ∙ next_map placed_of c.self.inside.at c.self.inside.tokens.now ∙ ap (drop 1) c.self.view_is
