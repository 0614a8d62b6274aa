use Rattle.script_parse.proofs.Placing.{place_there, place_behind}
use Rattle.script_parse.proofs.piece.place_of.Goals as goal

pub returns-then-at-tokens : goal.returns-then-at-tokens
returns-then-at-tokens c = place_there c.args.end c.args.tokens.now c.args.at _ c.if-at-tokens.true

pub returns-else-at-tokens : goal.returns-else-at-tokens
returns-else-at-tokens c = place_behind c.args.end c.args.tokens.now c.args.at c.if-at-tokens.false
