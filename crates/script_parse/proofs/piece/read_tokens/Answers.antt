use Rattle.std.proofs.Common.{map}
use Rattle.script_tokens.specs.Shape.{placed_of}
use Rattle.script_statements.specs.Statements.{statement_of}
use Rattle.script_names.specs.Kept.{sets_of}
use Rattle.script_parse.proofs.Answering.{spelled, readable_tree, answered}
use Rattle.script_parse.proofs.piece.read_tokens.Goals as goal

pub judged-requires : goal.judged-requires
judged-requires c =
    record
    { readable = readable_tree c.args.tokens.now c.in-Ok.tree (spelled (map placed_of c.args.tokens.now) c.in-Ok.tree c.in-Ok.ensures.read) c.requires.few c.requires.named }

pub returns-in-Ok : goal.returns-in-Ok
returns-in-Ok c =
    answered c.args.base (sets_of c.args.defs.now) c.args.end (map placed_of c.args.tokens.now) (statement_of c.in-Ok.tree) c.judged.result
    (spelled (map placed_of c.args.tokens.now) c.in-Ok.tree c.in-Ok.ensures.read) c.judged.ensures
