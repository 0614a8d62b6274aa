use Rattle.std.proofs.Common.{sym, ap, ◌∙◌, map, subst, length, arith}
use Rattle.std.proofs.lemmas.List.{length-map}
use Rattle.script_tokens.specs.Shape.{placed_of}
use Rattle.script_tokens.specs.Naming.{AreNamed}
use Rattle.script_tokens.proofs.Few.{few}
use Rattle.script_tokens.proofs.Naming.{are_named}
use Rattle.script_parse.proofs.Stepping.{rest_spells_none}
use Rattle.script_parse.proofs.piece.read_rest.Goals as goal

pub read_tokens-requires-clause-few : goal.read_tokens-requires-clause-few
read_tokens-requires-clause-few c = omega (arith, few c.args.given c.args.piece.now, ap length c.in-Ok.ensures, length-map c.in-Ok.tokens.items placed_of, ap length c.deref.ensures.value, c.requires.few)

pub read_tokens-requires-clause-named : goal.read_tokens-requires-clause-named
read_tokens-requires-clause-named c = subst AreNamed (sym c.in-Ok.ensures ∙ ap (map placed_of) (sym c.deref.ensures.value)) (are_named c.args.given c.args.piece.now)

pub returns-in-Ok-read_tokens : goal.returns-in-Ok-read_tokens
returns-in-Ok-read_tokens c = absurd (rest_spells_none c.args.given c.args.piece.now (map placed_of c.deref.result.now) c.in-Ok-read_tokens.ensures.shape c.requires.unended (ap (map placed_of) c.deref.ensures.value ∙ c.in-Ok.ensures) c.in-Ok-read_tokens.ensures.spells)
