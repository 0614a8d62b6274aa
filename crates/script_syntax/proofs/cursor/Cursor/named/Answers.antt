-- A name, and the rest.
use Rattle.std.proofs.Common.{ap, length}
use Rattle.parser_laws.specs.Parsing.{either, res_map}
use Rattle.script_tokens.specs.declared.kind.Kind.TheVariants as kind
use Rattle.script_grammar.specs.Views.{is, name}
use Rattle.script_grammar.specs.Terms.{called, compared, named}
use Rattle.script_syntax.specs.Trees.{Named, named_of, tree_of, named_shape}
use Rattle.script_syntax.proofs.Sequences.{seq_read, agrees_on}
use Rattle.script_syntax.proofs.cursor.Cursor.named.Goals as goal

itself : Named → Named
itself n = n

pub returns-in-Ok-clause-answer : goal.returns-in-Ok-clause-answer
unfolding itself
returns-in-Ok-clause-answer c =
    agrees_on tree_of (res_map (λ x. named_shape x.left x.right) (named.parse c.args.self.now)) (res_map (named_shape (named_of c.in-Ok.name)) ((either (is kind.Open) called compared).parse c.name.new.self)) c.named_rest.result c.args.self.now c.name.new.self c.named_rest.new.self
    (seq_read itself (λ n b. named_shape n b) (length c.args.self.now) (either (is kind.Open) called compared).parse (name.parse c.args.self.now) (named_of c.in-Ok.name) c.name.new.self (ap (res_map itself) c.in-Ok.ensures.answer))
    c.in-Ok.ensures.onward c.named_rest.ensures.onward c.named_rest.ensures.answer
