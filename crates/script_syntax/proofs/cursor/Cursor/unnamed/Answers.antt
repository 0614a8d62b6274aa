-- The first part, and the rest of the comparison.
use Rattle.std.proofs.Common.{length}
use Rattle.parser_laws.specs.Parsing.{both, either, res_map}
use Rattle.script_tokens.specs.declared.kind.Kind.TheVariants as kind
use Rattle.script_grammar.specs.Views.{is, sign}
use Rattle.script_grammar.specs.Terms.{part, scaled, compared, unnamed}
use Rattle.script_syntax.specs.Trees.{signed_of, tree_of, lead_shape, compared_shape}
use Rattle.script_syntax.proofs.Sequences.{seq_read, agrees_on}
use Rattle.script_syntax.proofs.cursor.Cursor.unnamed.Goals as goal

pub returns-in-Ok-clause-answer : goal.returns-in-Ok-clause-answer
returns-in-Ok-clause-answer c =
    agrees_on tree_of (res_map (λ x. compared_shape (lead_shape x.left) x.right) (unnamed.parse c.args.self.now)) (res_map (compared_shape (signed_of c.in-Ok.first)) (compared.parse c.lead.new.self)) c.compared.result c.args.self.now c.lead.new.self c.compared.new.self
    (seq_read lead_shape (λ s b. compared_shape s b) (length c.args.self.now) compared.parse ((either (is kind.Minus) (both (sign kind.Minus) part) scaled).parse c.args.self.now) (signed_of c.in-Ok.first) c.lead.new.self c.in-Ok.ensures.answer)
    c.in-Ok.ensures.onward c.compared.ensures.onward c.compared.ensures.answer
