-- A name in hand tells the two apart.
use Rattle.std.proofs.Common.{◌∙◌, sym}
use Rattle.parser_laws.specs.Parsing.{either, res_map}
use Rattle.script_grammar.specs.Views.{is_name}
use Rattle.script_grammar.specs.Terms.{named, unnamed}
use Rattle.script_syntax.specs.Trees.{tree_of, named_shape, lead_shape, compared_shape, claim_shape}
use Rattle.script_syntax.proofs.Sequences.{taken, left_out, agrees_same}
use Rattle.script_syntax.proofs.cursor.Cursor.claim.Goals as goal

pub returns-then-is_name-clause-answer : goal.returns-then-is_name-clause-answer
returns-then-is_name-clause-answer c =
    agrees_same tree_of (res_map claim_shape ((either is_name named unnamed).parse c.args.self.now)) (res_map (λ x. named_shape x.left x.right) (named.parse c.args.self.now)) c.named.result c.args.self.now c.named.new.self
    (taken is_name named.parse unnamed.parse claim_shape c.args.self.now (sym c.is_name.ensures ∙ c.if-is_name.true)) c.named.ensures.answer

pub returns-else-is_name-clause-answer : goal.returns-else-is_name-clause-answer
returns-else-is_name-clause-answer c =
    agrees_same tree_of (res_map claim_shape ((either is_name named unnamed).parse c.args.self.now)) (res_map (λ x. compared_shape (lead_shape x.left) x.right) (unnamed.parse c.args.self.now)) c.unnamed.result c.args.self.now c.unnamed.new.self
    (left_out is_name named.parse unnamed.parse claim_shape c.args.self.now (sym c.is_name.ensures ∙ c.if-is_name.false)) c.unnamed.ensures.answer
