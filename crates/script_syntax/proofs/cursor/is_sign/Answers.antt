-- Kinds are compared by what they are.
use Rattle.std.proofs.Common.{◌∙◌, ap, sym}
use Rattle.script_tokens.specs.Shape.{token_of}
use Rattle.script_grammar.specs.Views.{is_kind}
use Rattle.script_syntax.proofs.InHand.{kinds_agree}
use Rattle.script_syntax.proofs.cursor.is_sign.Goals as goal

pub returns-in-Sign : goal.returns-in-Sign
returns-in-Sign c = c.eq.ensures ∙ kinds_agree c.in-Sign.held c.args.kind ∙ ap (λ t. is_kind c.args.kind (token_of t)) (sym c.in-Sign.is)
