-- No truth value is in hand.
use Rattle.std.proofs.Common.{◌∙◌, sym}
use Rattle.parser_laws.specs.Parsing.{either, res_map}
use Rattle.script_grammar.specs.Views.{truth, truth_view, is_name, is_truth}
use Rattle.script_grammar.specs.Terms.{named, unnamed, atom}
use Rattle.script_syntax.specs.Trees.{tree_of, claim_shape, atom_shape}
use Rattle.script_syntax.proofs.InHand.{none_seen}
use Rattle.script_syntax.proofs.Sequences.{left_out, agrees_same}
use Rattle.script_syntax.proofs.cursor.Cursor.atom.Goals as goal

pub returns-in-None-clause-answer : goal.returns-in-None-clause-answer
returns-in-None-clause-answer c =
    agrees_same tree_of (res_map atom_shape (atom.parse c.args.self.now)) (res_map claim_shape ((either is_name named unnamed).parse c.args.self.now)) c.claim.result c.args.self.now c.claim.new.self
    (left_out is_truth truth.parse (either is_name named unnamed).parse atom_shape c.args.self.now (none_seen truth_view c.args.self.now (sym c.truth_in_hand.ensures ∙ c.in-None.is))) c.claim.ensures.answer
