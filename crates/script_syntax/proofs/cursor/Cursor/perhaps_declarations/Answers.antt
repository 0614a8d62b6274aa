use Rattle.std.proofs.Common.{map, ◌∙◌, sym}
use Rattle.parser_laws.specs.Parsing.{res_map, none, perhaps}
use Rattle.script_grammar.specs.Terms.{declarations}
use Rattle.script_grammar.specs.Views.{is_name}
use Rattle.script_syntax.specs.Trees.{declarations_shape, perhaps_declared, declaration_of}
use Rattle.script_syntax.proofs.Sequences.{taken, agrees_same}
use Rattle.script_syntax.proofs.cursor.Cursor.perhaps_declarations.Goals as goal

pub returns-then-is_name-clause-answer : goal.returns-then-is_name-clause-answer
returns-then-is_name-clause-answer c = agrees_same (λ v. map declaration_of v.items) (res_map perhaps_declared ((perhaps is_name declarations).parse c.args.self.now)) (res_map declarations_shape (declarations.parse c.args.self.now)) c.declarations.result c.args.self.now c.declarations.new.self (taken is_name declarations.parse none perhaps_declared c.args.self.now (sym c.is_name.ensures ∙ c.if-is_name.true)) c.declarations.ensures.answer
