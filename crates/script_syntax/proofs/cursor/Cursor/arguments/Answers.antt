use Rattle.std.proofs.Common.{map, ◌∙◌, sym}
use Rattle.parser_laws.specs.Parsing.{res_map, none}
use Rattle.script_grammar.specs.Terms.{terms, arguments, starts_term}
use Rattle.script_syntax.specs.Trees.{terms_shape, arguments_shape, term_of}
use Rattle.script_syntax.proofs.Sequences.{taken, agrees_same}
use Rattle.script_syntax.proofs.cursor.Cursor.arguments.Goals as goal

pub returns-then-starts_term-clause-answer : goal.returns-then-starts_term-clause-answer
returns-then-starts_term-clause-answer c = agrees_same (λ v. map term_of v.items) (res_map arguments_shape (arguments.parse c.args.self.now)) (res_map terms_shape (terms.parse c.args.self.now)) c.terms.result c.args.self.now c.terms.new.self (taken starts_term terms.parse none arguments_shape c.args.self.now (sym c.starts_term.ensures ∙ c.if-starts_term.true)) c.terms.ensures.answer
