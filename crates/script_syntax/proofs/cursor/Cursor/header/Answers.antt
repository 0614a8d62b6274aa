-- A sign that opens, and the rest.
use Rattle.std.proofs.Common.{length, map}
use Rattle.parser_laws.specs.Parsing.{both, perhaps, res_map}
use Rattle.script_tokens.specs.declared.kind.Kind.TheVariants as kind
use Rattle.script_grammar.specs.Views.{sign, is_name}
use Rattle.script_grammar.specs.Terms.{declarations}
use Rattle.script_grammar.specs.Statements.{header}
use Rattle.script_syntax.specs.Reading.{forgotten}
use Rattle.script_syntax.specs.Trees.{closed_declared, header_shape, declaration_of}
use Rattle.script_syntax.proofs.Sequences.{seq_read, agrees_on}
use Rattle.script_syntax.proofs.cursor.Cursor.header.Goals as goal

pub returns-in-Ok-clause-answer : goal.returns-in-Ok-clause-answer
returns-in-Ok-clause-answer c =
    agrees_on (λ v. map declaration_of v.items) (res_map header_shape (header.parse c.args.self.now)) (res_map closed_declared ((both (perhaps is_name declarations) (sign kind.Close)).parse c.expect.new.self)) c.closed_declarations.result c.args.self.now c.expect.new.self c.closed_declarations.new.self
    (seq_read forgotten (λ u b. closed_declared b) (length c.args.self.now) (both (perhaps is_name declarations) (sign kind.Close)).parse ((sign kind.Open).parse c.args.self.now) c.in-Ok.field-0 c.expect.new.self c.in-Ok.ensures.answer)
    c.in-Ok.ensures.onward c.closed_declarations.ensures.onward c.closed_declarations.ensures.answer
