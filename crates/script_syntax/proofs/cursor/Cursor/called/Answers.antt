-- A sign that opens, and the rest.
use Rattle.std.proofs.Common.{length, map}
use Rattle.parser_laws.specs.Parsing.{both, res_map}
use Rattle.script_tokens.specs.declared.kind.Kind.TheVariants as kind
use Rattle.script_grammar.specs.Views.{sign}
use Rattle.script_grammar.specs.Terms.{arguments, called}
use Rattle.script_syntax.specs.Reading.{forgotten}
use Rattle.script_syntax.specs.Trees.{closed_shape, called_shape, term_of}
use Rattle.script_syntax.proofs.Sequences.{seq_read, agrees_on}
use Rattle.script_syntax.proofs.cursor.Cursor.called.Goals as goal

pub returns-in-Ok-clause-answer : goal.returns-in-Ok-clause-answer
returns-in-Ok-clause-answer c =
    agrees_on (λ v. map term_of v.items) (res_map called_shape (called.parse c.args.self.now)) (res_map closed_shape ((both arguments (sign kind.Close)).parse c.expect.new.self)) c.closed_arguments.result c.args.self.now c.expect.new.self c.closed_arguments.new.self
    (seq_read forgotten (λ u b. closed_shape b) (length c.args.self.now) (both arguments (sign kind.Close)).parse ((sign kind.Open).parse c.args.self.now) c.in-Ok.field-0 c.expect.new.self c.in-Ok.ensures.answer)
    c.in-Ok.ensures.onward c.closed_arguments.ensures.onward c.closed_arguments.ensures.answer
