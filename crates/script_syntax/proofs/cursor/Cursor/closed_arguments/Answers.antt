-- Arguments, and the sign that closes them.
use Rattle.std.proofs.Common.{List, ◌-◌, length, map}
use Rattle.script_tokens.specs.declared.kind.Kind.TheVariants as kind
use Rattle.script_grammar.specs.Views.{sign}
use Rattle.script_grammar.specs.Terms.{arguments}
use Rattle.script_syntax.specs.Reading.{cause, forgotten}
use Rattle.script_syntax.specs.Trees.{arguments_shape, closed_shape, term_of, SignedShape}
use Rattle.script_syntax.proofs.Sequences.{seq_halts, seq_ok, seq_err, mapped_done, mapped_halt}
use Rattle.script_syntax.proofs.cursor.Cursor.closed_arguments.Goals as goal

pub returns-in-Err-clause-answer : goal.returns-in-Err-clause-answer
returns-in-Err-clause-answer c = λ m. seq_halts arguments_shape closed_shape (length c.args.self.now) (sign kind.Close).parse (arguments.parse c.args.self.now) (cause c.in-Err.stop) (length c.args.self.now - length c.arguments.new.self) (c.in-Err.ensures.answer m)

pub returns-in-Ok-expect-clause-answer : goal.returns-in-Ok-expect-clause-answer
returns-in-Ok-expect-clause-answer c =
    let terms : List (List SignedShape) = map term_of c.in-Ok.terms.items in
    seq_ok arguments_shape (λ ts p. ts) (length c.args.self.now) (sign kind.Close).parse (arguments.parse c.args.self.now) terms c.arguments.new.self terms c.expect.new.self c.in-Ok.ensures.answer
    (mapped_done forgotten (λ u. map term_of c.in-Ok.terms.items) ((sign kind.Close).parse c.arguments.new.self) c.in-Ok-expect.field-0 c.expect.new.self c.in-Ok-expect.ensures.answer)

pub returns-clause-answer : goal.returns-clause-answer
returns-clause-answer c = λ m.
    seq_err arguments_shape (λ ts p. ts) (length c.args.self.now) (sign kind.Close).parse (arguments.parse c.args.self.now) (map term_of c.in-Ok.terms.items) c.arguments.new.self (cause c.in-Err-expect.stop) c.expect.new.self c.in-Ok.ensures.answer c.in-Ok.ensures.onward c.in-Err-expect.ensures.onward
    (mapped_halt forgotten (λ u. map term_of c.in-Ok.terms.items) ((sign kind.Close).parse c.arguments.new.self) (cause c.in-Err-expect.stop) (length c.arguments.new.self - length c.expect.new.self) (c.in-Err-expect.ensures.answer m))
