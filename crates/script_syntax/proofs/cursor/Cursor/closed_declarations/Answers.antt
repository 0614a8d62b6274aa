-- Declarations, and the sign that closes them.
use Rattle.std.proofs.Common.{List, ◌-◌, length, map}
use Rattle.parser_laws.specs.Parsing.{perhaps}
use Rattle.script_tokens.specs.declared.kind.Kind.TheVariants as kind
use Rattle.script_grammar.specs.Views.{sign, is_name}
use Rattle.script_grammar.specs.Terms.{declarations}
use Rattle.script_syntax.specs.Reading.{cause, forgotten}
use Rattle.script_syntax.specs.Trees.{perhaps_declared, closed_declared, declaration_of, DeclarationShape}
use Rattle.script_syntax.proofs.Sequences.{seq_halts, seq_ok, seq_err, mapped_done, mapped_halt}
use Rattle.script_syntax.proofs.cursor.Cursor.closed_declarations.Goals as goal

pub returns-in-Err-clause-answer : goal.returns-in-Err-clause-answer
returns-in-Err-clause-answer c = λ m. seq_halts perhaps_declared closed_declared (length c.args.self.now) (sign kind.Close).parse ((perhaps is_name declarations).parse c.args.self.now) (cause c.in-Err.stop) (length c.args.self.now - length c.perhaps_declarations.new.self) (c.in-Err.ensures.answer m)

pub returns-in-Ok-expect-clause-answer : goal.returns-in-Ok-expect-clause-answer
returns-in-Ok-expect-clause-answer c =
    let terms : List DeclarationShape = map declaration_of c.in-Ok.declarations.items in
    seq_ok perhaps_declared (λ ts p. ts) (length c.args.self.now) (sign kind.Close).parse ((perhaps is_name declarations).parse c.args.self.now) terms c.perhaps_declarations.new.self terms c.expect.new.self c.in-Ok.ensures.answer
    (mapped_done forgotten (λ u. map declaration_of c.in-Ok.declarations.items) ((sign kind.Close).parse c.perhaps_declarations.new.self) c.in-Ok-expect.field-0 c.expect.new.self c.in-Ok-expect.ensures.answer)

pub returns-clause-answer : goal.returns-clause-answer
returns-clause-answer c = λ m.
    seq_err perhaps_declared (λ ts p. ts) (length c.args.self.now) (sign kind.Close).parse ((perhaps is_name declarations).parse c.args.self.now) (map declaration_of c.in-Ok.declarations.items) c.perhaps_declarations.new.self (cause c.in-Err-expect.stop) c.expect.new.self c.in-Ok.ensures.answer c.in-Ok.ensures.onward c.in-Err-expect.ensures.onward
    (mapped_halt forgotten (λ u. map declaration_of c.in-Ok.declarations.items) ((sign kind.Close).parse c.perhaps_declarations.new.self) (cause c.in-Err-expect.stop) (length c.perhaps_declarations.new.self - length c.expect.new.self) (c.in-Err-expect.ensures.answer m))
