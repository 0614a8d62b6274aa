-- A term, and the terms behind it.
use Rattle.std.proofs.Common.{◌-◌, [], ◌∷◌, ◌++◌, length, map, ap, ◌∙◌, sym}
use Rattle.parser_laws.specs.Parsing.{both, items, res_map, shift}
use Rattle.script_tokens.specs.declared.kind.Kind.TheVariants as kind
use Rattle.script_grammar.specs.Views.{is, sign}
use Rattle.script_grammar.specs.Terms.{declaration, declarations}
use Rattle.script_syntax.specs.Reading.{folded, cause}
use Rattle.script_syntax.specs.Trees.{declaration_shape, declarations_shape, declarations_read, add_declaration, declaration_of}
use Rattle.script_syntax.proofs.Sequences.{seq_read, seq_halts, agrees_on}
use Rattle.script_syntax.proofs.cursor.Cursor.declarations.Goals as goal

pub returns-in-Err-clause-answer : goal.returns-in-Err-clause-answer
returns-in-Err-clause-answer c = λ m. seq_halts declaration_shape declarations_shape (length c.args.self.now) (items (is kind.Comma) (both (sign kind.Comma) declaration)).parse (declaration.parse c.args.self.now) (cause c.in-Err.stop) (length c.args.self.now - length c.declaration.new.self) (c.in-Err.ensures.answer m)

pub returns-clause-answer : goal.returns-clause-answer
returns-clause-answer c =
    let first = ap (map declaration_of) (c.in-Ok-push.ensures.items ∙ ap (λ ts. ts ++ c.in-Ok.declaration ∷ []) c.new-declarations.ensures.items) in
    agrees_on (λ v. map declaration_of v.items) (res_map declarations_shape (declarations.parse c.args.self.now)) (declarations_read (length c.declaration.new.self) (map declaration_of c.push.new.self.items) c.declaration.new.self) c.more_declarations.result c.args.self.now c.declaration.new.self c.more_declarations.new.self
    (seq_read declaration_shape (λ d l. folded add_declaration (d ∷ []) l) (length c.args.self.now) (items (is kind.Comma) (both (sign kind.Comma) declaration)).parse (declaration.parse c.args.self.now) (declaration_of c.in-Ok.declaration) c.declaration.new.self c.in-Ok.ensures.answer
    ∙ ap (λ s. shift (length c.args.self.now - length c.declaration.new.self) (declarations_read (length c.declaration.new.self) s c.declaration.new.self)) (sym first))
    c.in-Ok.ensures.onward c.more_declarations.ensures.onward c.more_declarations.ensures.answer
