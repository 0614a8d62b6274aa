-- A term, and the terms behind it.
use Rattle.std.proofs.Common.{◌-◌, [], ◌∷◌, ◌++◌, length, map, ap, ◌∙◌, sym}
use Rattle.parser_laws.specs.Parsing.{both, items, res_map, shift}
use Rattle.script_tokens.specs.declared.kind.Kind.TheVariants as kind
use Rattle.script_grammar.specs.Views.{is, sign}
use Rattle.script_grammar.specs.Terms.{term, terms}
use Rattle.script_syntax.specs.Reading.{folded, cause}
use Rattle.script_syntax.specs.Trees.{term_shape, terms_shape, terms_read, add_term, term_of}
use Rattle.script_syntax.proofs.Sequences.{seq_read, seq_halts, agrees_on}
use Rattle.script_syntax.proofs.cursor.Cursor.terms.Goals as goal

pub returns-in-Err-clause-answer : goal.returns-in-Err-clause-answer
returns-in-Err-clause-answer c = λ m. seq_halts term_shape terms_shape (length c.args.self.now) (items (is kind.Comma) (both (sign kind.Comma) term)).parse (term.parse c.args.self.now) (cause c.in-Err.stop) (length c.args.self.now - length c.term.new.self) (c.in-Err.ensures.answer m)

pub returns-clause-answer : goal.returns-clause-answer
returns-clause-answer c =
    let first = ap (map term_of) (c.in-Ok-push.ensures.items ∙ ap (λ ts. ts ++ c.in-Ok.term ∷ []) c.new-terms.ensures.items) in
    agrees_on (λ v. map term_of v.items) (res_map terms_shape (terms.parse c.args.self.now)) (terms_read (length c.term.new.self) (map term_of c.push.new.self.items) c.term.new.self) c.more_terms.result c.args.self.now c.term.new.self c.more_terms.new.self
    (seq_read term_shape (λ d l. folded add_term (d ∷ []) l) (length c.args.self.now) (items (is kind.Comma) (both (sign kind.Comma) term)).parse (term.parse c.args.self.now) (term_of c.in-Ok.term) c.term.new.self c.in-Ok.ensures.answer
    ∙ ap (λ s. shift (length c.args.self.now - length c.term.new.self) (terms_read (length c.term.new.self) s c.term.new.self)) (sym first))
    c.in-Ok.ensures.onward c.more_terms.ensures.onward c.more_terms.ensures.answer
