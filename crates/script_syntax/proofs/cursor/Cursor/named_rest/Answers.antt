-- The sign that opens a list of arguments tells a call from a comparison.
use Rattle.std.proofs.Common.{◌-◌, ◌∙◌, sym, false, length, map}
use Rattle.parser_laws.specs.Parsing.{either, res_map}
use Rattle.script_tokens.specs.declared.kind.Kind.TheVariants as kind
use Rattle.script_grammar.specs.Views.{is}
use Rattle.script_grammar.specs.Terms.{called, compared}
use Rattle.script_syntax.specs.Reading.{cause}
use Rattle.script_syntax.specs.Trees.{term_of, named_of, tree_of, called_shape, named_shape, compared_shape, Variable, Call}
use Rattle.script_syntax.proofs.Sequences.{taken, left_out, agrees_same, mapped_done, mapped_halt}
use Rattle.script_syntax.proofs.cursor.Cursor.named_rest.Goals as goal

pub returns-then-not-is_at-clause-answer : goal.returns-then-not-is_at-clause-answer
returns-then-not-is_at-clause-answer c =
    agrees_same tree_of (res_map (named_shape (named_of c.args.name)) ((either (is kind.Open) called compared).parse c.args.self.now)) (res_map (compared_shape (record { minus = false; part = Variable (named_of c.args.name) })) (compared.parse c.args.self.now)) c.compared.result c.args.self.now c.compared.new.self
    (left_out (is kind.Open) called.parse compared.parse (named_shape (named_of c.args.name)) c.args.self.now (sym c.is_at.ensures ∙ c.if-not-is_at.true)) c.compared.ensures.answer

pub returns-in-Ok-clause-answer : goal.returns-in-Ok-clause-answer
returns-in-Ok-clause-answer c =
    taken (is kind.Open) called.parse compared.parse (named_shape (named_of c.args.name)) c.args.self.now (sym c.is_at.ensures ∙ c.if-not-is_at.false)
    ∙ mapped_done called_shape (λ ts. Call (named_of c.args.name) ts) (called.parse c.args.self.now) (map term_of c.in-Ok.terms.items) c.called.new.self c.in-Ok.ensures.answer

pub returns-in-Err-clause-answer : goal.returns-in-Err-clause-answer
returns-in-Err-clause-answer c = λ m.
    taken (is kind.Open) called.parse compared.parse (named_shape (named_of c.args.name)) c.args.self.now (sym c.is_at.ensures ∙ c.if-not-is_at.false)
    ∙ mapped_halt called_shape (λ ts. Call (named_of c.args.name) ts) (called.parse c.args.self.now) (cause c.in-Err.stop) (length c.args.self.now - length c.called.new.self) (c.in-Err.ensures.answer m)
