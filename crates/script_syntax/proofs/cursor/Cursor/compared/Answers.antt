-- The parts behind the first, and then the relation and the right side.
use Rattle.std.proofs.Common.{◌∙◌, ap, sym, [], ◌∷◌, ◌++◌, length, map}
use Rattle.parser_laws.specs.Parsing.{both, res_map}
use Rattle.script_grammar.specs.Views.{relation}
use Rattle.script_grammar.specs.Terms.{tail, term, compared}
use Rattle.script_syntax.specs.Reading.{folded}
use Rattle.script_syntax.specs.Trees.{signed_of, tree_of, add_part, parts_read, related_shape, compared_shape}
use Rattle.script_syntax.proofs.Sequences.{seq_read, agrees_on}
use Rattle.script_syntax.proofs.cursor.Cursor.compared.Goals as goal

pub returns-in-Ok-more_parts-clause-answer : goal.returns-in-Ok-more_parts-clause-answer
returns-in-Ok-more_parts-clause-answer c =
    let one = ap (map signed_of) (c.in-Ok.ensures.items ∙ ap (λ ps. ps ++ c.args.first ∷ []) c.new-parts.ensures.items) in
    agrees_on tree_of (res_map (compared_shape (signed_of c.args.first)) (compared.parse c.args.self.now)) (res_map (related_shape (map signed_of c.in-Ok-more_parts.parts.items)) ((both relation term).parse c.more_parts.new.self)) c.related.result c.args.self.now c.more_parts.new.self c.related.new.self
    (seq_read (folded add_part (signed_of c.args.first ∷ [])) (λ t b. related_shape t b) (length c.args.self.now) (both relation term).parse (tail.parse c.args.self.now) (map signed_of c.in-Ok-more_parts.parts.items) c.more_parts.new.self
    (ap (λ s. parts_read (length c.args.self.now) s c.args.self.now) (sym one) ∙ c.in-Ok-more_parts.ensures.answer))
    c.in-Ok-more_parts.ensures.onward c.related.ensures.onward c.related.ensures.answer
