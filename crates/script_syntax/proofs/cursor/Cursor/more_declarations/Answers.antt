-- A declaration more at each turn.
use Rattle.std.proofs.Common.{◌-◌, List, [], ◌∷◌, map, ap, ◌∙◌, sym, subst}
use Rattle.std.proofs.lemmas.List.{map-append}
use Rattle.script_tokens.specs.declared.kind.Kind.TheVariants as kind
use Rattle.script_grammar.specs.Views.{place_view}
use Rattle.script_grammar.specs.Terms.{declaration}
use Rattle.script_syntax.specs.Reading.{cause}
use Rattle.script_syntax.specs.Trees.{declaration_shape, join_declaration, declaration_of, DeclarationShape}
use Rattle.script_syntax.proofs.InHand.{sign_in_hand}
use Rattle.script_syntax.proofs.Loops.{Kept, kept_more, kept_ends, kept_halts}
use Rattle.script_syntax.proofs.cursor.Cursor.more_declarations.Goals as goal

pub returns-in-Err-clause-answer : goal.returns-in-Err-clause-answer
returns-in-Err-clause-answer c = λ m.
    let i = c.loop-self.invariant in
    let h = sign_in_hand kind.Comma c.loop-self.self (sym c.is_at.ensures ∙ c.loop-self-test.true) in
    kept_halts (place_view kind.Comma) declaration.parse declaration_shape join_declaration c.args.self.now c.loop-self.self c.step.new.self c.declaration.new.self (map declaration_of c.args.first.items) (map declaration_of c.loop-self.declarations.items) i.0 h.token h.value (cause c.in-Err.stop) i.1 (h.front ∙ ap (λ w. h.token ∷ w) (sym c.step.ensures)) h.viewed (c.in-Err.ensures.answer m) c.in-Err.ensures.onward

pub loop-self-preserved : goal.loop-self-preserved
loop-self-preserved c =
    let i = c.loop-self.invariant in
    let h = sign_in_hand kind.Comma c.loop-self.self (sym c.is_at.ensures ∙ c.loop-self-test.true) in
    let more = kept_more (place_view kind.Comma) declaration.parse declaration_shape join_declaration c.args.self.now c.loop-self.self c.step.new.self c.declaration.new.self (map declaration_of c.args.first.items) (map declaration_of c.loop-self.declarations.items) i.0 h.token h.value (declaration_of c.in-Ok.declaration) i.1 (h.front ∙ ap (λ w. h.token ∷ w) (sym c.step.ensures)) h.viewed c.in-Ok.ensures.answer c.in-Ok.ensures.onward in
    let P : List DeclarationShape → Type 0 = λ s. Kept (place_view kind.Comma) declaration.parse declaration_shape join_declaration c.args.self.now c.declaration.new.self (map declaration_of c.args.first.items) s (i.0 - 1) in
    (i.0 - 1, subst P (sym (map-append declaration_of c.loop-self.declarations.items (c.in-Ok.declaration ∷ [])) ∙ ap (map declaration_of) (sym c.in-Ok-push.ensures.items)) more)

pub returns-clause-answer : goal.returns-clause-answer
returns-clause-answer c =
    let i = c.loop-self.invariant in
    kept_ends (place_view kind.Comma) declaration.parse declaration_shape join_declaration c.args.self.now c.loop-self.self (map declaration_of c.args.first.items) (map declaration_of c.loop-self.declarations.items) i.0 i.1 (sym c.is_at.ensures ∙ c.loop-self-test.false)
