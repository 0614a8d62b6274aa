-- A part more at each turn.
use Rattle.std.proofs.Common.{◌-◌, List, [], ◌∷◌, ◌++◌, map, ap, ◌∙◌, sym, subst}
use Rattle.std.proofs.lemmas.List.{map-append}
use Rattle.parser_laws.specs.Placed.{placed_view}
use Rattle.script_grammar.specs.Views.{adding_view}
use Rattle.script_grammar.specs.Terms.{part}
use Rattle.script_syntax.specs.Reading.{cause}
use Rattle.script_syntax.specs.Trees.{part_shape, part_of, join_part, signed_of, SignedShape}
use Rattle.script_syntax.proofs.InHand.{sign_held, no_sign_held}
use Rattle.script_syntax.proofs.Loops.{Kept, kept_more, kept_ends, kept_halts}
use Rattle.script_syntax.proofs.cursor.Cursor.more_parts.Goals as goal

pub returns-in-Err-clause-answer : goal.returns-in-Err-clause-answer
returns-in-Err-clause-answer c = λ m.
    let i = c.loop-minus.invariant in
    let h = sign_held c.loop-minus.self c.in-Some.minus (sym c.adding.ensures ∙ c.in-Some.is) in
    kept_halts (placed_view adding_view) part.parse part_shape join_part c.args.self.now c.loop-minus.self c.step.new.self c.part.new.self (map signed_of c.args.first.items) (map signed_of c.loop-minus.parts.items) i.0 h.0.token h.0.value (cause c.in-Err.stop) i.1 (h.0.front ∙ ap (λ w. h.0.token ∷ w) (sym c.step.ensures)) h.0.viewed (c.in-Err.ensures.answer m) c.in-Err.ensures.onward

pub loop-minus-preserved : goal.loop-minus-preserved
loop-minus-preserved c =
    let i = c.loop-minus.invariant in
    let h = sign_held c.loop-minus.self c.in-Some.minus (sym c.adding.ensures ∙ c.in-Some.is) in
    let more = kept_more (placed_view adding_view) part.parse part_shape join_part c.args.self.now c.loop-minus.self c.step.new.self c.part.new.self (map signed_of c.args.first.items) (map signed_of c.loop-minus.parts.items) i.0 h.0.token h.0.value (part_of c.in-Ok.part) i.1 (h.0.front ∙ ap (λ w. h.0.token ∷ w) (sym c.step.ensures)) h.0.viewed c.in-Ok.ensures.answer c.in-Ok.ensures.onward in
    let P : List SignedShape → Type 0 = λ s. Kept (placed_view adding_view) part.parse part_shape join_part c.args.self.now c.part.new.self (map signed_of c.args.first.items) s (i.0 - 1) in
    let pushed = ap (λ m. map signed_of c.loop-minus.parts.items ++ record { minus = m; part = part_of c.in-Ok.part } ∷ []) h.1 ∙ sym (map-append signed_of c.loop-minus.parts.items (record { minus = c.in-Some.minus; part = c.in-Ok.part } ∷ [])) ∙ ap (map signed_of) (sym c.in-Ok-push.ensures.items) in
    (i.0 - 1, subst P pushed more)

pub returns-clause-answer : goal.returns-clause-answer
returns-clause-answer c =
    let i = c.loop-minus.invariant in
    kept_ends (placed_view adding_view) part.parse part_shape join_part c.args.self.now c.loop-minus.self (map signed_of c.args.first.items) (map signed_of c.loop-minus.parts.items) i.0 i.1 (no_sign_held c.loop-minus.self (sym c.adding.ensures ∙ c.in_default.is))
