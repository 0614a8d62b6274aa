-- Each turn of the loop cuts off one token and the blanks behind it.
use Rattle.std.proofs.Common.{◌≡◌, ℕ, ◌+◌, ◌-◌, ◌<◌, ◌≤◌, length, drop, map, false, get_or, arith, ap, sym, ◌∙◌}
use Rattle.std.proofs.lemmas.List.{length-drop, length-take}
use Rattle.script_tokens.specs.Lexing.{tokens_of, lexeme, blank_length}
use Rattle.script_tokens.proofs.Cutting.{reads_start, reads_bad, reads_more, tail_slice}
use Rattle.script_tokens.proofs.token.tokens.Goals as goal

pub loop-at-init : goal.loop-at-init
loop-at-init c = (length c.args.bytes.now, c.blanks-at.ensures.within, omega arith, reads_start c.args.place c.blanks-at.result c.args.bytes.now c.new-placed.result.items c.blanks-at.ensures.count c.new-placed.ensures.items)

pub returns-then-is_bad : goal.returns-then-is_bad
returns-then-is_bad c =
    let i = c.loop-at.invariant in
    let token = c.first_lexeme-found.ensures.token ∙ ap (λ us. lexeme (get_or c.args.bytes.now c.loop-at.at 0) (drop 1 us)) (tail_slice c.args.bytes.now c.loop-at.at) in
    reads_bad (tokens_of c.args.place c.args.bytes.now) i.0 c.args.place c.loop-at.at c.args.bytes.now c.loop-at.placed.items c.push.new.self.items c.first_lexeme-found.result i.3 c.loop-at-test.true token c.in-Ok.ensures.items (sym c.is_bad.ensures ∙ c.if-is_bad.true)

pub loop-at-preserved : goal.loop-at-preserved
loop-at-preserved c =
    let i = c.loop-at.invariant in
    let x = c.first_lexeme-found.result in
    let token = c.first_lexeme-found.ensures.token ∙ ap (λ us. lexeme (get_or c.args.bytes.now c.loop-at.at 0) (drop 1 us)) (tail_slice c.args.bytes.now c.loop-at.at) in
    let count = c.blanks-at-in-loop-at.ensures.count ∙ ap (blank_length false) (tail_slice c.args.bytes.now (c.loop-at.at + x.size)) in
    let front = ap length (tail_slice c.args.bytes.now c.loop-at.at) in
    let rest = ap length (tail_slice c.args.bytes.now (c.loop-at.at + x.size)) in (
      i.0 - 1,
      omega (arith, c.first_lexeme-found.ensures.within, c.blanks-at-in-loop-at.ensures.within, front, rest, length-drop c.loop-at.at c.args.bytes.now, length-drop (c.loop-at.at + x.size) c.args.bytes.now, c.loop-at-test.true),
      omega (arith, c.first_lexeme-found.ensures.some, i.2),
      reads_more (tokens_of c.args.place c.args.bytes.now) i.0 c.args.place c.loop-at.at c.blanks-at-in-loop-at.result c.args.bytes.now c.loop-at.placed.items c.push.new.self.items x i.3 c.loop-at-test.true (omega (arith, i.2, c.loop-at-test.true)) token c.in-Ok.ensures.items (sym c.is_bad.ensures ∙ c.if-is_bad.false) count,
    )
