-- The first letter, then the others.
use Rattle.std.proofs.Common.{◌≡◌, ◌∷◌, sym, ◌∙◌, subst, List, ℕ}
use Rattle.canon_text.proofs.Steps.{go_on, cut}
use Rattle.lash_io.specs.Blocks.{Passes}
use Rattle.lash_command.specs.Lines.{word_text}
use Rattle.lash_command.proofs.lines.put_word.Goals as goal

pub returns-in_err-put_number-in-Some-clause-bytes : goal.returns-in_err-put_number-in-Some-clause-bytes
returns-in_err-put_number-in-Some-clause-bytes g c =
    let is : c.args.word.now ≡ c.in-Some.first.now ∷ c.in-Some.others.now = sym c.letters.ensures ∙ c.in-Some.ensures.cases.0 in
    subst (λ (w : List ℕ). Passes (g.E.Sink.held c.args.sink.now) c.args.block.now (g.E.Sink.held c.put_number.new.sink) c.put_number.new.self c.from_residual.result (word_text w)) (sym is)
    (cut c.from_residual.result c.from_residual.ensures.0 _ _ _ _ _ _ c.in_err-put_number-in-Some.ensures.bytes)

pub returns-in_ok-put_number-in-Some-clause-bytes : goal.returns-in_ok-put_number-in-Some-clause-bytes
returns-in_ok-put_number-in-Some-clause-bytes g c =
    let is : c.args.word.now ≡ c.in-Some.first.now ∷ c.in-Some.others.now = sym c.letters.ensures ∙ c.in-Some.ensures.cases.0 in
    subst (λ (w : List ℕ). Passes (g.E.Sink.held c.args.sink.now) c.args.block.now (g.E.Sink.held c.put_letters.new.sink) c.put_letters.new.block c.put_letters.result (word_text w)) (sym is)
    (go_on _ _ _ _ c.in_ok-put_number-in-Some.ensures.bytes c.put_letters.ensures.bytes)
