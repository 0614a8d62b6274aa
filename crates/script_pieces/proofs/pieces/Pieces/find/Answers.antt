use Rattle.std.proofs.Common.{◌≡◌, ◌-◌, ℕ, List, length, drop, take, ap, ◌∙◌, arith}
use Rattle.std.proofs.lemmas.List.{take_rest}
use Rattle.script_pieces.specs.Windows.{items}
use Rattle.script_pieces.proofs.Passing.{WentOn, kept_on, found_on, none_on}
use Rattle.script_pieces.proofs.pieces.Pieces.find.Goals as goal
use Rattle.script_pieces.proofs.pieces.Pieces.find.Goals.{then-passed-len, else-passed-len}

abbrev rest_of : List ℕ → ℕ → List ℕ
rest_of held i = take (length held - i) (drop i held)

pub invariant_of-self : goal.invariant_of-self
invariant_of-self c =
    let p = c.self.inside in
    let held = c.held-held.result.now in
    let found = c.pass_over-found.result in
    let went : WentOn p.given (items p.window) p.scanned found.passed p.in_comment found.in_comment (rest_of held p.scanned) = record {
      rest_is = take_rest held p.scanned ∙ ap (drop p.scanned) c.held-held.ensures.value;
      kept = c.self.invariant;
      within = c.pass_over-found.ensures.within;
      passed = c.pass_over-found.ensures.passed;
      ended = c.pass_over-found.ensures.end;
    } in
    kept_on p.given (items p.window) p.scanned found.passed p.in_comment found.in_comment (rest_of held p.scanned) went

pub returns-clause-length : goal.returns-clause-length
returns-clause-length c =
    let p = c.self.inside in
    let held = c.held-held.result.now in
    let found = c.pass_over-found.result in
    let size : length held ≡ length (items p.window) = ap length c.held-held.ensures.value in
    let went : WentOn p.given (items p.window) p.scanned found.passed p.in_comment found.in_comment (rest_of held p.scanned) = record {
      rest_is = take_rest held p.scanned ∙ ap (drop p.scanned) c.held-held.ensures.value;
      kept = c.self.invariant;
      within = c.pass_over-found.ensures.within;
      passed = c.pass_over-found.ensures.passed;
      ended = c.pass_over-found.ensures.end;
    } in
    elim c.if-passed-len.branch [
      | then-passed-len w ↦ w.result-is ∙ found_on p.given (items p.window) p.scanned found.passed p.in_comment found.in_comment (rest_of held p.scanned) went (omega arith)
      | else-passed-len w ↦ w.result-is ∙ none_on p.given (items p.window) p.scanned found.passed p.in_comment found.in_comment (rest_of held p.scanned) went (omega arith)
    ]
