-- The statements that are given are those of the cut, in order.
use Rattle.std.proofs.Common.{◌≡◌, ℕ, List, ◌∷◌, ◌++◌, length, drop, false, sym, ap, ◌∙◌, append_assoc, Some}
use Rattle.std.proofs.Math.Seq.{take-append_seam, drop-append_seam}
use Rattle.parser_laws.proofs.Parts.{same_some}
use Rattle.script_pieces.specs.Cuts.{cut}
use Rattle.script_pieces.specs.Taking.{Progress}
use Rattle.script_pieces.proofs.Cutting.{stable, cut_first}
use Rattle.script_parse.specs.Answers.{IsNext}
use Rattle.script_names.specs.Kept.{KeptSet}
use Rattle.statement_meaning.specs.declared.statement.Statement.{Statement}

-- the cut of the bytes ahead is the given statement, in front of the cut of those that are ahead then
pub given_in_order : (base : ℕ) (kept : List KeptSet) (before after : Progress) (left_before left_after : List ℕ) (s : Statement) (h : IsNext base kept before after (Some left_before) (Some left_after) s) → cut (before.held ++ left_before) ≡ record { statements = h.text ∷ (cut (after.held ++ left_after)).statements; rest = (cut (after.held ++ left_after)).rest }
given_in_order base kept before after lb la s h =
    let rest = after.held ++ la in
    let is : before.held ++ lb ≡ h.text ++ rest = ap (λ xs. before.held ++ xs) (same_some lb (h.taken.taken ++ la) h.taken.left) ∙ sym (append_assoc before.held h.taken.taken la) ∙ ap (λ xs. xs ++ la) (sym h.taken.held) ∙ append_assoc h.text after.held la in
    ap cut is
    ∙ cut_first (h.text ++ rest) (length h.text) (stable false h.text rest (length h.text) h.whole)
    ∙ ap (λ xs. record { statements = xs ∷ (cut (drop (length h.text) (h.text ++ rest))).statements; rest = (cut (drop (length h.text) (h.text ++ rest))).rest }) (take-append_seam h.text rest)
    ∙ ap (λ xs. record { statements = h.text ∷ (cut xs).statements; rest = (cut xs).rest }) (drop-append_seam h.text rest)
