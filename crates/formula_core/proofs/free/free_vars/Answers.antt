-- At first nothing is marked, and then the places that the formula uses.
use Rattle.std.proofs.Common.{◌≡◌, ℕ, List, false, length, drop, get_or, sym, ap, ◌∙◌}
use Rattle.std.specs.List.{filter, range_with_len}
use Rattle.std.proofs.lemmas.Result.{IfOk-weaker}
use Rattle.formula_core.specs.Counts.{uses, free_places}
use Rattle.formula_core.specs.Shape.{formula_of}
use Rattle.formula_core.proofs.Marking.{marked_free, whole_buffer}
use Rattle.formula_core.proofs.free.free_vars.Goals as goal

pub returns-clause-places : goal.returns-clause-places
returns-clause-places c =
    let start = c.deref_mut.ensures.value ∙ c.in-Ok.ensures.items_if_clones_equal (λ y e. e) in
    let same = c.deref.ensures.value ∙ whole_buffer c.in-Ok.marks.len c.mark.new.marks (drop (length c.mark.new.marks) c.in-Ok.marks.items) (sym (c.mark.ensures.marks.count ∙ c.deref_mut.ensures.len)) in
    let all = marked_free (λ place. uses place (formula_of c.args.formula.now)) c.args.places c.deref_mut.result.now c.mark.new.marks start c.mark.ensures.marks in
    let P : List ℕ → Type 0 = λ free. free ≡ free_places (formula_of c.args.formula.now) c.args.places in
    let Q : List ℕ → Type 0 = λ free. free ≡ filter (λ place. get_or c.deref.result.now place false) (range_with_len 0 (length c.deref.result.now)) in
    IfOk-weaker c.marked.result (λ v. Q v.items) (λ v. P v.items) (λ v e. e ∙ ap (λ ms. filter (λ place. get_or ms place false) (range_with_len 0 (length ms))) same ∙ all) c.marked.ensures
