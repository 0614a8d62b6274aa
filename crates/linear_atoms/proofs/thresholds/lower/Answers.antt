use Rattle.std.proofs.Common.{rules, ◌≡◌, ◌∙◌, ℕ, ℤ, List, length, ap, sym, subst}
use Rattle.std.specs.Prelude.{All}
use mir.Val.{SFits}
use mir.Syntax.{w128}
use Rattle.threshold_laws.specs.Thresholds.{lowered_by, Among}
use Rattle.linear_atoms.specs.Closing.{entry, IsSmall, Met, IsClosing}
use Rattle.linear_atoms.proofs.Members.{passed}
use Rattle.linear_atoms.proofs.Searching.{closing_more, closing_overfull, small_met}
use Rattle.linear_atoms.proofs.thresholds.lower.Goals as goal

pub returns-in-Ok-clause-closing : goal.returns-in-Ok-clause-closing
returns-in-Ok-clause-closing c = λ seeds closing.
    let fits : SFits w128 c.lowered-bound.result = search rules in
    let is : c.lowered-bound.result ≡ lowered_by c.args.base (entry c.args.totals.now c.args.letter) (entry c.args.found.now.keys c.args.at) = c.lowered-bound.ensures.lowered ∙ ap (λ ks. lowered_by c.args.base (entry c.args.totals.now c.args.letter) (entry ks c.args.at)) c.as_slice.ensures.keys in
    let met : Met c.args.found.now.keys c.lowered-bound.result c.meet.new.found.keys = passed (λ z. Met c.args.found.now.keys z c.meet.new.found.keys) c.lowered-bound.result fits c.in-Ok.ensures.met in
    closing_more c.args.base c.args.totals.now seeds c.args.found.now.keys c.meet.new.found.keys c.args.at c.args.letter closing c.requires.at c.requires.letter (subst IsSmall is c.lowered-bound.ensures.small) (subst (λ z. Met c.args.found.now.keys z c.meet.new.found.keys) is met)

pub returns-in-Ok-clause-small : goal.returns-in-Ok-clause-small
returns-in-Ok-clause-small c =
    let fits : SFits w128 c.lowered-bound.result = search rules in
    small_met c.args.found.now.keys c.meet.new.found.keys c.lowered-bound.result c.requires.small c.lowered-bound.ensures.small (passed (λ z. Met c.args.found.now.keys z c.meet.new.found.keys) c.lowered-bound.result fits c.in-Ok.ensures.met)

pub returns-in-Err-clause-heavy : goal.returns-in-Err-clause-heavy
returns-in-Err-clause-heavy c = λ e seeds closing.
    let fits : SFits w128 c.lowered-bound.result = search rules in
    let is : c.lowered-bound.result ≡ lowered_by c.args.base (entry c.args.totals.now c.args.letter) (entry c.args.found.now.keys c.args.at) = c.lowered-bound.ensures.lowered ∙ ap (λ ks. lowered_by c.args.base (entry c.args.totals.now c.args.letter) (entry ks c.args.at)) c.as_slice.ensures.keys in
    closing_overfull c.args.base c.args.totals.now seeds c.args.found.now.keys c.args.at c.args.letter c.args.room closing c.requires.at c.requires.letter (λ a. passed (λ z. Among z c.args.found.now.keys → ⊥) c.lowered-bound.result fits (c.in-Err.ensures.fresh e) (subst (λ z. Among z c.args.found.now.keys) (sym is) a)) (c.in-Err.ensures.full e)
