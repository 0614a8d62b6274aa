-- The least pair leads to the first state whose output is not dead, and the least stem and cycle follow from there.
use Rattle.std.proofs.Common.{◌<◌, ◌∙◌, sym, subst}
use Rattle.std.specs.Prelude.{IfNone, IfSome}
use Rattle.graph_laws.specs.Walks.{go}
use Rattle.lash_model.specs.Tables.{letters, fracs}
use Rattle.solution_pick.specs.FractionSolutions.{LeadsNowhere, IsLeastStem, IsLeastCycle, IsFixedSolution}
use Rattle.solution_pick.specs.declared.stems.Ending.{Ending}
use Rattle.solution_pick.proofs.FixedSolutions.{fixed, same_words, live_leads, none_accepted}
use Rattle.solution_pick.proofs.fractions.fraction_solution.Goals as goal

pub returns-in-None-clause-none : goal.returns-in-None-clause-none
returns-in-None-clause-none c = none_accepted c.args.table.now.table c.requires.table c.in-None.ensures.none

pub unreachable-requires : goal.unreachable-requires
unreachable-requires c =
    let table = c.args.table.now.table in
    let none : LeadsNowhere table c.fraction_out.result =
    subst (λ found. IfNone found (LeadsNowhere table c.fraction_out.result)) c.in-None-found.is c.in-Ok-least_ending.ensures.none in
    live_leads table c.requires c.in-Some.state (subst (λ q. q < fracs table) c.fraction_out.ensures.value c.fraction_out.ensures.below)
    c.in-Some.ensures.some (subst (LeadsNowhere table) c.fraction_out.ensures.value none)

pub returns-in-Ok-lasso-clause-fixed : goal.returns-in-Ok-lasso-clause-fixed
returns-in-Ok-lasso-clause-fixed c =
    let table = c.args.table.now.table in
    let trail = c.in-Ok.trail in
    let ending = c.in-Some-found.ending in
    let stem : IsLeastStem table c.fraction_out.result ending.stem.items =
    subst (λ found. IfSome found (λ (e : Ending). IsLeastStem table c.fraction_out.result e.stem.items)) c.in-Some-found.is
    c.in-Ok-least_ending.ensures.stem in
    let cycle : IsLeastCycle table (go table.frac_rows (letters table) c.fraction_out.result ending.stem.items) ending.cycle.items =
    subst (λ found. IfSome found (λ (e : Ending).
    IsLeastCycle table (go table.frac_rows (letters table) c.fraction_out.result e.stem.items) e.cycle.items)) c.in-Some-found.is
    c.in-Ok-least_ending.ensures.cycle in
    subst (IsFixedSolution table)
    (sym (c.in-Ok-lasso.ensures ∙ same_words trail.start c.as_slice.result.now c.as_slice-2.result.now c.as_slice-3.result.now
    trail.letters.items ending.stem.items ending.cycle.items c.as_slice.ensures.value c.as_slice-2.ensures.value c.as_slice-3.ensures.value))
    (fixed table c.requires c.in-Some.state trail.start trail.letters.items ending.stem.items ending.cycle.items c.in-Some.ensures.some c.in-Ok.ensures
    (subst (λ q. IsLeastStem table q ending.stem.items) c.fraction_out.ensures.value stem)
    (subst (λ q. IsLeastCycle table (go table.frac_rows (letters table) q ending.stem.items) ending.cycle.items) c.fraction_out.ensures.value cycle))
