use Rattle.std.proofs.Common.{◌≤◌, ◌^◌, map, sym, ◌∙◌, subst, arith}
use Rattle.std.proofs.lemmas.List.{length-map}
use Rattle.formula_core.specs.Variables.{sort_of}
use Rattle.set_compile.specs.Compiling.{AreWholeFrom}
use Rattle.set_compile.specs.Kinds.{IsShaped}
use Rattle.set_compile.proofs.Sweeping.{swept_none, swept_more, swept_too_heavy, swept_all}
use Rattle.set_compile.proofs.wholes.with_wholes.Goals as goal

pub loop-place-init : goal.loop-place-init
loop-place-init c = swept_none c.args.build.now (map sort_of c.args.sorts.now) c.args.wide.table
    (subst (λ n. IsShaped c.args.build.now.mode c.args.build.now.base n c.args.wide.table) (sym (length-map c.args.sorts.now sort_of)) c.requires.shape)

pub of_sort-requires-clause-shape : goal.of_sort-requires-clause-shape
of_sort-requires-clause-shape c =
    let s = c.loop-place.invariant.shape in
    subst (λ n. IsShaped c.args.build.now.mode c.args.build.now.base n c.loop-place.made.table) (sym s.tracks_are) s

pub of_sort-requires-clause-place : goal.of_sort-requires-clause-place
of_sort-requires-clause-place c = omega (arith, c.loop-place-test.true, c.loop-place.invariant.shape.tracks_are, length-map c.args.sorts.now sort_of)

pub of_sort-requires-clause-letters : goal.of_sort-requires-clause-letters
of_sort-requires-clause-letters c = subst (λ n. c.args.build.now.base ^ n ≤ 4096) (sym (c.loop-place.invariant.shape.tracks_are ∙ length-map c.args.sorts.now sort_of)) c.requires.letters

pub loop-place-preserved : goal.loop-place-preserved
loop-place-preserved c = swept_more c.args.build.now c.loop-place.place c.args.sorts.now c.args.wide.table c.loop-place.made.table c.in-Ok.next.table c.loop-place-test.true
    c.loop-place.invariant c.in-Ok.ensures.whole c.in-Ok.ensures.same

pub returns-in-Err-clause-heavy : goal.returns-in-Err-clause-heavy
returns-in-Err-clause-heavy c = λ is. swept_too_heavy c.args.build.now c.loop-place.place c.args.sorts.now c.args.wide.table c.loop-place.made.table c.loop-place-test.true
    c.loop-place.invariant c.in-Err.ensures.integer (c.in-Err.ensures.heavy is)

pub returns-clause-made : goal.returns-clause-made
returns-clause-made c = subst (λ n. AreWholeFrom c.args.build.now n 0 (map sort_of c.args.sorts.now) c.args.wide.table c.loop-place.made.table) (length-map c.args.sorts.now sort_of)
    (swept_all c.args.build.now c.loop-place.place (map sort_of c.args.sorts.now) c.args.wide.table c.loop-place.made.table
    (omega (arith, c.loop-place-test.false, length-map c.args.sorts.now sort_of)) c.loop-place.invariant)

pub returns-clause-shape : goal.returns-clause-shape
returns-clause-shape c = subst (λ n. IsShaped c.args.build.now.mode c.args.build.now.base n c.loop-place.made.table) (length-map c.args.sorts.now sort_of) c.loop-place.invariant.shape
