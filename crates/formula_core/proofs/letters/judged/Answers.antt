-- The letters are judged by the number of places; where they are more than 12, there are too many.
use Rattle.std.proofs.Common.{Some, sym, subst}
use Rattle.std.proofs.lemmas.Bool.{iff_false}
use Rattle.formula_core.specs.FewLetters.{AreFew}
use Rattle.formula_core.specs.PlaceSets.{Gathers}
use Rattle.formula_core.proofs.Walking.{judged_some, judged_many, judged_none}
use Rattle.formula_core.proofs.letters.judged.Goals as goal

pub returns-then-are_few : goal.returns-then-are_few
returns-then-are_few c test n g =
    let h : Gathers test n (Some c.in-Some.set) = subst (Gathers test n) c.in-Some.is g in
    judged_some c.args.radix test n c.in-Some.set h (subst (AreFew c.args.radix) c.len.ensures (c.are_few.ensures.0 c.if-are_few.true))

pub returns-else-are_few : goal.returns-else-are_few
returns-else-are_few c test n g =
    let h : Gathers test n (Some c.in-Some.set) = subst (Gathers test n) c.in-Some.is g in
    judged_many c.args.radix test n c.in-Some.set h (λ few. iff_false c.are_few.ensures c.if-are_few.false (subst (AreFew c.args.radix) (sym c.len.ensures) few))

pub returns-in-None : goal.returns-in-None
returns-in-None c test n g = judged_none c.args.radix test n c.requires (subst (Gathers test n) c.in-None.is g)
