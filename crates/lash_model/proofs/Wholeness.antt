-- Over the denominator 1 every number is whole, so a table that stands for a formula's meaning there stands for its set.
use Rattle.std.proofs.Common.{List, [], ◌∷◌, sym}
use Rattle.std.proofs.Math.IntN.{ℤ}
use Rattle.integer_laws.proofs.Ring.{times_one}
use Rattle.lash_model.specs.Formulas.{Sort, Int, Real, Formula}
use Rattle.lash_model.specs.Meaning.{holds, IsWhole, Solves}
use Rattle.lash_model.specs.Tables.{Table}
use Rattle.lash_model.specs.Standing.{StandsForWhole}

pub whole_over_one : (sorts : List Sort) (ns : List ℤ) → IsWhole sorts ns 1
unfolding IsWhole
whole_over_one [] ns = tt
whole_over_one (Real ∷ sorts) [] = whole_over_one sorts []
whole_over_one (Real ∷ sorts) (x ∷ ns) = whole_over_one sorts ns
whole_over_one (Int ∷ sorts) [] = whole_over_one sorts []
whole_over_one (Int ∷ sorts) (x ∷ ns) = ((x, sym (times_one x)), whole_over_one sorts ns)

pub stands_for_set : (t : Table) (sorts : List Sort) (f : Formula) → StandsForWhole t (holds f) → StandsForWhole t (Solves sorts f)
stands_for_set t sorts f s = record {
  diagram = s.diagram;
  each = λ sign w h ls. (λ a. ((s.each sign w h ls).0 a, whole_over_one sorts _), λ b. (s.each sign w h ls).1 b.0);
}
