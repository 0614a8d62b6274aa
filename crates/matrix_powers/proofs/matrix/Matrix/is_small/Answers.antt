use Rattle.std.proofs.Common.{◌≡◌, ◌<◌, ◌≤◌, ◌^◌, length, get_or, pos, unsigned_abs, arith, sym, ap, subst, ◌∙◌}
use Rattle.std.proofs.lemmas.Bool.{le-leb, false≢true}
use Rattle.matrix_powers.specs.Matrices.{Square}
use Rattle.matrix_powers.specs.Products.{IsSmall}
use Rattle.matrix_powers.proofs.Filling.{small_places}
use Rattle.matrix_powers.proofs.matrix.Matrix.is_small.Goals as goal

pub returns-then-not-is_small_entry-clause-great : goal.returns-then-not-is_small_entry-clause-great
returns-then-not-is_small_entry-clause-great c = λ _ small.
    let a : Square = record { side = c.self.inside.side; entries = c.self.inside.entries.items } in
    let is : c.deref-entry-items.result.now ≡ c.self.inside.entries.items = c.deref-entry-items.ensures.value in
    let inside : c.loop-entry.entry-index < length a.entries = omega (arith, c.loop-entry-test.true, ap length is) in
    let here = small_places a c.self.invariant (subst IsSmall (sym c.self.view_is) small) c.loop-entry.entry-index inside in
    let read : unsigned_abs (get_or c.deref-entry-items.result.now c.loop-entry.entry-index (pos 0)) ≤ 2 ^ 40 = subst (λ xs. unsigned_abs (get_or xs c.loop-entry.entry-index (pos 0)) ≤ 2 ^ 40) (sym is) here in
    false≢true (sym c.if-not-is_small_entry.true ∙ c.is_small_entry.ensures ∙ le-leb _ _ read)
