use Rattle.std.proofs.Common.{rules, arith, ◌∙◌}
use Rattle.loop_meaning.proofs.Filling.{is_square, matrix_alike, shift_alike, as_many_constants}
use Rattle.loop_meaning.proofs.bodies.matrix_and_shift.Goals as goal

pub of_rows-requires-clause-some : goal.of_rows-requires-clause-some
of_rows-requires-clause-some c = (is_square c.args.scope.now _ c.in-Ok.terms.items c.in-Ok-entries.entries.items c.len.result c.in-Ok.ensures (search rules) (search rules) c.requires.some c.requires.few).some

pub of_rows-requires-clause-few : goal.of_rows-requires-clause-few
of_rows-requires-clause-few c = (is_square c.args.scope.now _ c.in-Ok.terms.items c.in-Ok-entries.entries.items c.len.result c.in-Ok.ensures (search rules) (search rules) c.requires.some c.requires.few).few

pub of_rows-requires-clause-whole : goal.of_rows-requires-clause-whole
of_rows-requires-clause-whole c = (is_square c.args.scope.now _ c.in-Ok.terms.items c.in-Ok-entries.entries.items c.len.result c.in-Ok.ensures (search rules) (search rules) c.requires.some c.requires.few).whole

pub of_entries-requires-clause-some : goal.of_entries-requires-clause-some
of_entries-requires-clause-some c = omega (arith, c.requires.some, as_many_constants c.args.scope.now _ c.in-Ok.terms.items c.deref-2.result.now c.in-Ok-constants.constants.items c.in-Ok.ensures c.deref-2.ensures.value c.in-Ok-constants.ensures)

pub of_entries-requires-clause-few : goal.of_entries-requires-clause-few
of_entries-requires-clause-few c = omega (arith, c.requires.few, as_many_constants c.args.scope.now _ c.in-Ok.terms.items c.deref-2.result.now c.in-Ok-constants.constants.items c.in-Ok.ensures c.deref-2.ensures.value c.in-Ok-constants.ensures)

pub returns-in-Ok-constants-clause-matrix : goal.returns-in-Ok-constants-clause-matrix
returns-in-Ok-constants-clause-matrix c = c.of_rows.ensures ∙ matrix_alike c.args.scope.now _ c.in-Ok.terms.items c.deref.result.now c.in-Ok-entries.entries.items c.len.result c.in-Ok.ensures c.deref.ensures.value c.in-Ok-entries.ensures (search rules)

pub returns-in-Ok-constants-clause-shift : goal.returns-in-Ok-constants-clause-shift
returns-in-Ok-constants-clause-shift c = c.of_entries.ensures ∙ shift_alike c.args.scope.now _ c.in-Ok.terms.items c.deref-2.result.now c.in-Ok-constants.constants.items c.in-Ok.ensures c.deref-2.ensures.value c.in-Ok-constants.ensures
