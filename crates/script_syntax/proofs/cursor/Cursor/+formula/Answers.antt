-- Each level reads what the grammar says.
use Rattle.std.proofs.Common.{◌-◌, length, map, ap, ◌∙◌, sym, subst, arith, ◌∷◌}
use Rattle.parser_laws.specs.Parsing.{res_map}
use Rattle.script_tokens.specs.declared.kind.Kind.TheVariants as kind
use Rattle.script_grammar.specs.Views.{place_view, quantifier_view}
use Rattle.script_grammar.specs.Terms.{atom}
use Rattle.script_grammar.specs.Formulas.{room, form_lang, iff_lang, imp_lang, or_lang, and_lang, unary_lang}
use Rattle.script_syntax.specs.Reading.{cause}
use Rattle.script_syntax.specs.Trees.{TreeShape, Implies, Equivalent, and_shape, atom_shape, declaration_of, form_shape, iff_shape, imp_shape, or_shape, ands_read, quantifier_of, quantifier_shown, join_and, join_or, tree_of, unary_shape, units_read}
use Rattle.script_syntax.proofs.InHand.{sign_in_hand, none_seen}
use Rattle.script_syntax.proofs.Levels.{and_halts, and_read, or_halts, or_read, pair_halts, pair_alone, pair_both, pair_second_halts, imp_parts, iff_parts, not_read, not_halts, simple_read, group_read, group_halts, group_open, plain_read, quantifier_read, quant_read, quant_uncolon, quant_halts, one_shorter}
use Rattle.script_syntax.proofs.Loops.{Kept, kept_more, kept_ends, kept_halts}
use Rattle.script_syntax.proofs.Sequences.{agrees_on, agrees_same, made}
use Rattle.script_syntax.proofs.cursor.Cursor.+formula.Goals as goal

pub and-returns-in-Ok-clause-answer : goal.and-returns-in-Ok-clause-answer
and-returns-in-Ok-clause-answer t c = agrees_on tree_of (res_map and_shape ((and_lang (room c.args.depth) 0).parse c.args.self.now)) (units_read (room c.args.depth) (length c.unary.new.self) (tree_of c.in-Ok.first) c.unary.new.self) c.more_units.result c.args.self.now c.unary.new.self c.more_units.new.self (and_read (room c.args.depth) c.args.self.now c.unary.new.self (tree_of c.in-Ok.first) c.in-Ok.ensures.answer) c.in-Ok.ensures.onward c.more_units.ensures.onward c.more_units.ensures.answer

pub and-returns-in-Err-clause-answer : goal.and-returns-in-Err-clause-answer
and-returns-in-Err-clause-answer t c = λ m. and_halts (room c.args.depth) c.args.self.now (cause c.in-Err.stop) (length c.args.self.now - length c.unary.new.self) (c.in-Err.ensures.answer m)

pub or-returns-in-Ok-clause-answer : goal.or-returns-in-Ok-clause-answer
or-returns-in-Ok-clause-answer t c = agrees_on tree_of (res_map or_shape ((or_lang (room c.args.depth) 0).parse c.args.self.now)) (ands_read (room c.args.depth) (length c.and.new.self) (tree_of c.in-Ok.first) c.and.new.self) c.more_ands.result c.args.self.now c.and.new.self c.more_ands.new.self (or_read (room c.args.depth) c.args.self.now c.and.new.self (tree_of c.in-Ok.first) c.in-Ok.ensures.answer) c.in-Ok.ensures.onward c.more_ands.ensures.onward c.more_ands.ensures.answer

pub or-returns-in-Err-clause-answer : goal.or-returns-in-Err-clause-answer
or-returns-in-Err-clause-answer t c = λ m. or_halts (room c.args.depth) c.args.self.now (cause c.in-Err.stop) (length c.args.self.now - length c.and.new.self) (c.in-Err.ensures.answer m)

pub formula-returns-in-None-clause-answer : goal.formula-returns-in-None-clause-answer
formula-returns-in-None-clause-answer t c = agrees_same tree_of (res_map form_shape ((form_lang (room c.args.depth) 0).parse c.args.self.now)) (res_map iff_shape ((iff_lang (room c.args.depth) 0).parse c.args.self.now)) c.iff.result c.args.self.now c.iff.new.self (plain_read (room c.args.depth) c.args.self.now (none_seen quantifier_view c.args.self.now (sym c.quantifier_in_hand.ensures ∙ ap quantifier_shown c.in-None.is))) c.iff.ensures.answer

pub formula-returns-in-Err-expect-clause-answer : goal.formula-returns-in-Err-expect-clause-answer
formula-returns-in-Err-expect-clause-answer t c = λ m. quant_uncolon c.args.depth c.args.self.now c.step.new.self c.declarations.new.self c.expect.new.self (quantifier_of c.in-Some.quantifier) (map declaration_of c.in-Ok.declarations.items) (cause c.in-Err-expect.stop) (omega arith) (quantifier_read c.args.self.now c.step.new.self (quantifier_of c.in-Some.quantifier) (sym c.quantifier_in_hand.ensures ∙ ap quantifier_shown c.in-Some.is) c.step.ensures) c.in-Ok.ensures.answer c.in-Ok.ensures.onward c.in-Err-expect.ensures.onward (c.in-Err-expect.ensures.answer m)

pub formula-returns-in-Ok-formula-clause-answer : goal.formula-returns-in-Ok-formula-clause-answer
formula-returns-in-Ok-formula-clause-answer t c = made tree_of (res_map form_shape ((form_lang (room c.args.depth) 0).parse c.args.self.now)) _ c.quantified.result c.args.self.now c.formula.new.self c.quantified.ensures (quant_read c.args.depth c.args.self.now c.step.new.self c.declarations.new.self c.expect.new.self c.formula.new.self (quantifier_of c.in-Some.quantifier) (map declaration_of c.in-Ok.declarations.items) (tree_of c.in-Ok-formula.inner) (omega arith) (quantifier_read c.args.self.now c.step.new.self (quantifier_of c.in-Some.quantifier) (sym c.quantifier_in_hand.ensures ∙ ap quantifier_shown c.in-Some.is) c.step.ensures) c.in-Ok.ensures.answer c.in-Ok-expect.ensures.answer c.in-Ok-formula.ensures.answer)

pub formula-returns-clause-answer : goal.formula-returns-clause-answer
formula-returns-clause-answer t c = λ m. quant_halts c.args.depth c.args.self.now c.step.new.self c.declarations.new.self c.expect.new.self c.formula.new.self (quantifier_of c.in-Some.quantifier) (map declaration_of c.in-Ok.declarations.items) (cause c.in-Err-formula.stop) (omega arith) (quantifier_read c.args.self.now c.step.new.self (quantifier_of c.in-Some.quantifier) (sym c.quantifier_in_hand.ensures ∙ ap quantifier_shown c.in-Some.is) c.step.ensures) c.in-Ok.ensures.answer c.in-Ok.ensures.onward c.in-Ok-expect.ensures.answer c.in-Ok-expect.ensures.onward c.in-Err-formula.ensures.onward (c.in-Err-formula.ensures.answer m)

pub iff-returns-in-Err-clause-answer : goal.iff-returns-in-Err-clause-answer
iff-returns-in-Err-clause-answer t c = λ m. iff_parts (room c.args.depth) c.args.self.now ∙ pair_halts kind.Equivalent (imp_lang (room c.args.depth) 0) imp_shape Equivalent c.args.self.now (cause c.in-Err.stop) (length c.args.self.now - length c.imp.new.self) (c.in-Err.ensures.answer m)

pub iff-returns-then-not-is_at-clause-answer : goal.iff-returns-then-not-is_at-clause-answer
iff-returns-then-not-is_at-clause-answer t c = iff_parts (room c.args.depth) c.args.self.now ∙ pair_alone kind.Equivalent (imp_lang (room c.args.depth) 0) imp_shape Equivalent c.args.self.now c.imp.new.self (tree_of c.in-Ok.left) c.in-Ok.ensures.answer (sym c.is_at.ensures ∙ c.if-not-is_at.true)

pub iff-returns-in-Ok-imp-clause-answer : goal.iff-returns-in-Ok-imp-clause-answer
iff-returns-in-Ok-imp-clause-answer t c = made tree_of (res_map iff_shape ((iff_lang (room c.args.depth) 0).parse c.args.self.now)) _ c.equivalence.result c.args.self.now c.imp-2.new.self c.equivalence.ensures (iff_parts (room c.args.depth) c.args.self.now ∙ pair_both kind.Equivalent (imp_lang (room c.args.depth) 0) imp_shape Equivalent c.args.self.now c.imp.new.self c.step.new.self c.imp-2.new.self (tree_of c.in-Ok.left) (tree_of c.in-Ok-imp.right) c.in-Ok.ensures.answer (sym c.is_at.ensures ∙ c.if-not-is_at.false) c.step.ensures c.in-Ok-imp.ensures.answer)

pub iff-returns-clause-answer : goal.iff-returns-clause-answer
iff-returns-clause-answer t c = λ m. iff_parts (room c.args.depth) c.args.self.now ∙ pair_second_halts kind.Equivalent (imp_lang (room c.args.depth) 0) imp_shape Equivalent c.args.self.now c.imp.new.self c.step.new.self c.imp-2.new.self (tree_of c.in-Ok.left) (cause c.in-Err-imp.stop) c.in-Ok.ensures.answer c.in-Ok.ensures.onward (sym c.is_at.ensures ∙ c.if-not-is_at.false) c.step.ensures c.in-Err-imp.ensures.onward (c.in-Err-imp.ensures.answer m)

pub imp-returns-in-Err-clause-answer : goal.imp-returns-in-Err-clause-answer
imp-returns-in-Err-clause-answer t c = λ m. imp_parts (room c.args.depth) c.args.self.now ∙ pair_halts kind.Implies (or_lang (room c.args.depth) 0) or_shape Implies c.args.self.now (cause c.in-Err.stop) (length c.args.self.now - length c.or.new.self) (c.in-Err.ensures.answer m)

pub imp-returns-then-not-is_at-clause-answer : goal.imp-returns-then-not-is_at-clause-answer
imp-returns-then-not-is_at-clause-answer t c = imp_parts (room c.args.depth) c.args.self.now ∙ pair_alone kind.Implies (or_lang (room c.args.depth) 0) or_shape Implies c.args.self.now c.or.new.self (tree_of c.in-Ok.left) c.in-Ok.ensures.answer (sym c.is_at.ensures ∙ c.if-not-is_at.true)

pub imp-returns-in-Ok-or-clause-answer : goal.imp-returns-in-Ok-or-clause-answer
imp-returns-in-Ok-or-clause-answer t c = made tree_of (res_map imp_shape ((imp_lang (room c.args.depth) 0).parse c.args.self.now)) _ c.implication.result c.args.self.now c.or-2.new.self c.implication.ensures (imp_parts (room c.args.depth) c.args.self.now ∙ pair_both kind.Implies (or_lang (room c.args.depth) 0) or_shape Implies c.args.self.now c.or.new.self c.step.new.self c.or-2.new.self (tree_of c.in-Ok.left) (tree_of c.in-Ok-or.right) c.in-Ok.ensures.answer (sym c.is_at.ensures ∙ c.if-not-is_at.false) c.step.ensures c.in-Ok-or.ensures.answer)

pub imp-returns-clause-answer : goal.imp-returns-clause-answer
imp-returns-clause-answer t c = λ m. imp_parts (room c.args.depth) c.args.self.now ∙ pair_second_halts kind.Implies (or_lang (room c.args.depth) 0) or_shape Implies c.args.self.now c.or.new.self c.step.new.self c.or-2.new.self (tree_of c.in-Ok.left) (cause c.in-Err-or.stop) c.in-Ok.ensures.answer c.in-Ok.ensures.onward (sym c.is_at.ensures ∙ c.if-not-is_at.false) c.step.ensures c.in-Err-or.ensures.onward (c.in-Err-or.ensures.answer m)

pub more_ands-returns-in-Err-clause-answer : goal.more_ands-returns-in-Err-clause-answer
more_ands-returns-in-Err-clause-answer t c = λ m.
    let i = c.loop-alloc.invariant in
    let h = sign_in_hand kind.Or c.loop-alloc.self (sym c.is_at.ensures ∙ c.loop-alloc-test.true) in
    kept_halts (place_view kind.Or) (and_lang (room c.args.depth) 0).parse and_shape join_or c.args.self.now c.loop-alloc.self c.step.new.self c.and.new.self (tree_of c.args.first) (tree_of c.loop-alloc.tree) i.0 h.token h.value (cause c.in-Err.stop) i.1 (h.front ∙ ap (λ w. h.token ∷ w) (sym c.step.ensures)) h.viewed (c.in-Err.ensures.answer m) c.in-Err.ensures.onward

pub more_ands-loop-alloc-preserved : goal.more_ands-loop-alloc-preserved
more_ands-loop-alloc-preserved t c =
    let i = c.loop-alloc.invariant in
    let h = sign_in_hand kind.Or c.loop-alloc.self (sym c.is_at.ensures ∙ c.loop-alloc-test.true) in
    let more = kept_more (place_view kind.Or) (and_lang (room c.args.depth) 0).parse and_shape join_or c.args.self.now c.loop-alloc.self c.step.new.self c.and.new.self (tree_of c.args.first) (tree_of c.loop-alloc.tree) i.0 h.token h.value (tree_of c.in-Ok.next) i.1 (h.front ∙ ap (λ w. h.token ∷ w) (sym c.step.ensures)) h.viewed c.in-Ok.ensures.answer c.in-Ok.ensures.onward in
    let P : TreeShape → Type 0 = λ s. Kept (place_view kind.Or) (and_lang (room c.args.depth) 0).parse and_shape join_or c.args.self.now c.and.new.self (tree_of c.args.first) s (i.0 - 1) in
    (i.0 - 1, subst P (sym c.in-Ok-disjunction.ensures) more)

pub more_ands-returns-clause-answer : goal.more_ands-returns-clause-answer
more_ands-returns-clause-answer t c =
    let i = c.loop-alloc.invariant in
    kept_ends (place_view kind.Or) (and_lang (room c.args.depth) 0).parse and_shape join_or c.args.self.now c.loop-alloc.self (tree_of c.args.first) (tree_of c.loop-alloc.tree) i.0 i.1 (sym c.is_at.ensures ∙ c.loop-alloc-test.false)

pub more_units-returns-in-Err-clause-answer : goal.more_units-returns-in-Err-clause-answer
more_units-returns-in-Err-clause-answer t c = λ m.
    let i = c.loop-alloc.invariant in
    let h = sign_in_hand kind.And c.loop-alloc.self (sym c.is_at.ensures ∙ c.loop-alloc-test.true) in
    kept_halts (place_view kind.And) (unary_lang (room c.args.depth) 0).parse unary_shape join_and c.args.self.now c.loop-alloc.self c.step.new.self c.unary.new.self (tree_of c.args.first) (tree_of c.loop-alloc.tree) i.0 h.token h.value (cause c.in-Err.stop) i.1 (h.front ∙ ap (λ w. h.token ∷ w) (sym c.step.ensures)) h.viewed (c.in-Err.ensures.answer m) c.in-Err.ensures.onward

pub more_units-returns-in-Err-conjunction-clause-onward : goal.more_units-returns-in-Err-conjunction-clause-onward
more_units-returns-in-Err-conjunction-clause-onward t c =
    omega (arith, c.loop-alloc.invariant.1.within, c.in-Ok.ensures.onward, one_shorter kind.And c.loop-alloc.self c.step.new.self (sym c.is_at.ensures ∙ c.loop-alloc-test.true) c.step.ensures)

pub more_units-loop-alloc-smaller : goal.more_units-loop-alloc-smaller
more_units-loop-alloc-smaller t c =
    omega (arith, c.in-Ok.ensures.onward, one_shorter kind.And c.loop-alloc.self c.step.new.self (sym c.is_at.ensures ∙ c.loop-alloc-test.true) c.step.ensures)

pub more_units-loop-alloc-preserved : goal.more_units-loop-alloc-preserved
more_units-loop-alloc-preserved t c =
    let i = c.loop-alloc.invariant in
    let h = sign_in_hand kind.And c.loop-alloc.self (sym c.is_at.ensures ∙ c.loop-alloc-test.true) in
    let more = kept_more (place_view kind.And) (unary_lang (room c.args.depth) 0).parse unary_shape join_and c.args.self.now c.loop-alloc.self c.step.new.self c.unary.new.self (tree_of c.args.first) (tree_of c.loop-alloc.tree) i.0 h.token h.value (tree_of c.in-Ok.next) i.1 (h.front ∙ ap (λ w. h.token ∷ w) (sym c.step.ensures)) h.viewed c.in-Ok.ensures.answer c.in-Ok.ensures.onward in
    let P : TreeShape → Type 0 = λ s. Kept (place_view kind.And) (unary_lang (room c.args.depth) 0).parse unary_shape join_and c.args.self.now c.unary.new.self (tree_of c.args.first) s (i.0 - 1) in
    (i.0 - 1, subst P (sym c.in-Ok-conjunction.ensures) more)

pub more_units-returns-clause-answer : goal.more_units-returns-clause-answer
more_units-returns-clause-answer t c =
    let i = c.loop-alloc.invariant in
    kept_ends (place_view kind.And) (unary_lang (room c.args.depth) 0).parse unary_shape join_and c.args.self.now c.loop-alloc.self (tree_of c.args.first) (tree_of c.loop-alloc.tree) i.0 i.1 (sym c.is_at.ensures ∙ c.loop-alloc-test.false)

pub unary-returns-in-Ok-clause-answer : goal.unary-returns-in-Ok-clause-answer
unary-returns-in-Ok-clause-answer t c = made tree_of (res_map unary_shape ((unary_lang (room c.args.depth) 0).parse c.args.self.now)) _ c.negation.result c.args.self.now c.unary.new.self c.negation.ensures (not_read c.args.depth c.args.self.now c.step.new.self c.unary.new.self (tree_of c.in-Ok.inner) (omega arith) (sym c.is_at.ensures ∙ c.if-is_at.true) c.step.ensures c.in-Ok.ensures.answer)

pub unary-returns-in-Err-clause-answer : goal.unary-returns-in-Err-clause-answer
unary-returns-in-Err-clause-answer t c = λ m. not_halts c.args.depth c.args.self.now c.step.new.self c.unary.new.self (cause c.in-Err.stop) (omega arith) (sym c.is_at.ensures ∙ c.if-is_at.true) c.step.ensures c.in-Err.ensures.onward (c.in-Err.ensures.answer m)

pub unary-returns-then-not-is_at-clause-answer : goal.unary-returns-then-not-is_at-clause-answer
unary-returns-then-not-is_at-clause-answer t c = agrees_same tree_of (res_map unary_shape ((unary_lang (room c.args.depth) 0).parse c.args.self.now)) (res_map atom_shape (atom.parse c.args.self.now)) c.atom.result c.args.self.now c.atom.new.self (simple_read (room c.args.depth) c.args.self.now (sym c.is_at.ensures ∙ c.if-is_at.false) (sym c.is_at-2.ensures ∙ c.if-not-is_at.true)) c.atom.ensures.answer

pub unary-returns-in-Err-formula-clause-answer : goal.unary-returns-in-Err-formula-clause-answer
unary-returns-in-Err-formula-clause-answer t c = λ m. group_halts c.args.depth c.args.self.now c.step-2.new.self c.formula.new.self (cause c.in-Err-formula.stop) (omega arith) (sym c.is_at.ensures ∙ c.if-is_at.false) (sym c.is_at-2.ensures ∙ c.if-not-is_at.false) c.step-2.ensures c.in-Err-formula.ensures.onward (c.in-Err-formula.ensures.answer m)

pub unary-returns-in-Ok-expect-clause-answer : goal.unary-returns-in-Ok-expect-clause-answer
unary-returns-in-Ok-expect-clause-answer t c = group_read c.args.depth c.args.self.now c.step-2.new.self c.formula.new.self c.expect.new.self (tree_of c.in-Ok-formula.inner) (omega arith) (sym c.is_at.ensures ∙ c.if-is_at.false) (sym c.is_at-2.ensures ∙ c.if-not-is_at.false) c.step-2.ensures c.in-Ok-formula.ensures.answer c.in-Ok-expect.ensures.answer

pub unary-returns-in-Ok-expect-clause-onward : goal.unary-returns-in-Ok-expect-clause-onward
unary-returns-in-Ok-expect-clause-onward t c = omega (arith, c.in-Ok-expect.ensures.onward, c.in-Ok-formula.ensures.onward, one_shorter kind.Open c.args.self.now c.step-2.new.self (sym c.is_at-2.ensures ∙ c.if-not-is_at.false) c.step-2.ensures)

pub unary-returns-clause-answer : goal.unary-returns-clause-answer
unary-returns-clause-answer t c = λ m. group_open c.args.depth c.args.self.now c.step-2.new.self c.formula.new.self c.expect.new.self (tree_of c.in-Ok-formula.inner) (cause c.in-Err-expect.stop) (omega arith) (sym c.is_at.ensures ∙ c.if-is_at.false) (sym c.is_at-2.ensures ∙ c.if-not-is_at.false) c.step-2.ensures c.in-Ok-formula.ensures.answer c.in-Ok-formula.ensures.onward c.in-Err-expect.ensures.onward (c.in-Err-expect.ensures.answer m)
