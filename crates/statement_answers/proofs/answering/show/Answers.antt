use Rattle.std.proofs.Common.{subst, sym}
use Rattle.formula_core.specs.Shape.{formula_of}
use Rattle.canon_text.specs.Heading.{HeadsTable}
use Rattle.canon_text.specs.declared.header.Header.{Header}
use Rattle.statement_answers.proofs.Saying.{answer_heads}
use Rattle.statement_answers.proofs.answering.show.Goals as goal

pub write_text-requires : goal.write_text-requires
write_text-requires g c =
    subst (λ (h : Header). HeadsTable h.base h.vars c.in_ok-canon.canon.table) (sym c.new-header.ensures)
    (answer_heads c.args.settings c.args.vars (formula_of c.args.formula.now) c.in_ok-canon.canon.table c.in_ok-canon.ensures.answer)
