use Rattle.std.proofs.Common.{arith, ap, ◌∙◌, sym, subst}
use Rattle.step_tables.specs.Kept.{Kept}
use Rattle.formula_core.specs.Shape.{formula_of}
use Rattle.statement_answers.specs.Automata.{cells_of}
use Rattle.statement_answers.specs.Keeping.{Library, IsHeld}
use Rattle.statement_answers.proofs.Shelving.{library_more}
use Rattle.statement_answers.proofs.library.Library.put.Goals as goal

pub invariant_of-self-in-Ok-keep : goal.invariant_of-self-in-Ok-keep
invariant_of-self-in-Ok-keep c = library_more c.self.inside.settings c.self.inside.defs c.keep.new.self c.self.inside.held.items c.push.new.self.items c.args.held c.self.inside.cells c.table_cells.result _ c.self.invariant c.in-Ok-keep.ensures.kept c.in-Ok.ensures.items (subst (λ (l : Library). IsHeld l.settings (record { name = c.args.name; vars = c.args.vars; formula = formula_of c.args.formula }) c.args.held.header c.args.held.canon.table) (sym c.self.view_is) c.requires.held) (c.table_cells.ensures.cells ∙ ap (λ (t : Kept). cells_of t.table) c.table.ensures.value) (omega (arith, c.if-cells-gt-KEPT_CELLS_LIMIT.false))
