use Rattle.std.proofs.Common.{subst}
use Rattle.lash_model.specs.Sets.{set_of}
use Rattle.lash_model.proofs.FractionSets.{set_of_fractions}
use Rattle.step_tables.specs.Kept.{Kept}
use Rattle.subset_build.specs.Projection.{kept}
use Rattle.marked_laws.specs.Weakening.{IsTorn, IsWeakForm}
use Rattle.marked_laws.proofs.WeakForms.{form_is_weak}
use Rattle.breakpoint_laws.proofs.ProjectedSets.{some_lasso_stands}
use Rattle.breakpoint_build.proofs.RealForms.{form_completes, base_of, tracks_of, some_fracs}
use Rattle.breakpoint_build.proofs.projection.project_real.Goals as goal

pub returns-in-Ok-weaken-clause-weak : goal.returns-in-Ok-weaken-clause-weak
returns-in-Ok-weaken-clause-weak g c = form_is_weak c.new.result.table c.in-Ok-weaken.form.table c.in-Ok-weaken.ensures.form

pub returns-in-Ok-weaken-clause-lassos : goal.returns-in-Ok-weaken-clause-lassos
returns-in-Ok-weaken-clause-lassos g c = form_completes c.args.table.now.table c.in-Ok.marked.table c.in-Ok-weaken.form.table c.args.track c.args.limit c.letters-letters.ensures.table c.in-Ok.ensures.table
    c.requires.fractions c.in-Ok.ensures.fractions c.requires.track c.requires.weak c.in-Ok.ensures.breakpoints (subst (λ (v : Kept). IsTorn v.table → ⊥) c.new.ensures c.in-Ok-weaken.ensures.not_torn) (subst (λ (v : Kept). IsWeakForm v.table c.in-Ok-weaken.form.table) c.new.ensures c.in-Ok-weaken.ensures.form)

pub returns-in-Ok-weaken-clause-stands : goal.returns-in-Ok-weaken-clause-stands
returns-in-Ok-weaken-clause-stands g c = λ f s keeps. some_lasso_stands c.args.table.now.table c.in-Ok-weaken.form.table c.args.track (set_of f s) c.letters-letters.ensures.table c.requires.track
    (some_fracs c.in-Ok.marked.table c.in-Ok-weaken.form.table c.in-Ok.ensures.fractions (subst (λ (v : Kept). IsWeakForm v.table c.in-Ok-weaken.form.table) c.new.ensures c.in-Ok-weaken.ensures.form))
    (base_of c.in-Ok.marked.table c.in-Ok-weaken.form.table c.args.table.now.table.base c.in-Ok.ensures.breakpoints.base_is (subst (λ (v : Kept). IsWeakForm v.table c.in-Ok-weaken.form.table) c.new.ensures c.in-Ok-weaken.ensures.form))
    (tracks_of c.in-Ok.marked.table c.in-Ok-weaken.form.table (kept c.args.table.now.table) c.in-Ok.ensures.breakpoints.tracks_are (subst (λ (v : Kept). IsWeakForm v.table c.in-Ok-weaken.form.table) c.new.ensures c.in-Ok-weaken.ensures.form))
    (form_completes c.args.table.now.table c.in-Ok.marked.table c.in-Ok-weaken.form.table c.args.track c.args.limit c.letters-letters.ensures.table c.in-Ok.ensures.table
    c.requires.fractions c.in-Ok.ensures.fractions c.requires.track c.requires.weak c.in-Ok.ensures.breakpoints (subst (λ (v : Kept). IsTorn v.table → ⊥) c.new.ensures c.in-Ok-weaken.ensures.not_torn) (subst (λ (v : Kept). IsWeakForm v.table c.in-Ok-weaken.form.table) c.new.ensures c.in-Ok-weaken.ensures.form))
    (set_of_fractions f s keeps)
