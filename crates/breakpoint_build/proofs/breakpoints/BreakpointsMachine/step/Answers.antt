use Rattle.std.proofs.Common.{◌≡◌, sym, subst, true}
use Rattle.std.proofs.lemmas.Result.{on_ok_weaker}
use Rattle.lash_model.specs.Tables.{fracs}
use Rattle.breakpoint_laws.specs.Breakpoints.{is_key}
use Rattle.breakpoint_laws.proofs.ProperKeys.{step_proper}
use Rattle.breakpoint_build.proofs.breakpoints.BreakpointsMachine.step.Goals as goal

pub returns-clause-proper : goal.returns-clause-proper
returns-clause-proper g c = on_ok_weaker c.write_step.result (λ e. subst (λ k. is_key (fracs c.args.self.now.table) k ≡ true) (sym e)
    (step_proper c.args.self.now.table c.args.self.now.track c.args.letter c.as_slice.result.now)) c.write_step.ensures.key
