use Rattle.std.proofs.Common.{arith, ◌≡◌, ◌+◌, ◌-◌, ◌^◌, ap, sym, subst}
use Rattle.std.proofs.lemmas.Result.{IfOk-weaker}
use Rattle.subset_build.specs.Closing.{marked_states}
use Rattle.subset_build.specs.Projection.{IsSignReached, IsRisingSet}
use Rattle.subset_build.proofs.KeptLetters.{few_signs}
use Rattle.subset_build.proofs.Closings.{closed}
use Rattle.subset_build.proofs.closure.closed_set.Goals as goal

pub letters_over-requires-clause-few : goal.letters_over-requires-clause-few
letters_over-requires-clause-few g c =
    let t = c.args.table.now.table in
    let all : c.tracks-kept.result - 1 + 1 ≡ t.tracks = omega (arith, c.tracks-kept.ensures, c.requires.track) in
    omega (arith, few_signs t.base t.tracks c.letters-letters.ensures.table.shape.base_low c.letters-letters.ensures.table.shape.few_letters, ap (λ n. c.sign_base.result ^ n) all, ap (λ r. r ^ t.tracks) c.sign_base.ensures)

pub returns-in-Ok-close-clause-closed : goal.returns-in-Ok-close-clause-closed
returns-in-Ok-close-clause-closed g c = IfOk-weaker c.rising.result (λ v. v.items ≡ marked_states c.close.new.marks) (λ v. IsRisingSet (IsSignReached c.args.table.now.table c.args.track c.args.sign) v.items) (λ v e. subst (IsRisingSet (IsSignReached c.args.table.now.table c.args.track c.args.sign)) (sym e) (closed c.args.table.now.table c.args.track c.args.sign c.close.new.marks c.rising.ensures.marking c.in-Ok-close.ensures.closed)) c.rising.ensures.rising
