use Rattle.std.proofs.Common.{subst, sym}
use Rattle.loop_closure.specs.Filling.{IsListing}
use Rattle.loop_closure.specs.Builders.{stage_places, stage_term}
use Rattle.loop_closure.proofs.ListingTerms.{listing_start, listing_more, listing_all}
use Rattle.loop_closure.proofs.terms.terms.Goals as goal

pub loop-row-preserved : goal.loop-row-preserved
loop-row-preserved c = listing_more (stage_term c.args.builder.now c.args.stage) (stage_places c.args.stage) c.loop-row.row c.loop-row.terms.items c.push.new.self.items c.in-Ok.term c.loop-row.invariant c.in-Ok-push.ensures.items c.in-Ok.ensures.term c.in-Ok.ensures.substitute

pub returns-clause-substitutes : goal.returns-clause-substitutes
returns-clause-substitutes c = listing_all (stage_term c.args.builder.now c.args.stage) (stage_places c.args.stage) c.loop-row.row c.loop-row.terms.items c.loop-row.invariant

pub loop-row-init : goal.loop-row-init
loop-row-init c = subst (IsListing (stage_term c.args.builder.now c.args.stage) (stage_places c.args.stage) 0) (sym c.new-terms.ensures.items) (listing_start (stage_term c.args.builder.now c.args.stage) (stage_places c.args.stage))
