use Rattle.std.proofs.Common.{◌≡◌, ap, sym, subst}
use Rattle.lash_model.specs.Tables.{Table, IsTable, letters}
use Rattle.lash_model.specs.Standing.{StandsForWhole, StandsForMixed}
use Rattle.lash_model.specs.Sets.{set_of}
use Rattle.canonical_laws.specs.Canonical.{IsCanonical}
use Rattle.part_laws.specs.Graphs.{IsWeak}
use Rattle.part_laws.specs.CanonicalMixed.{fraction_graph}
use Rattle.part_laws.specs.Opposites.{opposite, AcceptOtherLassos}
use Rattle.part_laws.proofs.Opposites.{opposite_weak, opposite_accepts}
use Rattle.step_tables.specs.Kept.{Kept}
use Rattle.product_ops.specs.Negation.{negated, AcceptsOthers}
use Rattle.product_ops.proofs.Exchanging.{accepts_others, others_stand, others_stand_mixed, negated_canonical}
use Rattle.product_ops.proofs.negation.complement.Goals as goal

pub returns-then-fracs-eq0-clause-canonical : goal.returns-then-fracs-eq0-clause-canonical
returns-then-fracs-eq0-clause-canonical g c = λ h.
    let is : c.exchange_outputs.new.table.table ≡ negated c.args.table.now.table = ap (λ (k : Kept). k.table) c.exchange_outputs.ensures.changed in
    subst (λ u. IsCanonical u) (sym is) (negated_canonical c.args.table.now.table (subst (λ u. IsTable u) is c.exchange_outputs.ensures.table) h)

pub returns-then-fracs-eq0-clause-words : goal.returns-then-fracs-eq0-clause-words
returns-then-fracs-eq0-clause-words g c = λ d.
    let is : c.exchange_outputs.new.table.table ≡ negated c.args.table.now.table = ap (λ (k : Kept). k.table) c.exchange_outputs.ensures.changed in
    subst (λ u. AcceptsOthers c.args.table.now.table u) (sym is) (accepts_others c.args.table.now.table c.exchange_outputs.ensures.old_table d)

pub returns-then-fracs-eq0-clause-stands : goal.returns-then-fracs-eq0-clause-stands
returns-then-fracs-eq0-clause-stands g c = λ f s h.
    let is : c.exchange_outputs.new.table.table ≡ negated c.args.table.now.table = ap (λ (k : Kept). k.table) c.exchange_outputs.ensures.changed in
    subst (λ u. StandsForWhole u (λ ns d. set_of f s ns d → ⊥)) (sym is) (others_stand c.args.table.now.table c.exchange_outputs.ensures.old_table (set_of f s) h)

pub returns-else-fracs-eq0-clause-weak : goal.returns-else-fracs-eq0-clause-weak
returns-else-fracs-eq0-clause-weak g c = λ some weak.
    let is : c.exchange_colours.new.table.table ≡ opposite c.args.table.now.table = ap (λ (k : Kept). k.table) c.exchange_colours.ensures.changed in
    subst (λ (u : Table). IsWeak (letters u) (fraction_graph u)) (sym is) (opposite_weak c.args.table.now.table weak)

pub returns-else-fracs-eq0-clause-lassos : goal.returns-else-fracs-eq0-clause-lassos
returns-else-fracs-eq0-clause-lassos g c = λ some.
    let is : c.exchange_colours.new.table.table ≡ opposite c.args.table.now.table = ap (λ (k : Kept). k.table) c.exchange_colours.ensures.changed in
    subst (λ u. AcceptOtherLassos c.args.table.now.table u) (sym is) (opposite_accepts c.args.table.now.table c.exchange_colours.ensures.old_table some)

pub returns-else-fracs-eq0-clause-stands_mixed : goal.returns-else-fracs-eq0-clause-stands_mixed
returns-else-fracs-eq0-clause-stands_mixed g c = λ f s h.
    let is : c.exchange_colours.new.table.table ≡ opposite c.args.table.now.table = ap (λ (k : Kept). k.table) c.exchange_colours.ensures.changed in
    subst (λ u. StandsForMixed u (λ ns d. set_of f s ns d → ⊥)) (sym is) (others_stand_mixed c.args.table.now.table c.exchange_colours.ensures.old_table (set_of f s) h)
