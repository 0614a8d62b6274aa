use Rattle.std.proofs.Common.{rules, ◌≡◌, ◌∙◌, sym, subst}
use Rattle.lash_model.specs.Sets.{set_of}
use Rattle.lash_model.specs.Standing.{StandsForWhole}
use Rattle.lash_model.proofs.FractionSets.{set_of_fractions}
use Rattle.lash_model.specs.Tables.{ints}
use Rattle.step_tables.specs.Kept.{Kept, plain, zeros}
use Rattle.product_ops.specs.Restriction.{AcceptsWholes}
use Rattle.product_ops.proofs.Copying.{none_filled}
use Rattle.product_ops.proofs.Zeros.{restricted_accepts, restricted_stands}
use Rattle.product_ops.proofs.restriction.restrict_to_ints.Goals as goal

pub copy_roots-requires : goal.copy_roots-requires
copy_roots-requires g c =
    let blank : c.in_ok-whole.whole ≡ plain (zeros c.args.table.now.table.base c.args.table.now.table.tracks (ints c.args.table.now.table) 0) = search rules in
    record { start = blank ∙ none_filled c.args.table.now.table c.letters-letters.ensures.table }

pub returns-clause-words : goal.returns-clause-words
returns-clause-words g c = subst (λ (k : Kept). AcceptsWholes c.args.table.now.table k.table) (sym c.fill_outs.ensures.restricted) (restricted_accepts c.args.table.now.table c.letters-letters.ensures.table)

pub returns-clause-stands : goal.returns-clause-stands
returns-clause-stands g c = λ f s keeps stands. subst (λ (k : Kept). StandsForWhole k.table (set_of f s)) (sym c.fill_outs.ensures.restricted)
    (restricted_stands c.args.table.now.table c.letters-letters.ensures.table (set_of f s) (set_of_fractions f s keeps) stands)
