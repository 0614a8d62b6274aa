use Rattle.std.proofs.Common.{arith, sym, ap, ◌∙◌, ◌<◌, length, subst}
use Rattle.std.proofs.lemmas.List.{get_or_read}
use Rattle.std.specs.Prelude.{slice_get}
use Rattle.std.proofs.lemmas.List.{length-map}
use Rattle.script_names.specs.Kept.{set_of}
use Rattle.statement_answers.specs.Keeping.{Library, IsHeld, sets_kept, pair_of}
use Rattle.statement_answers.specs.declared.library.Held.{Held}
use Rattle.statement_answers.proofs.Shelving.{as_many, held_at}
use Rattle.statement_answers.proofs.library.Library.held.Goals as goal

pub index-requires : goal.index-requires
index-requires c = omega (arith, c.requires, ap (λ (l : Library). length (sets_kept l)) c.self.view_is, length-map c.args.self.now.definitions set_of, length-map c.self.inside.defs set_of, as_many _ _ _ c.self.invariant.each, length-map c.self.inside.held.items pair_of)

pub returns : goal.returns
returns c = λ k got.
    let lt : c.args.at < length c.self.inside.held.items = omega (arith, c.requires, ap (λ (l : Library). length (sets_kept l)) c.self.view_is, length-map c.args.self.now.definitions set_of, length-map c.self.inside.defs set_of, as_many _ _ _ c.self.invariant.each, length-map c.self.inside.held.items pair_of) in
    subst (λ (l : Library). IsHeld l.settings k c.index.result.now.header c.index.result.now.canon.table) c.self.view_is
    (subst (λ (x : Held). IsHeld c.self.inside.settings k x.header x.canon.table) (sym (get_or_read c.self.inside.held.items c.args.at c.index.result.now lt c.index.ensures c.index.result.now))
    (held_at c.self.inside.settings _ c.self.inside.held.items c.args.at c.index.result.now k c.self.invariant.each (ap (λ (l : Library). slice_get (sets_kept l) c.args.at) c.self.view_is ∙ got)))
