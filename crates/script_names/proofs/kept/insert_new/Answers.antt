use Rattle.std.proofs.Common.{◌∙◌, nat_eq}
use Rattle.std.specs.Cmp.Lexicographic.{pointwise}
use Rattle.indexmap.proofs.CallerLemmas.{insert_entry-new}
use Rattle.script_names.proofs.Keeping.{not_kept}
use Rattle.script_names.proofs.kept.insert_new.Goals as goal

pub returns-in-Ok-clause-inserted : goal.returns-in-Ok-clause-inserted
returns-in-Ok-clause-inserted c = c.in-Ok.ensures.entries ∙ insert_entry-new (λ a b. pointwise nat_eq a.items b.items) c.args.sets.now c.args.name c.args.definition (not_kept c.args.name.items c.args.sets.now.entries c.requires)
