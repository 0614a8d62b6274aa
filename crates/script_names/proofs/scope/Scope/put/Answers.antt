use Rattle.std.proofs.Common.{ap, ◌∙◌, ◌++◌, ◌∷◌, [], map, nat_eq}
use Rattle.std.specs.Cmp.Lexicographic.{pointwise}
use Rattle.std.proofs.lemmas.List.{map-append}
use Rattle.indexmap.proofs.CallerLemmas.{insert_entry-new}
use Rattle.formula_core.specs.Variables.{sort_of}
use Rattle.script_names.specs.Scopes.{place_of}
use Rattle.script_names.proofs.Lists.{entry_of, missing}
use Rattle.script_names.proofs.scope.Scope.put.Goals as goal
use Rattle.script_names.proofs.scope.Scope.put.Goals.{in-Ok, in-Err}

pub returns-clause-put : goal.returns-clause-put
returns-clause-put c = elim c.match-insert.branch [
  | in-Ok w ↦ rw w.result-is (ap (map entry_of) (w.in-Ok.ensures.entries ∙ insert_entry-new (λ a b. pointwise nat_eq a.now b.now) c.self.inside.names c.args.name c.args.sort (missing c.args.name.now c.self.inside.names.entries (ap (λ s. place_of s c.args.name.now) c.self.view_is ∙ c.requires))) ∙ map-append entry_of c.self.inside.names.entries ((c.args.name, c.args.sort) ∷ []) ∙ ap (λ s. s ++ (c.args.name.now, sort_of c.args.sort) ∷ []) c.self.view_is)
  | in-Err w ↦ rw w.result-is tt
]
