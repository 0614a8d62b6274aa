-- The names of the program's declarations.
use Rattle.std.proofs.Common.{◌≡◌, ℕ, ◌<◌, List, length, map, get_or, arith, sym, subst, ap, ◌∙◌}
use Rattle.std.specs.List.{All}
use Rattle.std.proofs.lemmas.List.{length-map, get_or-map}
use Rattle.formula_core.specs.Names.{IsName}
use Rattle.script_syntax.specs.Trees.{DeclarationShape, declaration_of}
use Rattle.script_syntax.specs.declared.tree.Declaration.{Declaration}

pub names_are_names : (items given : List Declaration) → given ≡ items → All (λ d. IsName d.name.left) (map declaration_of items) → All (λ d. IsName (declaration_of d).name.left) given
names_are_names items given same h = subst (λ ds. All (λ d. IsName (declaration_of d).name.left) ds) (sym same) (λ k d lt. subst (λ (x : DeclarationShape). IsName x.name.left) (get_or-map declaration_of items k d (declaration_of d) lt) (h k (declaration_of d) (omega (arith, lt, length-map items declaration_of))))
