-- The names of declarations that are seen through their shapes.
use Rattle.std.proofs.Common.{◌≡◌, List, map, length, subst, arith, get_or, sym}
use Rattle.std.specs.List.{All}
use Rattle.std.proofs.lemmas.List.{length-map, get_or-map}
use Rattle.formula_core.specs.Names.{IsVariableName}
use Rattle.script_syntax.specs.Trees.{declaration_of}
use Rattle.script_syntax.specs.declared.tree.Declaration.{Declaration}

-- what holds of the images holds of what they are images of
pub all_of : {X Y : Type 0} (P : Y → Type 0) (f : X → Y) (xs : List X) → All P (map f xs) → All (λ x. P (f x)) xs
all_of P f xs h k d lt = subst P (get_or-map f xs k d (f d) lt) (h k (f d) (omega (arith, lt, length-map xs f)))

pub names_are_fine : (items ds : List Declaration) → ds ≡ items → All (λ d. IsVariableName d.name.left) (map declaration_of items) → All (λ d. IsVariableName (declaration_of d).name.left) ds
names_are_fine items ds is h = subst (λ xs. All (λ d. IsVariableName (declaration_of d).name.left) xs) (sym is) (all_of (λ d. IsVariableName d.name.left) declaration_of items h)
