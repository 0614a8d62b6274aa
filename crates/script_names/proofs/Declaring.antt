-- Declarations in their order.
use Rattle.std.proofs.Common.{◌≡◌, ℕ, ◌+◌, ◌≤◌, List, [], ◌∷◌, ◌++◌, length, take, map, arith, refl, ap, ◌∙◌, sym, append_assoc, None}
use Rattle.std.proofs.lemmas.List.{take-append-le, length-append, drop_more}
use Rattle.std.proofs.Common.{get_or, drop, ◌<◌, subst}
use Rattle.script_syntax.specs.declared.tree.Declaration.{Declaration}
use Rattle.script_syntax.specs.Trees.{declaration_of}
use Rattle.lash_model.specs.Formulas.{Sort}
use Rattle.script_syntax.specs.Trees.{DeclarationShape}
use Rattle.script_names.specs.Scopes.{Scope, place_of, variable_of, with_declared}
use Rattle.script_names.specs.Faults.{or_else, repeated, declared_fault}
use Rattle.script_names.specs.Answers.{IsBehind, IsRefused}
use Rattle.script_names.specs.declared.names.NameError.{NameError}
use Rattle.script_names.specs.declared.names.NameError.TheVariants.{Fault, Memory}

-- the scope has the variables in front of the rest
pub record IsDeclaring (before : Scope) (ds : List DeclarationShape) (now : Scope) (rest : List DeclarationShape) : Type 0 where
  pub fault : declared_fault before ds ≡ declared_fault now rest
  pub after : with_declared before ds ≡ with_declared now rest
  pub behind : IsBehind before now

pub begun : (scope : Scope) (ds : List DeclarationShape) → IsDeclaring scope ds scope ds
begun scope ds = record { fault = refl; after = refl; behind = record { count = omega arith; front = whole scope } }
  where
    whole : (xs : Scope) → take (length xs) xs ≡ xs
    whole [] = refl
    whole (x ∷ xs) = ap (λ ys. x ∷ ys) (whole xs)

-- one variable behind those in front
pub one_behind : (before now : Scope) (v : List ℕ × Sort) → IsBehind before now → IsBehind before (now ++ v ∷ [])
one_behind before now v h = record { count = grown; front = take-append-le (length before) now (v ∷ []) h.count ∙ h.front }
  where
    grown : length before ≤ length (now ++ v ∷ [])
    grown = omega (arith, h.count, length-append now (v ∷ []))

pub declared_more : (before : Scope) (ds : List DeclarationShape) (now after : Scope) (d : DeclarationShape) (rest : List DeclarationShape) → IsDeclaring before ds now (d ∷ rest) → repeated d.name (place_of now d.name.left) ≡ None → after ≡ now ++ variable_of d ∷ [] → IsDeclaring before ds after rest
declared_more before ds now after d rest h none is = rw is (record {
  fault = h.fault ∙ ap (λ o. or_else o (declared_fault (now ++ variable_of d ∷ []) rest)) none;
  after = h.after ∙ sym (append_assoc now (variable_of d ∷ []) (map variable_of rest));
  behind = one_behind before now (variable_of d) h.behind;
})

pub declared_halts : (before : Scope) (ds : List DeclarationShape) (now : Scope) (d : DeclarationShape) (rest : List DeclarationShape) (e : NameError) → IsDeclaring before ds now (d ∷ rest) → IsRefused (repeated d.name (place_of now d.name.left)) e → IsRefused (declared_fault before ds) e
declared_halts before ds now d rest (Fault f) h is = h.fault ∙ ap (λ o. or_else o (declared_fault (now ++ variable_of d ∷ []) rest)) is
declared_halts before ds now d rest Memory h is = tt

-- the next of the program's declarations
pub declared_next : (default : Declaration) (before now after : Scope) (items : List Declaration) (i : ℕ) → i < length items → IsDeclaring before (map declaration_of items) now (map declaration_of (drop i items)) → repeated (declaration_of (get_or items i default)).name (place_of now (declaration_of (get_or items i default)).name.left) ≡ None → after ≡ now ++ variable_of (declaration_of (get_or items i default)) ∷ [] → IsDeclaring before (map declaration_of items) after (map declaration_of (drop (i + 1) items))
declared_next default before now after items i lt h none is = declared_more before (map declaration_of items) now after (declaration_of (get_or items i default)) (map declaration_of (drop (i + 1) items)) (subst (λ xs. IsDeclaring before (map declaration_of items) now (map declaration_of xs)) (drop_more items i default lt) h) none is
