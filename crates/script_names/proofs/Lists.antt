-- Lists of variables.
use Rattle.std.proofs.Common.{◌≡◌, ℕ, ◌+◌, List, [], ◌∷◌, map, refl, ap, ap₂, ◌∙◌, sym, Bool, cond, not, ltb}
use Rattle.std.specs.List.{position, prefix_len}
use Rattle.std.specs.Prelude.{Some, None}
use Rattle.std.specs.Map.{keys_of, lookup}
use Rattle.std.proofs.lemmas.List.{length-map}
use Rattle.std.proofs.Common.{Bor, nat_eq}
use Rattle.std.specs.Cmp.Lexicographic.{pointwise}
use Rattle.indexmap.proofs.MapLemmas.{Missing-position}
use Rattle.lash_model.specs.Formulas.{Sort}
use Rattle.formula_core.specs.Variables.{sort_of}
use Rattle.formula_core.specs.declared.sort.Sort.{Sort as DeclaredSort}
use Rattle.script_names.specs.Scopes.{place_of}

prefix_map : {A B : Type 0} (f : A → B) (test : B → Bool) (xs : List A) → prefix_len (λ x. test (f x)) xs ≡ prefix_len test (map f xs)
prefix_map f test [] = refl
prefix_map f test (x ∷ xs) = ap (λ n. cond (test (f x)) (1 + n) 0) (prefix_map f test xs)

-- a position goes by the images
pub position_map : {A B : Type 0} (f : A → B) (test : B → Bool) (xs : List A) → position (λ x. test (f x)) xs ≡ position test (map f xs)
position_map f test xs = ap₂ (λ n k. cond (ltb n k) (Some n) None) (prefix_map f (λ y. not (test y)) xs) (sym (length-map xs f))

-- an entry of the map, as a variable
abbrev pub entry_of : Bor (List ℕ) × DeclaredSort → List ℕ × Sort
entry_of e = (e.0.now, sort_of e.1)

-- the place of a key is that of the variable
pub places_agree : (name : List ℕ) (es : List (Bor (List ℕ) × DeclaredSort)) → position (λ k. pointwise nat_eq name k.now) (keys_of es) ≡ place_of (map entry_of es) name
places_agree name es = sym (position_map (λ e. e.0) (λ k. pointwise nat_eq name k.now) es) ∙ position_map entry_of (λ v. pointwise nat_eq name v.0) es

-- a key without a place is not there
pub missing : (name : List ℕ) (es : List (Bor (List ℕ) × DeclaredSort)) → place_of (map entry_of es) name ≡ None → lookup (λ k. pointwise nat_eq name k.now) es ≡ None
missing name es none = (Missing-position (λ k. pointwise nat_eq name k.now) es (places_agree name es ∙ none)).value
