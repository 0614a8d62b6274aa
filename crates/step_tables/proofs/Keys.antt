-- Keys of any type that are seen as lists of numbers.
use Rattle.std.proofs.Common.{◌≡◌, ℕ, Bool, true, false, ◌||◌, not, List, [], ◌∷◌, ◌++◌, map, Option, IfSome, slice_get, option_map, refl, sym, ap, ◌∙◌, if◌then◌else◌, nat_eq}
use Rattle.std.specs.List.{list_any, position, slice_index_or}
use Rattle.std.proofs.lemmas.List.Quantifiers.{position-Some}
use Rattle.std.specs.declared.option.Option.TheVariants.{Some, None}
use Rattle.std.specs.Cmp.Lexicographic.{pointwise, same_text}
use Rattle.std.proofs.lemmas.Option.{slice_get-map, slice_get-get_or}
use Rattle.indexmap.specs.IndexSet.{insert_key}
use Rattle.step_tables.specs.Gathering.{met, same_list}

module _ {K : Type 0} (items : K → List ℕ) where
  pub list_any-map : (k : K) (ks : List K) → list_any (λ w. pointwise nat_eq (items k) (items w)) ks ≡ list_any (same_list (items k)) (map items ks)
  list_any-map k [] = refl
  list_any-map k (x ∷ ks) = ap (λ b. pointwise nat_eq (items k) (items x) || b) (list_any-map k ks)

  map-push : (ks : List K) (k : K) → map items (ks ++ k ∷ []) ≡ map items ks ++ items k ∷ []
  map-push [] k = refl
  map-push (x ∷ ks) k = ap (λ ys. items x ∷ ys) (map-push ks k)

  pub map-insert_key : (ks : List K) (k : K) → map items (insert_key (λ v w. pointwise nat_eq (items v) (items w)) ks k) ≡ met (map items ks) (items k)
  map-insert_key ks k = rw (← (list_any-map k ks)) (by (list_any (λ w. pointwise nat_eq (items k) (items w)) ks))
    where
      by : (b : Bool) → map items (if b then ks else ks ++ k ∷ []) ≡ (if b then map items ks else map items ks ++ items k ∷ [])
      by true = refl
      by false = map-push ks k

  pub stored_key : (ks : List K) (p : ℕ) (k s : K) → slice_get ks p ≡ Some s → pointwise nat_eq (items k) (items s) ≡ true → slice_get (map items ks) p ≡ Some (items k)
  stored_key ks p k s at same =
      slice_get-map items ks p ∙ (ap (option_map items) at ∙ ap (λ x. Some x) (sym (same_text (items k) (items s) (sym same))))

  at_position : (ks : List K) (p : ℕ) (k : K) → position (λ w. pointwise nat_eq (items k) (items w)) ks ≡ Some p → slice_get (map items ks) p ≡ Some (items k)
  at_position ks p k e = let found = position-Some (λ w. pointwise nat_eq (items k) (items w)) ks p k e in
      stored_key ks p k (slice_index_or ks p k) (slice_get-get_or ks p k found.0) found.1

  pub placed_if : (ks : List K) (k : K) (r : Option ℕ) → r ≡ position (λ w. pointwise nat_eq (items k) (items w)) ks → IfSome r (λ p. slice_get (map items ks) p ≡ Some (items k))
  placed_if ks k None e = tt
  placed_if ks k (Some p) e = at_position ks p k (sym e)

pub fresh : (b r : Bool) → r ≡ not b → r ≡ true → b ≡ false
fresh true r e t = cc
fresh false r e t = refl

pub seen : (b r : Bool) → r ≡ not b → r ≡ false → b ≡ true
seen true r e t = refl
seen false r e t = cc
