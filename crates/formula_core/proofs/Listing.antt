-- Names and sorts in two lists, seen as one list of pairs.
use Rattle.std.proofs.Common.{◌≡◌, ℕ, List, [], ◌∷◌, ◌++◌, length, map, arith, refl, ap, ap₂, sym, ◌∙◌, vec_len, Vec, Global, Bool, true, cond}
use Rattle.std.specs.List.{zip, All, AllZip}
use Rattle.std.proofs.lemmas.List.{length-map}
use Rattle.std.proofs.lemmas.List.Elements.{All-push, same_from_all_zip}
use Rattle.std.proofs.lemmas.List.Quantifiers.{all_pairs_push}
use Rattle.std.proofs.lemmas.Slice.Zip.{firsts-zip, seconds-zip}
use Rattle.lash_model.specs.Formulas.{Sort}
use Rattle.formula_core.specs.declared.sort.Sort.{Sort as DeclaredSort}
use Rattle.formula_core.specs.Names.{IsVariableName}
use Rattle.formula_core.specs.Variables.{sort_of, AreVariables, names_of, sorts_of}

-- one more of each
pub zip_push : {X Y : Type 0} (xs : List X) (ys : List Y) (x : X) (y : Y) → length ys ≡ length xs → zip (xs ++ x ∷ []) (ys ++ y ∷ []) ≡ zip xs ys ++ (x, y) ∷ []
zip_push [] [] x y h = refl
zip_push [] (v ∷ ys) x y h = absurd (omega arith)
zip_push (u ∷ xs) [] x y h = absurd (omega arith)
zip_push (u ∷ xs) (v ∷ ys) x y h = ap (λ zs. (u, v) ∷ zs) (zip_push xs ys x y (omega arith))

-- a new name behind the others
pub variables_push : (names : List (List ℕ)) (name : List ℕ) → AreVariables names → IsVariableName name → All (λ old. old ≡ name → ⊥) names → AreVariables (names ++ name ∷ [])
variables_push names name h named fresh = record { named = All-push IsVariableName names name h.named named; distinct = all_pairs_push (λ a b. a ≡ b → ⊥) names name h.distinct fresh }

-- copies of byte strings hold the same bytes
pub same_items : {R : ℕ → ℕ → Type 0} (xs ys : List (Vec ℕ Global)) → ((x y : ℕ) → R x y → y ≡ x) → AllZip (λ v w. AllZip R v.items w.items × (vec_len w ≡ vec_len v)) xs ys → map (λ n. n.items) ys ≡ map (λ n. n.items) xs
same_items {R} [] [] same h = refl
same_items {R} [] (y ∷ ys) same h = absurd h
same_items {R} (x ∷ xs) [] same h = absurd h
same_items {R} (x ∷ xs) (y ∷ ys) same h = ap₂ (λ b bs. b ∷ bs) (same_from_all_zip R x.items y.items h.0.0 same) (same_items {R = R} xs ys same h.1)

-- what the two lists are seen as
pub names_seen : (ns : List (Vec ℕ Global)) (ss : List DeclaredSort) (vs : List (List ℕ × Sort)) → zip (map (λ n. n.items) ns) (map sort_of ss) ≡ vs → length ss ≡ length ns → names_of vs ≡ map (λ n. n.items) ns
names_seen ns ss vs e h = ap names_of (sym e) ∙ firsts-zip (map (λ n. n.items) ns) (map sort_of ss) (length-map ss sort_of ∙ h ∙ sym (length-map ns (λ n. n.items)))

pub sorts_seen : (ns : List (Vec ℕ Global)) (ss : List DeclaredSort) (vs : List (List ℕ × Sort)) → zip (map (λ n. n.items) ns) (map sort_of ss) ≡ vs → length ss ≡ length ns → sorts_of vs ≡ map sort_of ss
sorts_seen ns ss vs e h = ap sorts_of (sym e) ∙ seconds-zip (map (λ n. n.items) ns) (map sort_of ss) (length-map ss sort_of ∙ h ∙ sym (length-map ns (λ n. n.items)))

pub length_seen : (ns : List (Vec ℕ Global)) (ss : List DeclaredSort) (vs : List (List ℕ × Sort)) → zip (map (λ n. n.items) ns) (map sort_of ss) ≡ vs → length ss ≡ length ns → length vs ≡ length ns
length_seen ns ss vs e h = sym (length-map vs (λ v. v.0)) ∙ ap length (names_seen ns ss vs e h) ∙ length-map ns (λ n. n.items)

-- a list after a push that went well
pub pushed : {X : Type 0} (ok : Bool) (now more was : List X) → ok ≡ true → now ≡ cond ok more was → now ≡ more
pushed ok now more was h e = e ∙ ap (λ b. cond b more was) h
