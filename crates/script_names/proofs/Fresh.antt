-- A name without a place is not among the names.
use Rattle.std.proofs.Common.{◌≡◌, ℕ, zero, suc, ◌+◌, ◌≤◌, ◌<◌, List, [], ◌∷◌, length, drop, map, get_or, arith, refl, ap, ap₂, ◌∙◌, ◌&&◌, sym, Bool, true, false, cond, not, ltb, nat_eq, Option, None, Some}
use Rattle.std.specs.List.{prefix_len}
use Rattle.std.specs.Prelude.{is_some}
use Rattle.std.specs.Cmp.Lexicographic.{pointwise}
use Rattle.std.proofs.lemmas.Bool.{ltb-false, eq-eqb, true≢false}
use Rattle.std.proofs.lemmas.List.{drop_more}
use Rattle.formula_core.specs.Variables.{names_of}
use Rattle.script_syntax.specs.Trees.{DeclarationShape, Named, declaration_of}
use Rattle.script_syntax.specs.declared.tree.Declaration.{Declaration}
use Rattle.script_names.specs.Scopes.{Scope, place_of}
use Rattle.script_names.specs.Faults.{or_else, repeated, declared_fault}
use Rattle.script_names.specs.declared.names.FaultAt.{FaultAt}
use Rattle.script_names.proofs.Declaring.{IsDeclaring}

pub same_name : (name : List ℕ) → pointwise nat_eq name name ≡ true
same_name [] = refl
same_name (b ∷ bs) = ap₂ (λ x y. x && y) (eq-eqb b b refl) (same_name bs)

-- where no variable passes the test, none has the name
unmet : (name : List ℕ) (vs : Scope) → length vs ≤ prefix_len (λ v. not (pointwise nat_eq name v.0)) vs → (k : ℕ) (d : List ℕ) → k < length (names_of vs) → get_or (names_of vs) k d ≡ name → ⊥
unmet name [] h k d lt e = absurd (omega (arith, lt))
unmet name (v ∷ vs) h k d lt e = by (pointwise nat_eq name v.0) refl h (λ le k lt e. unmet name vs le k d lt e)
  where
    by : (b : Bool) → pointwise nat_eq name v.0 ≡ b → suc (length vs) ≤ cond (not b) (1 + prefix_len (λ v. not (pointwise nat_eq name v.0)) vs) 0 → (length vs ≤ prefix_len (λ v. not (pointwise nat_eq name v.0)) vs → (k : ℕ) → k < length (names_of vs) → get_or (names_of vs) k d ≡ name → ⊥) → ⊥
    by true q le rec = absurd (omega (arith, le))
    by false q le rec = at k lt e
      where
        at : (k : ℕ) → k < suc (length (names_of vs)) → get_or (v.0 ∷ names_of vs) k d ≡ name → ⊥
        at zero lt e = true≢false (sym (same_name name) ∙ ap (pointwise nat_eq name) (sym e) ∙ q)
        at (suc k) lt e = rec (omega (arith, le)) k (omega (arith, lt)) e

some_is_none : {A : Type 0} {x : A} → Some x ≡ None → ⊥
some_is_none e = true≢false (ap is_some e)

-- a name without a place
pub not_named : (name : List ℕ) (vs : Scope) → place_of vs name ≡ None → (k : ℕ) (d : List ℕ) → k < length (names_of vs) → get_or (names_of vs) k d ≡ name → ⊥
not_named name vs none = unmet name vs (at_end (ltb (prefix_len (λ v. not (pointwise nat_eq name v.0)) vs) (length vs)) refl none)
  where
    at_end : (b : Bool) → ltb (prefix_len (λ v. not (pointwise nat_eq name v.0)) vs) (length vs) ≡ b → cond b (Some (prefix_len (λ v. not (pointwise nat_eq name v.0)) vs)) None ≡ None → length vs ≤ prefix_len (λ v. not (pointwise nat_eq name v.0)) vs
    at_end true q e = absurd (some_is_none e)
    at_end false q e = ltb-false (prefix_len (λ v. not (pointwise nat_eq name v.0)) vs) (length vs) q

none_repeated : (name : Named) (p : Option ℕ) (y : Option FaultAt) → or_else (repeated name p) y ≡ None → p ≡ None
none_repeated name None y e = refl
none_repeated name (Some place) y e = absurd (some_is_none e)

-- the next of the program's declarations has a new name
pub next_is_new : (default : Declaration) (now : Scope) (items : List Declaration) (i : ℕ) → i < length items → IsDeclaring [] (map declaration_of items) now (map declaration_of (drop i items)) → declared_fault [] (map declaration_of items) ≡ None → (k : ℕ) (d : List ℕ) → k < length (names_of now) → get_or (names_of now) k d ≡ (get_or items i default).name.bytes.now → ⊥
next_is_new default now items i lt h none = not_named (get_or items i default).name.bytes.now now (none_repeated d.name (place_of now d.name.left) (declared_fault _ (map declaration_of (drop (i + 1) items))) (ap (λ xs. declared_fault now (map declaration_of xs)) (sym (drop_more items i default lt)) ∙ sym h.fault ∙ none))
  where
    d : DeclarationShape
    d = declaration_of (get_or items i default)
