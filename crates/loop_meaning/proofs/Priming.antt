-- The names with quote marks behind the others: each is new.
use Rattle.std.proofs.Common.{◌≡◌, ℕ, zero, suc, ◌+◌, ◌-◌, ◌≤◌, ◌<◌, List, [], ◌∷◌, ◌++◌, length, take, drop, map, get_or, nat_le, nat_eq, nat_lt, arith, refl, ap, ◌∙◌, sym, subst, append_assoc, append-nil, Bool, true, false, ◌&&◌, ◌||◌, None, Some}
use Rattle.std.specs.Prelude.{Option, is_some, codes}
use Rattle.std.specs.List.{All, list_all}
use Rattle.std.proofs.lemmas.Bool.{true≢false, ltb-true, ltb-false}
use Rattle.std.proofs.lemmas.List.{drop_more, map-append, length-append, length-map, get_or_append_left, get_or-append_right, get_or-map, append_cancel_right}
use Rattle.std.proofs.lemmas.List.Folds.{list_all-append}
use Rattle.lash_model.specs.Formulas.{Sort}
use Rattle.formula_core.specs.Names.{IsName, IsWord, begins_word, is_in_word}
use Rattle.formula_core.specs.Variables.{names_of, sort_of}
use Rattle.script_syntax.specs.Trees.{DeclarationShape, declaration_of}
use Rattle.script_syntax.specs.declared.tree.Declaration.{Declaration}
use Rattle.script_names.specs.Scopes.{Scope, place_of, variable_of}
use Rattle.script_names.specs.Faults.{or_else, repeated, declared_fault}
use Rattle.script_names.specs.declared.names.FaultAt.{FaultAt}
use Rattle.script_names.proofs.Declaring.{IsDeclaring, begun, declared_next}
use Rattle.script_names.proofs.Fresh.{next_is_new}
use Rattle.loop_meaning.specs.Looping.{primed, scope_of, loop_variables}

-- the variables so far are all those before the turns, and some of those after them
pub record IsPriming (items : List Declaration) (i : ℕ) (vars : Scope) : Type 0 where
  pub now : Scope
  pub declared : IsDeclaring [] (map declaration_of items) now (map declaration_of (drop i items))
  pub same : vars ≡ scope_of (map declaration_of items) ++ map primed now

pub primed_none : (items : List Declaration) (vars : Scope) → vars ≡ scope_of (map declaration_of items) → IsPriming items 0 vars
primed_none items vars is = record { now = []; declared = begun [] (map declaration_of items); same = is ∙ sym (append-nil (scope_of (map declaration_of items))) }

first_none : (x y : Option FaultAt) → or_else x y ≡ None → x ≡ None
first_none None y e = refl
first_none (Some f) y e = absurd (true≢false (ap is_some e))

pub primed_more : (default : Declaration) (items : List Declaration) (i : ℕ) (before after : Scope) → i < length items → IsPriming items i before → declared_fault [] (map declaration_of items) ≡ None → (name : List ℕ) → name ≡ (get_or items i default).name.bytes.now ++ codes "'" → after ≡ before ++ (name, sort_of (get_or items i default).sort) ∷ [] → IsPriming items (i + 1) after
primed_more default items i before after lt h none name named is = record {
  now = h.now ++ variable_of d ∷ [];
  declared = declared_next default [] h.now (h.now ++ variable_of d ∷ []) items i lt h.declared new refl;
  same = is ∙ ap (λ n. before ++ (n, sort_of (get_or items i default).sort) ∷ []) named ∙ ap (λ vs. vs ++ primed (variable_of d) ∷ []) h.same ∙ append_assoc (scope_of (map declaration_of items)) (map primed h.now) (primed (variable_of d) ∷ []) ∙ ap (λ vs. scope_of (map declaration_of items) ++ vs) (sym (map-append primed h.now (variable_of d ∷ [])));
}
  where
    d : DeclarationShape
    d = declaration_of (get_or items i default)

    new : repeated d.name (place_of h.now d.name.left) ≡ None
    new = first_none (repeated d.name (place_of h.now d.name.left)) (declared_fault _ (map declaration_of (drop (i + 1) items))) (ap (λ xs. declared_fault h.now (map declaration_of xs)) (sym (drop_more items i default lt)) ∙ sym h.declared.fault ∙ none)

pub primed_all : (items : List Declaration) (vars : Scope) → IsPriming items (length items) vars → vars ≡ loop_variables (map declaration_of items)
primed_all items vars h = h.same ∙ ap (λ vs. scope_of (map declaration_of items) ++ map primed vs) all
  where
    none_behind : (xs : List Declaration) → drop (length xs) xs ≡ []
    none_behind [] = refl
    none_behind (x ∷ xs) = none_behind xs

    all : h.now ≡ scope_of (map declaration_of items)
    all = sym (h.declared.after ∙ ap (λ xs. h.now ++ map variable_of (map declaration_of xs)) (none_behind items) ∙ append-nil h.now)

-- a name has no quote mark
second_true : (x y : Bool) → (x && y) ≡ true → y ≡ true
second_true true y e = e
second_true false y e = absurd (true≢false (sym e))

word_without_quote : (w : List ℕ) → list_all is_in_word (w ++ codes "'") ≡ true → ⊥
word_without_quote w e = true≢false (sym (second_true (list_all is_in_word w) (list_all is_in_word (codes "'")) (sym (list_all-append is_in_word w (codes "'")) ∙ e)))

quoted_is_no_name : (name plain : List ℕ) → IsName name → name ≡ plain ++ codes "'" → ⊥
quoted_is_no_name name [] h e = absurd (true≢false (sym (subst IsWord e h.word).0))
quoted_is_no_name name (b ∷ bs) h e = word_without_quote bs (subst IsWord e h.word).1

primed_name : (vs : Scope) → names_of (map primed vs) ≡ map (λ n. n ++ codes "'") (names_of vs)
primed_name [] = refl
primed_name (v ∷ vs) = ap (λ ns. (v.0 ++ codes "'") ∷ ns) (primed_name vs)

name_at : (items : List Declaration) (k : ℕ) (e : List ℕ) (default : Declaration) → k < length items → get_or (names_of (scope_of (map declaration_of items))) k e ≡ (get_or items k default).name.bytes.now
name_at [] k e default lt = absurd (omega (arith, lt))
name_at (x ∷ xs) zero e default lt = refl
name_at (x ∷ xs) (suc k) e default lt = name_at xs k e default (omega (arith, lt))

as_many : (items : List Declaration) → length (names_of (scope_of (map declaration_of items))) ≡ length items
as_many [] = refl
as_many (x ∷ xs) = ap suc (as_many xs)

-- the next name with a quote mark is none of those before
pub next_prime_is_new : (default : Declaration) (items : List Declaration) (i : ℕ) (vars : Scope) (name : List ℕ) → i < length items → IsPriming items i vars → declared_fault [] (map declaration_of items) ≡ None → All (λ d. IsName (declaration_of d).name.left) items → name ≡ (get_or items i default).name.bytes.now ++ codes "'" → (k : ℕ) (e : List ℕ) → k < length (names_of vars) → get_or (names_of vars) k e ≡ name → ⊥
next_prime_is_new default items i vars name lt h none named is k e below same = by (nat_lt k (length firsts)) refl
  where
    firsts : List (List ℕ)
    firsts = names_of (scope_of (map declaration_of items))

    split : names_of vars ≡ firsts ++ map (λ n. n ++ codes "'") (names_of h.now)
    split = ap names_of h.same ∙ map-append (λ v. v.0) (scope_of (map declaration_of items)) (map primed h.now) ∙ ap (λ ns. firsts ++ ns) (primed_name h.now)

    there : get_or (firsts ++ map (λ n. n ++ codes "'") (names_of h.now)) k e ≡ (get_or items i default).name.bytes.now ++ codes "'"
    there = ap (λ ns. get_or ns k e) (sym split) ∙ same ∙ is

    by : (b : Bool) → nat_lt k (length firsts) ≡ b → ⊥
    by true q =
        let under : k < length firsts = ltb-true k (length firsts) q in
        let inside : k < length items = omega (arith, under, as_many items) in
        quoted_is_no_name (get_or items k default).name.bytes.now (get_or items i default).name.bytes.now (named k default inside)
        (sym (name_at items k e default inside) ∙ sym (get_or_append_left firsts (map (λ n. n ++ codes "'") (names_of h.now)) e k under) ∙ there)
    by false q =
        let over : length firsts ≤ k = ltb-false k (length firsts) q in
        let inside : k - length firsts < length (names_of h.now) = omega (arith, below, over, ap length split, length-append firsts (map (λ n. n ++ codes "'") (names_of h.now)), length-map (names_of h.now) (λ n. n ++ codes "'")) in
        next_is_new default h.now items i lt h.declared none (k - length firsts) e inside
        (append_cancel_right (get_or (names_of h.now) (k - length firsts) e) (get_or items i default).name.bytes.now (codes "'")
        (sym (get_or-map (λ n. n ++ codes "'") (names_of h.now) (k - length firsts) e e inside) ∙ sym (get_or-append_right firsts (map (λ n. n ++ codes "'") (names_of h.now)) (length firsts) k e refl over) ∙ there))
