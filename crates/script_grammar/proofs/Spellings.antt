-- Each view of tokens fits its spelling.
use Rattle.std.proofs.Common.{◌≡◌, ℕ, zero, suc, List, [], ◌∷◌, refl, sym, ◌∙◌, ap, Option, None, Some, get_or}
use mathlib.Core.Bool.{Bool, true, false}
use Rattle.std.specs.Prelude.{eqb}
use Rattle.std.proofs.lemmas.Bool.{eqb-true, false≢true}
use Rattle.parser_laws.specs.Parsing.{Pair, pick}
use Rattle.parser_laws.specs.Placed.{Placed, placed_view, placed_mk}
use Rattle.parser_laws.proofs.Parts.{Spelling, not_none, same_some}
use Rattle.parser_laws.proofs.Placed.{placed_spelling}
use Rattle.lash_model.specs.Formulas.{Sort, Int, Real}
use Rattle.script_tokens.specs.declared.kind.Kind.{Kind}
use Rattle.script_tokens.specs.declared.kind.Kind.TheVariants as kind
use Rattle.script_tokens.specs.Kinds.{number_of}
use Rattle.script_tokens.specs.Tokens.{Token, Name, Number, Sign, Bad, PlacedToken}
use Rattle.script_grammar.specs.Statements.{Bound, AtMost as BoundAtMost, Below as BoundBelow, AtLeast as BoundAtLeast, Above as BoundAbove, Equal as BoundEqual, spell_bound, bound_view}
use Rattle.script_grammar.specs.Views.{Quantifier, Exists, Forall, Adding, Plus, Minus, Relation, AtMost, Below, AtLeast, Above, Equal, Unequal, spell_quantifier, spell_sort, spell_adding, spell_truth, spell_relation, entry, same_kind, lookup, table_view, name_view, number_view, one_less, positive_view, quantifier_view, sort_view, adding_view, truth_view, relation_view, place_if, is_kind, place_view, at}

kind_with : ℕ → Kind
kind_with n = get_or (kind.Show ∷ kind.Set ∷ kind.Print ∷ kind.Solve ∷ kind.Test ∷ kind.Equal ∷ kind.Subset ∷ kind.Check ∷ kind.Loop ∷ kind.When ∷ kind.Do ∷ kind.Int ∷ kind.Real ∷ kind.Exists ∷ kind.Forall ∷ kind.And ∷ kind.Or ∷ kind.Not ∷ kind.True ∷ kind.False ∷ kind.Mod ∷ kind.Equivalent ∷ kind.Becomes ∷ kind.Unequal ∷ kind.AtMost ∷ kind.AtLeast ∷ kind.Implies ∷ kind.Open ∷ kind.Close ∷ kind.Comma ∷ kind.Colon ∷ kind.Semicolon ∷ kind.Times ∷ kind.Plus ∷ kind.Minus ∷ kind.Slash ∷ kind.Equals ∷ kind.Below ∷ kind.Above ∷ []) n kind.Mod

kind_back : (k : Kind) → kind_with (number_of k) ≡ k
unfolding kind_with
kind_back kind.Show = refl
kind_back kind.Set = refl
kind_back kind.Print = refl
kind_back kind.Solve = refl
kind_back kind.Test = refl
kind_back kind.Equal = refl
kind_back kind.Subset = refl
kind_back kind.Check = refl
kind_back kind.Loop = refl
kind_back kind.When = refl
kind_back kind.Do = refl
kind_back kind.Int = refl
kind_back kind.Real = refl
kind_back kind.Exists = refl
kind_back kind.Forall = refl
kind_back kind.And = refl
kind_back kind.Or = refl
kind_back kind.Not = refl
kind_back kind.True = refl
kind_back kind.False = refl
kind_back kind.Mod = refl
kind_back kind.Equivalent = refl
kind_back kind.Becomes = refl
kind_back kind.Unequal = refl
kind_back kind.AtMost = refl
kind_back kind.AtLeast = refl
kind_back kind.Implies = refl
kind_back kind.Open = refl
kind_back kind.Close = refl
kind_back kind.Comma = refl
kind_back kind.Colon = refl
kind_back kind.Semicolon = refl
kind_back kind.Times = refl
kind_back kind.Plus = refl
kind_back kind.Minus = refl
kind_back kind.Slash = refl
kind_back kind.Equals = refl
kind_back kind.Below = refl
kind_back kind.Above = refl

-- kinds with one number are one kind
pub same_kinds : (j k : Kind) → same_kind j k ≡ true → j ≡ k
same_kinds j k e = sym (kind_back j) ∙ ap kind_with (eqb-true (number_of j) (number_of k) e) ∙ kind_back k

pub kind_itself : (k : Kind) → same_kind k k ≡ true
kind_itself kind.Show = refl
kind_itself kind.Set = refl
kind_itself kind.Print = refl
kind_itself kind.Solve = refl
kind_itself kind.Test = refl
kind_itself kind.Equal = refl
kind_itself kind.Subset = refl
kind_itself kind.Check = refl
kind_itself kind.Loop = refl
kind_itself kind.When = refl
kind_itself kind.Do = refl
kind_itself kind.Int = refl
kind_itself kind.Real = refl
kind_itself kind.Exists = refl
kind_itself kind.Forall = refl
kind_itself kind.And = refl
kind_itself kind.Or = refl
kind_itself kind.Not = refl
kind_itself kind.True = refl
kind_itself kind.False = refl
kind_itself kind.Mod = refl
kind_itself kind.Equivalent = refl
kind_itself kind.Becomes = refl
kind_itself kind.Unequal = refl
kind_itself kind.AtMost = refl
kind_itself kind.AtLeast = refl
kind_itself kind.Implies = refl
kind_itself kind.Open = refl
kind_itself kind.Close = refl
kind_itself kind.Comma = refl
kind_itself kind.Colon = refl
kind_itself kind.Semicolon = refl
kind_itself kind.Times = refl
kind_itself kind.Plus = refl
kind_itself kind.Minus = refl
kind_itself kind.Slash = refl
kind_itself kind.Equals = refl
kind_itself kind.Below = refl
kind_itself kind.Above = refl

-- each line of the table stands for its spelling
abbrev pub Spelled : {A : Type 0} → (A → Kind) → List (Pair Kind A) → Type 0
Spelled mk [] = Unit
Spelled mk (x ∷ xs) = (x.left ≡ mk x.right) × Spelled mk xs

looked_up : {A : Type 0} (mk : A → Kind) (xs : List (Pair Kind A)) → Spelled mk xs → (j : Kind) (a : A) → lookup xs j ≡ Some a → j ≡ mk a
looked_up mk [] s j a e = absurd (not_none a e)
looked_up {A = A} mk (x ∷ xs) s j a e = by (same_kind j x.left) refl e (looked_up mk xs s.1 j a)
  where
    by : (c : Bool) → same_kind j x.left ≡ c → pick c (Some x.right) (lookup xs j) ≡ Some a → (lookup xs j ≡ Some a → j ≡ mk a) → j ≡ mk a
    by true q e f = same_kinds j x.left q ∙ s.0 ∙ ap mk (same_some x.right a e)
    by false q e f = f e

pub spelling : {A : Type 0} (mk : A → Kind) (xs : List (Pair Kind A)) → Spelled mk xs → ((a : A) → lookup xs (mk a) ≡ Some a) → Spelling (table_view xs) (λ a. Sign (mk a))
spelling {A = A} mk xs s back = record { fits = fits; back = back }
  where
    fits : (t : Token) (a : A) → table_view xs t ≡ Some a → t ≡ Sign (mk a)
    fits (Name n) a e = absurd (not_none a e)
    fits (Number n) a e = absurd (not_none a e)
    fits Bad a e = absurd (not_none a e)
    fits (Sign j) a e = ap (λ i. Sign i) (looked_up mk xs s j a e)

pub sign_spelling : (k : Kind) → Spelling (place_view k) (at k)
sign_spelling k = record { fits = λ t p e. fits t.token t.place p e; back = λ p. ap (λ b. place_if b p) (kind_itself k) }
  where
    by : (j : Kind) (b : Bool) (q p : ℕ) → same_kind j k ≡ b → place_if b q ≡ Some p → record { token = Sign j; place = q } ≡ at k p
    by j true q p e f = ap (λ i. record { token = Sign i; place = q }) (same_kinds j k e) ∙ ap (λ i. record { token = Sign k; place = i }) (same_some q p f)
    by j false q p e f = absurd (not_none p f)

    fits : (t : Token) (q p : ℕ) → place_if (is_kind k t) q ≡ Some p → record { token = t; place = q } ≡ at k p
    fits (Name n) q p e = absurd (not_none p e)
    fits (Number n) q p e = absurd (not_none p e)
    fits (Sign j) q p e = by j (same_kind j k) q p refl e
    fits Bad q p e = absurd (not_none p e)

bare_quantifier : Spelling quantifier_view (λ a. Sign (spell_quantifier a))
bare_quantifier = spelling spell_quantifier (entry spell_quantifier Exists ∷ entry spell_quantifier Forall ∷ []) (refl, (refl, tt)) back
  where
    back : (a : Quantifier) → quantifier_view (Sign (spell_quantifier a)) ≡ Some a
    back Exists = refl
    back Forall = refl

pub quantifier_spelling : Spelling (placed_view quantifier_view) (placed_mk (λ a. Sign (spell_quantifier a)))
quantifier_spelling = placed_spelling quantifier_view (λ a. Sign (spell_quantifier a)) bare_quantifier

bare_sort : Spelling sort_view (λ a. Sign (spell_sort a))
bare_sort = spelling spell_sort (entry spell_sort Int ∷ entry spell_sort Real ∷ []) (refl, (refl, tt)) back
  where
    back : (a : Sort) → sort_view (Sign (spell_sort a)) ≡ Some a
    back Int = refl
    back Real = refl

pub sort_spelling : Spelling (placed_view sort_view) (placed_mk (λ a. Sign (spell_sort a)))
sort_spelling = placed_spelling sort_view (λ a. Sign (spell_sort a)) bare_sort

bare_adding : Spelling adding_view (λ a. Sign (spell_adding a))
bare_adding = spelling spell_adding (entry spell_adding Plus ∷ entry spell_adding Minus ∷ []) (refl, (refl, tt)) back
  where
    back : (a : Adding) → adding_view (Sign (spell_adding a)) ≡ Some a
    back Plus = refl
    back Minus = refl

pub adding_spelling : Spelling (placed_view adding_view) (placed_mk (λ a. Sign (spell_adding a)))
adding_spelling = placed_spelling adding_view (λ a. Sign (spell_adding a)) bare_adding

bare_truth : Spelling truth_view (λ a. Sign (spell_truth a))
bare_truth = spelling spell_truth (entry spell_truth true ∷ entry spell_truth false ∷ []) (refl, (refl, tt)) back
  where
    back : (a : Bool) → truth_view (Sign (spell_truth a)) ≡ Some a
    back true = refl
    back false = refl

pub truth_spelling : Spelling (placed_view truth_view) (placed_mk (λ a. Sign (spell_truth a)))
truth_spelling = placed_spelling truth_view (λ a. Sign (spell_truth a)) bare_truth

bare_relation : Spelling relation_view (λ a. Sign (spell_relation a))
bare_relation = spelling spell_relation (entry spell_relation AtMost ∷ entry spell_relation Below ∷ entry spell_relation AtLeast ∷ entry spell_relation Above ∷ entry spell_relation Equal ∷ entry spell_relation Unequal ∷ []) (refl, (refl, (refl, (refl, (refl, (refl, tt)))))) back
  where
    back : (a : Relation) → relation_view (Sign (spell_relation a)) ≡ Some a
    back AtMost = refl
    back Below = refl
    back AtLeast = refl
    back Above = refl
    back Equal = refl
    back Unequal = refl

pub relation_spelling : Spelling (placed_view relation_view) (placed_mk (λ a. Sign (spell_relation a)))
relation_spelling = placed_spelling relation_view (λ a. Sign (spell_relation a)) bare_relation

bare_name : Spelling name_view (λ n. Name n)
bare_name = record { fits = fits; back = λ a. refl }
  where
    fits : (t : Token) (a : List ℕ) → name_view t ≡ Some a → t ≡ Name a
    fits (Name n) a e = ap (λ i. Name i) (same_some n a e)
    fits (Number n) a e = absurd (not_none a e)
    fits (Sign j) a e = absurd (not_none a e)
    fits Bad a e = absurd (not_none a e)

pub name_spelling : Spelling (placed_view name_view) (placed_mk (λ n. Name n))
name_spelling = placed_spelling name_view (λ n. Name n) bare_name

bare_number : Spelling number_view (λ n. Number n)
bare_number = record { fits = fits; back = λ a. refl }
  where
    fits : (t : Token) (a : ℕ) → number_view t ≡ Some a → t ≡ Number a
    fits (Name n) a e = absurd (not_none a e)
    fits (Number n) a e = ap (λ i. Number i) (same_some n a e)
    fits (Sign j) a e = absurd (not_none a e)
    fits Bad a e = absurd (not_none a e)

pub number_spelling : Spelling (placed_view number_view) (placed_mk (λ n. Number n))
number_spelling = placed_spelling number_view (λ n. Number n) bare_number

bare_positive : Spelling positive_view (λ n. Number (suc n))
bare_positive = record { fits = fits; back = λ a. refl }
  where
    less : (n a : ℕ) → one_less n ≡ Some a → n ≡ suc a
    less zero a e = absurd (not_none a e)
    less (suc n) a e = ap suc (same_some n a e)

    fits : (t : Token) (a : ℕ) → positive_view t ≡ Some a → t ≡ Number (suc a)
    fits (Name n) a e = absurd (not_none a e)
    fits (Number n) a e = ap (λ i. Number i) (less n a e)
    fits (Sign j) a e = absurd (not_none a e)
    fits Bad a e = absurd (not_none a e)

pub positive_spelling : Spelling (placed_view positive_view) (placed_mk (λ n. Number (suc n)))
positive_spelling = placed_spelling positive_view (λ n. Number (suc n)) bare_positive

bare_bound : Spelling bound_view (λ a. Sign (spell_bound a))
bare_bound = spelling spell_bound (entry spell_bound BoundAtMost ∷ entry spell_bound BoundBelow ∷ entry spell_bound BoundAtLeast ∷ entry spell_bound BoundAbove ∷ entry spell_bound BoundEqual ∷ []) (refl, (refl, (refl, (refl, (refl, tt))))) back
  where
    back : (a : Bound) → bound_view (Sign (spell_bound a)) ≡ Some a
    back BoundAtMost = refl
    back BoundBelow = refl
    back BoundAtLeast = refl
    back BoundAbove = refl
    back BoundEqual = refl

pub bound_spelling : Spelling (placed_view bound_view) (placed_mk (λ a. Sign (spell_bound a)))
bound_spelling = placed_spelling bound_view (λ a. Sign (spell_bound a)) bare_bound
