-- Calls: their arguments can be put for variables, and counts of their formulas.
use Rattle.std.proofs.Common.{◌≡◌, ℕ, zero, suc, ◌+◌, ◌*◌, ◌≤◌, ◌<◌, ◌^◌, List, [], ◌∷◌, ◌++◌, ◌||◌, length, map, drop, get_or, arith, refl, ap, sym, ◌∙◌, subst, append_assoc, Bool, true, false, Option, None, Some}
use Rattle.std.proofs.Math.IntN.{ℤ}
use Rattle.std.specs.List.{All, slice_get}
use Rattle.std.proofs.lemmas.List.Elements.{All-append}
use Rattle.std.specs.Prelude.{min, unsigned_abs}
use Rattle.std.proofs.lemmas.List.Elements.{All-from_recursion}
use Rattle.lash_model.specs.Formulas.{Linear, Formula, coefficient_sum}
use Rattle.formula_core.specs.Counts.{nodes_of, depth_of, count_limit}
use Rattle.term_substitution.specs.Conditions.{IsSubstitute}
use Rattle.term_substitution.proofs.Reaching.{AreBelow}
use Rattle.term_substitution.proofs.FirstLimits.{same_nodes, same_depth}
use Rattle.script_syntax.specs.Trees.{SignedShape}
use Rattle.script_syntax.specs.Trees.{term_of}
use Rattle.script_syntax.specs.declared.tree.Term.{Term}
use Rattle.script_names.specs.Kept.{KeptSet, IsKept, AreKept}
use Rattle.script_meaning.specs.Limits.{parts_of, term_passes, terms_pass, terms_limit}
use Rattle.std.proofs.lemmas.List.{drop_more}
use Rattle.std.proofs.lemmas.Bool.{true≢false}
use Rattle.script_names.specs.Scopes.{Scope}
use Rattle.script_meaning.specs.Core.{argument, called}
use Rattle.script_meaning.proofs.Placing.{term_below}

-- no coefficient is greater than all together
one_within : (ts : List (ℕ × ℤ)) (n : ℕ) → coefficient_sum ts ≤ n → (k : ℕ) (d : ℕ × ℤ) → k < length ts → unsigned_abs (get_or ts k d).1 ≤ n
unfolding coefficient_sum
one_within [] n h k d lt = absurd (omega (arith, lt))
one_within (t ∷ ts) n h zero d lt = omega (arith, h)
one_within (t ∷ ts) n h (suc k) d lt = one_within ts n (omega (arith, h)) k d (omega (arith, lt))

-- an argument of few parts can be put for a variable
pub argument_is_substitute : (scope : Scope) (t : List SignedShape) (a : Linear) → a ≡ argument scope t → coefficient_sum a.terms ≤ 65536 * 2 ^ 64 → unsigned_abs a.constant ≤ 65536 * 2 ^ 64 → IsSubstitute (length scope) a
argument_is_substitute scope t a is few small = record {
  places_below = rw is (All-from_recursion (λ s. s.0 < length scope) (argument scope t).terms (term_below scope false [] t tt));
  coefficients = one_within a.terms (2 ^ 88) (omega (arith, few));
  constant = omega (arith, small);
}

-- the count of nodes of a call is that of the set's formula
pub called_nodes : (o : Option Formula) (scope : Scope) (ts : List (List SignedShape)) (f : Formula) → o ≡ Some f → nodes_of (called o scope ts) ≡ nodes_of f
called_nodes o scope ts f is = rw is (same_nodes f (map (argument scope) ts) (length scope))

pub called_depth : (o : Option Formula) (scope : Scope) (ts : List (List SignedShape)) (f : Formula) → o ≡ Some f → depth_of (called o scope ts) ≡ depth_of f
called_depth o scope ts f is = rw is (same_depth f (map (argument scope) ts) (length scope))

pub uncalled_nodes : (o : Option Formula) (scope : Scope) (ts : List (List SignedShape)) → o ≡ None → nodes_of (called o scope ts) ≡ 1
uncalled_nodes o scope ts is = rw is refl

pub uncalled_depth : (o : Option Formula) (scope : Scope) (ts : List (List SignedShape)) → o ≡ None → depth_of (called o scope ts) ≡ 1
uncalled_depth o scope ts is = rw is refl

-- the set at a place
pub record Here (kept : List KeptSet) (at : ℕ) : Type 0 where
  pub set : KeptSet
  pub got : slice_get kept at ≡ Some set
  pub is : IsKept set

pub here : (kept : List KeptSet) (at : ℕ) → at < length kept → AreKept kept → Here kept at
here kept at lt h = found kept at lt (λ k d lt. h.all k d lt)
  where
    found : (ks : List KeptSet) (at : ℕ) → at < length ks → All IsKept ks → Here ks at
    found [] at lt all = absurd (omega (arith, lt))
    found (k ∷ ks) zero lt all = record { set = k; got = refl; is = all 0 k (omega (arith, lt)) }
    found (k ∷ ks) (suc at) lt all =
        let rest = found ks at (omega (arith, lt)) (λ i d below. all (suc i) d (omega (arith, below))) in
        record { set = rest.set; got = rest.got; is = rest.is }

left_false : (x y : Bool) → (x || y) ≡ false → x ≡ false
left_false true y e = e
left_false false y e = refl

right_false : (x y : Bool) → (x || y) ≡ false → y ≡ false
right_false true y e = absurd (true≢false e)
right_false false y e = e

-- the terms of the arguments so far, in front of those of the rest
pub record IsArguing (scope : Scope) (ts : List (List SignedShape)) (done : List Linear) (rest : List (List SignedShape)) : Type 0 where
  pub whole : done ++ map (argument scope) rest ≡ map (argument scope) ts
  pub all : All (IsSubstitute (length scope)) done
  pub literals : terms_pass rest ≡ false
  pub size : parts_of rest ≤ terms_limit

argued : (scope : Scope) (ts : List (List SignedShape)) (done : List Linear) (t : List SignedShape) (rest : List (List SignedShape)) (a : Linear) → IsArguing scope ts done (t ∷ rest) → a ≡ argument scope t → IsSubstitute (length scope) a → IsArguing scope ts (done ++ a ∷ []) rest
argued scope ts done t rest a h is sub = record {
  whole = append_assoc done (a ∷ []) (map (argument scope) rest) ∙ ap (λ x. done ++ x ∷ map (argument scope) rest) is ∙ h.whole;
  all = All-append (IsSubstitute (length scope)) done (a ∷ []) h.all (one sub);
  literals = right_false (term_passes t) (terms_pass rest) h.literals;
  size = omega (arith, h.size);
}
  where
    one : IsSubstitute (length scope) a → All (IsSubstitute (length scope)) (a ∷ [])
    one is zero d lt = is
    one is (suc i) d lt = absurd (omega (arith, lt))

-- the next of the program's arguments
pub next_is : (default : Term) (scope : Scope) (items : List Term) (done : List Linear) (i : ℕ) → i < length items → IsArguing scope (map term_of items) done (map term_of (drop i items)) → IsArguing scope (map term_of items) done (term_of (get_or items i default) ∷ map term_of (drop (i + 1) items))
next_is default scope items done i lt h = subst (λ xs. IsArguing scope (map term_of items) done (map term_of xs)) (drop_more items i default lt) h

pub next_argued : (default : Term) (scope : Scope) (items : List Term) (done : List Linear) (i : ℕ) (a : Linear) → i < length items → IsArguing scope (map term_of items) done (map term_of (drop i items)) → a ≡ argument scope (term_of (get_or items i default)) → IsSubstitute (length scope) a → IsArguing scope (map term_of items) (done ++ a ∷ []) (map term_of (drop (i + 1) items))
next_argued default scope items done i a lt h is sub = argued scope (map term_of items) done (term_of (get_or items i default)) (map term_of (drop (i + 1) items)) a (next_is default scope items done i lt h) is sub

pub next_literal : (default : Term) (scope : Scope) (items : List Term) (done : List Linear) (i : ℕ) → i < length items → IsArguing scope (map term_of items) done (map term_of (drop i items)) → term_passes (term_of (get_or items i default)) ≡ false
next_literal default scope items done i lt h = left_false _ _ (next_is default scope items done i lt h).literals

pub next_count : (default : Term) (scope : Scope) (items : List Term) (done : List Linear) (i : ℕ) → i < length items → IsArguing scope (map term_of items) done (map term_of (drop i items)) → length (term_of (get_or items i default)) ≤ terms_limit
next_count default scope items done i lt h = omega (arith, (next_is default scope items done i lt h).size)

pub argument_constant : (a : Linear) (stored n : ℤ) → a.constant ≡ stored → stored ≡ n → unsigned_abs n ≤ 65536 * 2 ^ 64 → unsigned_abs a.constant ≤ 65536 * 2 ^ 64
argument_constant a stored n is kept small = rw is (rw kept small)
