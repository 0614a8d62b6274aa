-- A set that was read is one that is compiled: its terms are over the declared variables and inside the limits, if those of the kept sets are.
use Rattle.std.proofs.Common.{◌≡◌, ℕ, zero, suc, ◌+◌, ◌≤◌, ◌<◌, List, [], ◌∷◌, length, map, arith, refl, sym, ◌∙◌, subst, Bool, true, false, ◌||◌, cond, nat_eq, nat_lt, Option, None, Some}
use Rattle.std.specs.List.{All}
use Rattle.std.proofs.lemmas.Bool.{ltb-false, true≢false}
use Rattle.std.proofs.lemmas.List.{length-append, length-map}
use Rattle.std.proofs.lemmas.List.Elements.{All-from_recursion}
use Rattle.std.proofs.lemmas.Bool.{eqb-true}
use Rattle.lash_model.specs.Formulas.{Linear, Formula, Not as CoreNot, And as CoreAnd, Or as CoreOr}
use Rattle.parser_laws.proofs.Parts.{same_some, not_none}
use Rattle.formula_core.specs.Counts.{nodes_of, depth_of}
use Rattle.formula_core.specs.FewLetters.{FitsLetters}
use Rattle.script_grammar.specs.Views.{Relation, AtMost, Below, AtLeast, Above, Equal, Unequal, Quantifier, Exists, Forall}
use Rattle.script_syntax.specs.Trees.{SignedShape, DeclarationShape, TreeShape, Truth, Compare, Call, Not, And, Or, Implies, Equivalent, Quantified}
use Rattle.script_names.specs.Kept.{KeptSet, kept_set}
use Rattle.script_names.specs.Scopes.{Scope, variable_of, with_declared}
use Rattle.script_meaning.specs.Core.{difference, truth, compared, bound_all, argument, callee, called, core}
use Rattle.script_meaning.specs.Limits.{literal_passes}
use Rattle.script_meaning.specs.Resolving.{IsWithin, first_passed}
use Rattle.script_meaning.specs.declared.limits.Which.TheVariants.{Literal, Sets, Nodes, Depth, Coefficient, Constant as ConstantLimit}
use Rattle.script_meaning.proofs.Judging.{bound_some}
use Rattle.script_meaning.proofs.Placing.{term_below, difference_below}
use Rattle.term_substitution.specs.Limits.{nodes_limit, depth_limit, coefficients_pass, constant_passes, some_atom}
use Rattle.term_substitution.specs.Substitution.{substituted}
use Rattle.term_substitution.proofs.Reaching.{AreBelow, result_placed}
use Rattle.set_compile.specs.Conditions.{IsTermOver, IsOver}
use Rattle.statement_answers.specs.Automata.{IsGiven}
use Rattle.statement_answers.proofs.Conditions.{compiled_over, substituted_over, passed_over}

-- a kept set is over its variables
abbrev pub IsFine : KeptSet → Type 0
IsFine k = IsOver (length k.vars) k.formula

-- a kept set that is called
abbrev IsCallee : Option Formula → ℕ → Type 0
IsCallee o count = (f : Formula) → o ≡ Some f → IsOver count f

same_formula : {f g : Formula} → Some f ≡ Some g → f ≡ g
same_formula {f} {g} e = same_some f g e

callee_fine : (o : Option KeptSet) (count : ℕ) → ((k : KeptSet) → o ≡ Some k → IsFine k) → IsCallee (callee o count) count
callee_fine None count fine = λ f e. absurd (not_none f e)
callee_fine (Some k) count fine = by (nat_eq count (length k.vars)) refl
  where
    by : (b : Bool) → nat_eq count (length k.vars) ≡ b → IsCallee (cond b (Some k.formula) None) count
    by true q = λ f e. subst (λ g. IsOver count g) (same_formula e) (subst (λ n. IsOver n k.formula) (sym (eqb-true count (length k.vars) q)) (fine k refl))
    by false q = λ f e. absurd (not_none f e)

-- the terms of arguments are over the scope
arguments_below : (scope : Scope) (ts : List (List SignedShape)) → All (λ t. All (λ s. s.0 < length scope) t.terms) (map (argument scope) ts)
arguments_below scope [] k d lt = absurd (omega (arith, lt))
arguments_below scope (t ∷ ts) zero d lt = All-from_recursion (λ s. s.0 < length scope) (argument scope t).terms (term_below scope false [] t tt)
arguments_below scope (t ∷ ts) (suc k) d lt = arguments_below scope ts k d (omega (arith, lt))

-- an atom that passes no limit
atom_over : (m : ℕ) (a : Linear) → AreBelow m a.terms → coefficients_pass a ≡ false → constant_passes a ≡ false → IsTermOver m a
atom_over m a h few small = record {
  places = All-from_recursion (λ t. t.0 < m) a.terms h;
  inside = record { coefficients = ltb-false _ _ few; constant = ltb-false _ _ small };
}

truth_over : (m : ℕ) (b : Bool) → some_atom coefficients_pass (truth b) ≡ false → some_atom constant_passes (truth b) ≡ false → IsOver m (truth b)
truth_over m b few small = atom_over m _ tt few small

called_over : (o : Option Formula) (scope : Scope) (ts : List (List SignedShape)) → IsCallee o (length ts) → some_atom coefficients_pass (called o scope ts) ≡ false → some_atom constant_passes (called o scope ts) ≡ false → IsOver (length scope) (called o scope ts)
called_over None scope ts h few small = truth_over (length scope) false few small
called_over (Some f) scope ts h few small =
    compiled_over (length scope) (substituted f (map (argument scope) ts) (length scope))
    (result_placed f (map (argument scope) ts) (length scope) (arguments_below scope ts)
    (substituted_over _ f (subst (λ n. IsOver n f) (sym (length-map ts (argument scope))) (h f refl))) few small)

-- whatever the name, the set that is kept is fine
abbrev pub AreFine : List KeptSet → Type 0
AreFine kept = (name : List ℕ) (k : KeptSet) → kept_set kept name ≡ Some k → IsFine k

difference_over : (scope : Scope) (a b : List SignedShape) → coefficients_pass (difference scope a b) ≡ false → constant_passes (difference scope a b) ≡ false → IsTermOver (length scope) (difference scope a b)
difference_over scope a b few small = atom_over (length scope) (difference scope a b) (difference_below scope a b) few small

compared_over : (scope : Scope) (a : List SignedShape) (r : Relation) (b : List SignedShape) → some_atom coefficients_pass (compared scope a r b) ≡ false → some_atom constant_passes (compared scope a r b) ≡ false → IsOver (length scope) (compared scope a r b)
compared_over scope a AtMost b few small = difference_over scope a b few small
compared_over scope a AtLeast b few small = difference_over scope b a few small
compared_over scope a Below b few small = difference_over scope b a few small
compared_over scope a Above b few small = difference_over scope a b few small
compared_over scope a Equal b few small = difference_over scope a b few small
compared_over scope a Unequal b few small = difference_over scope a b few small

-- each bound variable is one variable more
bound_over : (m : ℕ) (q : Quantifier) (ds : List DeclarationShape) (f : Formula) → IsOver (m + length ds) f → IsOver m (bound_all q ds f)
bound_over m q [] f h = subst (λ k. IsOver k f) (none m) h
  where
    none : (m : ℕ) → m + 0 ≡ m
    none m = omega arith
bound_over m Exists (d ∷ ds) f h = bound_over (m + 1) Exists ds f (subst (λ k. IsOver k f) (one_more m (length ds)) h)
  where
    one_more : (m n : ℕ) → m + suc n ≡ m + 1 + n
    one_more m n = omega arith
bound_over m Forall (d ∷ ds) f h = bound_over (m + 1) Forall ds f (subst (λ k. IsOver k f) (one_more m (length ds)) h)
  where
    one_more : (m n : ℕ) → m + suc n ≡ m + 1 + n
    one_more m n = omega arith

length_declared : (scope : Scope) (ds : List DeclarationShape) → length (with_declared scope ds) ≡ length scope + length ds
length_declared scope ds = omega (arith, length-append scope (map variable_of ds), length-map ds variable_of)

pub left_false : (x y : Bool) → (x || y) ≡ false → x ≡ false
left_false true y e = e
left_false false y e = refl

pub right_false : (x y : Bool) → (x || y) ≡ false → y ≡ false
right_false true y e = absurd (true≢false e)
right_false false y e = e

-- no atom of the formula passes a limit
pub record PassesNone (f : Formula) : Type 0 where
  pub few : some_atom coefficients_pass f ≡ false
  pub small : some_atom constant_passes f ≡ false

negated_none : (f : Formula) → PassesNone (CoreNot f) → PassesNone f
negated_none f h = record { few = h.few; small = h.small }

both_none : (f g : Formula) → PassesNone (CoreAnd f g) → PassesNone f × PassesNone g
both_none f g h = (record { few = left_false _ _ h.few; small = left_false _ _ h.small }, record { few = right_false _ _ h.few; small = right_false _ _ h.small })

either_none : (f g : Formula) → PassesNone (CoreOr f g) → PassesNone f × PassesNone g
either_none f g h = both_none f g (record { few = h.few; small = h.small })

implied_none : (f g : Formula) → PassesNone (CoreOr (CoreNot f) g) → PassesNone f × PassesNone g
implied_none f g h = let p = either_none (CoreNot f) g h in (negated_none f p.0, p.1)

bound_none : (q : Quantifier) (ds : List DeclarationShape) (f : Formula) → PassesNone (bound_all q ds f) → PassesNone f
bound_none q ds f h = record { few = sym (bound_some coefficients_pass q ds f) ∙ h.few; small = sym (bound_some constant_passes q ds f) ∙ h.small }

-- a tree's core formula whose atoms pass no limit is over the scope
pub core_within : (kept : List KeptSet) → AreFine kept → (scope : Scope) (f : TreeShape) → PassesNone (core kept scope f) → IsOver (length scope) (core kept scope f)
core_within kept fine scope (Truth b) h = truth_over (length scope) b h.few h.small
core_within kept fine scope (Compare a r b) h = compared_over scope a r b h.few h.small
core_within kept fine scope (Call name ts) h = called_over (callee (kept_set kept name.left) (length ts)) scope ts (callee_fine (kept_set kept name.left) (length ts) (fine name.left)) h.few h.small
core_within kept fine scope (Not f) h = core_within kept fine scope f (negated_none (core kept scope f) h)
core_within kept fine scope (And f g) h = let p = both_none (core kept scope f) (core kept scope g) h in (core_within kept fine scope f p.0, core_within kept fine scope g p.1)
core_within kept fine scope (Or f g) h = let p = either_none (core kept scope f) (core kept scope g) h in (core_within kept fine scope f p.0, core_within kept fine scope g p.1)
core_within kept fine scope (Implies f g) h = let p = implied_none (core kept scope f) (core kept scope g) h in (core_within kept fine scope f p.0, core_within kept fine scope g p.1)
core_within kept fine scope (Equivalent f g) h =
    let p = implied_none (core kept scope f) (core kept scope g) (both_none (CoreOr (CoreNot (core kept scope f)) (core kept scope g)) (CoreOr (CoreNot (core kept scope g)) (core kept scope f)) h).0 in
    let left = core_within kept fine scope f p.0 in
    let right = core_within kept fine scope g p.1 in
    ((left, right), (right, left))
core_within kept fine scope (Quantified q ds f) h = bound_over (length scope) q ds (core kept (with_declared scope ds) f) (subst (λ m. IsOver m (core kept (with_declared scope ds) f)) (length_declared scope ds) (core_within kept fine (with_declared scope ds) f (bound_none q ds (core kept (with_declared scope ds) f) h)))

-- what is known of a formula that passes no limit
pub record PassesLimits (full : Bool) (f : Formula) : Type 0 where
  pub atoms : PassesNone f
  pub nodes : nodes_of f ≤ nodes_limit
  pub depth : depth_of f ≤ depth_limit
  pub room : full ≡ false

pub none_passed : (full : Bool) (tree : TreeShape) (f : Formula) → first_passed full tree f ≡ None → PassesLimits full f
none_passed full tree f e =
    let literals = passed_over (literal_passes tree) Literal _ e in
    let sets = passed_over full Sets _ literals.rest in
    let nodes = passed_over (nat_lt nodes_limit (nodes_of f)) Nodes _ sets.rest in
    let depth = passed_over (nat_lt depth_limit (depth_of f)) Depth _ nodes.rest in
    let coefficients = passed_over (some_atom coefficients_pass f) Coefficient _ depth.rest in
    record { atoms = record { few = coefficients.test; small = (passed_over (some_atom constant_passes f) ConstantLimit None coefficients.rest).test }; nodes = ltb-false nodes_limit (nodes_of f) nodes.test; depth = ltb-false depth_limit (depth_of f) depth.test; room = sets.test }

pub within_none : (full : Bool) (base places : ℕ) (tree : TreeShape) (f : Formula) → IsWithin full base places tree f → PassesLimits full f
within_none full base places tree f h = none_passed full tree f h.none

-- the formula of declared variables is over them
pub given_over : (kept : List KeptSet) → AreFine kept → (full : Bool) (base places : ℕ) (ds : List DeclarationShape) (f : TreeShape) → IsWithin full base places f (core kept (with_declared [] ds) f) → IsOver (length ds) (core kept (with_declared [] ds) f)
given_over kept fine full base places ds f h = subst (λ m. IsOver m (core kept (with_declared [] ds) f)) (length-map ds variable_of) (core_within kept fine (with_declared [] ds) f (within_none full base places f (core kept (with_declared [] ds) f) h).atoms)

-- what the reader gives is what is compiled
pub given_set : (base : ℕ) (kept : List KeptSet) → AreFine kept → (full : Bool) (ds : List DeclarationShape) (f : TreeShape) → IsWithin full base (length ds) f (core kept (with_declared [] ds) f) → IsGiven base (with_declared [] ds) (core kept (with_declared [] ds) f)
given_set base kept fine full ds f within =
    let many : length (with_declared [] ds) ≡ length ds = length-map ds variable_of in
    record {
      over = subst (λ n. IsOver n (core kept (with_declared [] ds) f)) (sym many) (given_over kept fine full base (length ds) ds f within);
      letters = subst (λ n. FitsLetters base (core kept (with_declared [] ds) f) n) (sym many) within.letters;
    }
