-- A statement that can be answered has no cause for a refusal, and no statement has two. The laws of the crates below are given.
use Rattle.std.proofs.Common.{◌≡◌, ℕ, ◌+◌, ◌≤◌, ◌<◌, List, [], ◌∷◌, arith, refl, sym, ap, ap₂, ◌∙◌, subst, false, Option, Some, None}
use Rattle.parser_laws.proofs.Parts.{same_some, not_none}
use Rattle.lash_model.specs.Formulas.{Sort, Formula}
use Rattle.lash_model.specs.Tables.{Table}
use Rattle.formula_core.specs.FewLetters.{FitsLetters}
use Rattle.formula_core.specs.Variables.{sorts_of}
use Rattle.term_substitution.specs.Limits.{first_passed}
use Rattle.term_substitution.specs.declared.errors.FormError.{FormError}
use Rattle.term_substitution.specs.declared.errors.FormError.TheVariants as form
use Rattle.matrix_powers.specs.Matrices.{Square}
use Rattle.matrix_powers.specs.Powers.{HasNoPower, IsLeastPower}
use Rattle.loop_laws.specs.Turns.{Body}
use Rattle.loop_laws.specs.Closures.{closure_of, count_place}
use Rattle.product_ops.specs.Products.{IsHeavyProduct}
use Rattle.product_ops.specs.declared.operation.Op.TheVariants.{AndNot}
use Rattle.set_answers.specs.Differences.{all_tracks}
use Rattle.set_compile.specs.Compiling.{IsCompiled, IsRefused}
use Rattle.set_compile.specs.declared.errors.CompileError.{CompileError}
use Rattle.set_compile.specs.declared.errors.CompileError.TheVariants as compiling
use Rattle.set_compile.proofs.Refusing.{PairsExclude}
use Rattle.script_names.specs.Kept.{KeptSet}
use Rattle.script_meaning.specs.declared.limits.Which.{Which}
use Rattle.script_meaning.specs.declared.limits.Which.TheVariants as limit
use Rattle.statement_meaning.specs.Asking.{Asked, Show, Set, Print, Solve, Test, Equal, Subset, Check, Loop}
use Rattle.statement_answers.specs.Automata.{cells_of, IsAnswer}
use Rattle.statement_answers.specs.Keeping.{kept_cells_limit, cells_of_all, HaveAutomata, OfTwo}
use Rattle.statement_answers.specs.Loops.{pairs_of, HasPairs, ClosurePasses, IsClosurePassed}
use Rattle.statement_answers.specs.Pieces.{ArePaired, AreHeavyPairs, IsKeptWith, IsPieceOf, IsSetRefused, IsRefusedAsked, IsTooMuch, IsPowerless, IsPassedByClosure, IsAnswerable, IsUnanswered}
use Rattle.statement_answers.specs.declared.settings.Settings.{Settings}
use Rattle.statement_answers.specs.declared.errors.Unanswered.{Unanswered}
use Rattle.statement_answers.specs.declared.errors.Unanswered.TheVariants.{Heavy, NotWeak, NoPower, Closure, KeptCells, Fault, Memory}

-- what the crates below say of tables and powers
pub record Laws : Type 0 where
  pub refused : (base limit : ℕ) (sorts : List Sort) (f : Formula) (e : CompileError) (t : Table) → IsRefused base limit sorts f e → IsCompiled base limit sorts f t → ⊥
  pub one_refusal : (base limit : ℕ) (sorts : List Sort) (f : Formula) (e k : CompileError) → IsRefused base limit sorts f e → IsRefused base limit sorts f k → e ≡ k
  pub one_table : (base limit : ℕ) (sorts : List Sort) (f : Formula) (t u : Table) → IsCompiled base limit sorts f t → IsCompiled base limit sorts f u → t ≡ u
  pub heavy_pairs : PairsExclude
  pub one_power : (a : Square) (p q : ℕ) → IsLeastPower a p → IsLeastPower a q → p ≡ q
  pub powerless : (a : Square) (p : ℕ) → IsLeastPower a p → HasNoPower a → ⊥

one_answer : (settings : Settings) → Laws → (vars : List (List ℕ × Sort)) (f : Formula) (t u : Table) → IsAnswer settings vars f t → IsAnswer settings vars f u → t ≡ u
one_answer settings l vars f t u h k = l.one_table settings.base settings.cells (sorts_of vars) f t u h.made k.made

-- how a statement is answered whose formula is not compiled
abbrev answer_of : CompileError → Unanswered
answer_of compiling.Heavy = Heavy
answer_of (compiling.NotWeak sign whole stem accept reject) = NotWeak sign whole stem accept reject
answer_of compiling.Memory = Memory

-- why a set is refused with this answer
record Refusal (settings : Settings) (vars : List (List ℕ × Sort)) (f : Formula) (e : Unanswered) : Type 0 where
  pub error : CompileError
  pub is : e ≡ answer_of error
  pub refused : IsRefused settings.base settings.cells (sorts_of vars) f error

refusal : (settings : Settings) (vars : List (List ℕ × Sort)) (f : Formula) (e : Unanswered) → IsSetRefused settings vars f e → Refusal settings vars f e
refusal settings vars f Heavy h = record { error = compiling.Heavy; is = refl; refused = h }
refusal settings vars f (NotWeak sign whole stem accept reject) h = record { error = compiling.NotWeak sign whole stem accept reject; is = refl; refused = h }
refusal settings vars f NoPower h = absurd h
refusal settings vars f (Closure which) h = absurd h
refusal settings vars f KeptCells h = absurd h
refusal settings vars f Fault h = absurd h
refusal settings vars f Memory h = absurd h

not_refused : (settings : Settings) → Laws → (vars : List (List ℕ × Sort)) (f : Formula) (t : Table) (e : Unanswered) → IsAnswer settings vars f t → IsSetRefused settings vars f e → ⊥
not_refused settings l vars f t e h k =
    let r = refusal settings vars f e k in
    l.refused settings.base settings.cells (sorts_of vars) f r.error t r.refused h.made

one_refused : (settings : Settings) → Laws → (vars : List (List ℕ × Sort)) (f : Formula) (u v : Unanswered) → IsSetRefused settings vars f u → IsSetRefused settings vars f v → u ≡ v
one_refused settings l vars f u v h k =
    let r = refusal settings vars f u h in
    let s = refusal settings vars f v k in
    r.is ∙ ap answer_of (l.one_refusal settings.base settings.cells (sorts_of vars) f r.error s.error r.refused s.refused) ∙ sym s.is

one_automata : (settings : Settings) → Laws → (kept : List KeptSet) (ts us : List Table) → HaveAutomata settings kept ts → HaveAutomata settings kept us → ts ≡ us
one_automata settings l [] [] [] h k = refl
one_automata settings l [] [] (u ∷ us) h k = absurd k
one_automata settings l [] (t ∷ ts) us h k = absurd h
one_automata settings l (s ∷ ks) [] us h k = absurd h
one_automata settings l (s ∷ ks) (t ∷ ts) [] h k = absurd k
one_automata settings l (s ∷ ks) (t ∷ ts) (u ∷ us) h k = ap₂ (λ x xs. x ∷ xs) (one_answer settings l s.vars s.formula t u h.0 k.0) (one_automata settings l ks ts us h.1 k.1)

-- the kept sets have so many cells with one more set, whatever automata are taken
kept_apart : (settings : Settings) → Laws → (kept : List KeptSet) (vars : List (List ℕ × Sort)) (f : Formula) → IsKeptWith settings kept vars f (λ n. n ≤ kept_cells_limit) → IsKeptWith settings kept vars f (λ n. kept_cells_limit < n) → ⊥
kept_apart settings l kept vars f h k =
    apart (cells_of_all h.automata + cells_of h.table) (cells_of_all k.automata + cells_of k.table) h.cells k.cells
    (ap₂ (λ x y. x + y) (ap cells_of_all (one_automata settings l kept h.automata k.automata h.have k.have)) (ap cells_of (one_answer settings l vars f h.table k.table h.answer k.answer)))
  where
    apart : (m n : ℕ) → m ≤ kept_cells_limit → kept_cells_limit < n → m ≡ n → ⊥
    apart m n low high is = absurd (omega (arith, low, high, is))

-- the product of two sets is within the limit or not
pairs_apart : (settings : Settings) → Laws → (k l : KeptSet) → ArePaired settings k l → AreHeavyPairs settings k l → ⊥
pairs_apart settings laws k l (t, (u, ((a, b), within))) (v, (w, ((c, d), heavy))) =
    laws.heavy_pairs AndNot t u (all_tracks t.tracks) settings.cells within.table
    (subst (λ x. IsHeavyProduct x u (all_tracks x.tracks) settings.cells) (one_answer settings laws k.vars k.formula v t c a)
    (subst (λ x. IsHeavyProduct v x (all_tracks v.tracks) settings.cells) (one_answer settings laws l.vars l.formula w u d b) heavy))
    within.pairs

two_apart : (settings : Settings) → Laws → (kept : List KeptSet) (i j : ℕ) → OfTwo kept i j (ArePaired settings) → OfTwo kept i j (AreHeavyPairs settings) → ⊥
two_apart settings laws kept i j (k, (at_k, (l, (at_l, paired)))) (m, (at_m, (n, (at_n, heavy)))) = pairs_apart settings laws k l paired (subst (λ x. AreHeavyPairs settings x l) (same_some m k (sym at_m ∙ at_k)) (subst (λ x. AreHeavyPairs settings m x) (same_some n l (sym at_n ∙ at_l)) heavy))

-- a closure that is within the limits passes none
passes_none : (base : ℕ) (f : Formula) (places : ℕ) (which : Which) → first_passed f ≡ None → FitsLetters base f places → ClosurePasses base f places which → ⊥
passes_none base f places limit.StatementBytes e fits h = absurd h
passes_none base f places limit.ScriptBytes e fits h = absurd h
passes_none base f places limit.Nesting e fits h = absurd h
passes_none base f places limit.Literal e fits h = absurd h
passes_none base f places limit.LoopVariables e fits h = absurd h
passes_none base f places limit.Sets e fits h = absurd h
passes_none base f places limit.Nodes e fits h = not_none form.Nodes (sym e ∙ h)
passes_none base f places limit.Depth e fits h = not_none form.Depth (sym e ∙ h)
passes_none base f places limit.Coefficient e fits h = not_none form.Coefficient (sym e ∙ h)
passes_none base f places limit.Constant e fits h = not_none form.Constant (sym e ∙ h)
passes_none base f places limit.Letters e fits h = h.1 fits
passes_none base f places limit.Denominator e fits h = absurd h
passes_none base f places limit.KeptCells e fits h = absurd h

closure_apart : (base : ℕ) → Laws → (body : Body) (which : Which) → HasPairs base body → IsClosurePassed base body which → ⊥
closure_apart base l body which h k =
    let is : pairs_of body ≡ closure_of false body k.power = h.same ∙ ap (λ p. closure_of false body p) (l.one_power body.matrix h.power k.power h.least k.least) in
    passes_none base (closure_of false body k.power) (count_place body) which (subst (λ f. first_passed f ≡ None) is h.within) (subst (λ f. FitsLetters base f (count_place body)) is h.letters) k.passes

-- the limit that a closure passes first
abbrev which_of : Option FormError → Which
which_of None = limit.Letters
which_of (Some form.Nodes) = limit.Nodes
which_of (Some form.Depth) = limit.Depth
which_of (Some form.Coefficient) = limit.Coefficient
which_of (Some form.Constant) = limit.Constant
which_of (Some form.Memory) = limit.Letters

first_which : (base : ℕ) (f : Formula) (places : ℕ) (which : Which) → ClosurePasses base f places which → which ≡ which_of (first_passed f)
first_which base f places limit.StatementBytes h = absurd h
first_which base f places limit.ScriptBytes h = absurd h
first_which base f places limit.Nesting h = absurd h
first_which base f places limit.Literal h = absurd h
first_which base f places limit.LoopVariables h = absurd h
first_which base f places limit.Sets h = absurd h
first_which base f places limit.Nodes h = sym (ap which_of h)
first_which base f places limit.Depth h = sym (ap which_of h)
first_which base f places limit.Coefficient h = sym (ap which_of h)
first_which base f places limit.Constant h = sym (ap which_of h)
first_which base f places limit.Letters h = sym (ap which_of h.0)
first_which base f places limit.Denominator h = absurd h
first_which base f places limit.KeptCells h = absurd h

one_closure : (base : ℕ) → Laws → (body : Body) (v w : Which) → IsClosurePassed base body v → IsClosurePassed base body w → v ≡ w
one_closure base l body v w h k =
    first_which base (closure_of false body h.power) (count_place body) v h.passes
    ∙ ap (λ p. which_of (first_passed (closure_of false body p))) (l.one_power body.matrix h.power k.power h.least k.least)
    ∙ sym (first_which base (closure_of false body k.power) (count_place body) w k.passes)

-- a statement that has its piece can be answered
pub piece_answerable : (settings : Settings) (kept : List KeptSet) (asked : Asked) (piece : List ℕ) → IsPieceOf settings kept asked piece → IsAnswerable settings kept asked
piece_answerable settings kept (Show vars f) piece h = (h.table, h.answer)
piece_answerable settings kept (Set name vars f) piece h = h.1
piece_answerable settings kept (Print at) piece h = tt
piece_answerable settings kept (Solve at) piece h = tt
piece_answerable settings kept (Test at values) piece h = tt
piece_answerable settings kept (Equal i j) piece h = tt
piece_answerable settings kept (Subset i j) piece h = (h.0, (h.1.0, (h.1.1.0, (h.1.1.1.0, h.1.1.1.1.0))))
piece_answerable settings kept (Check f) piece h = h.0
piece_answerable settings kept (Loop name vars body) piece h = (h.0, h.1.1)

-- a statement that can be answered has no cause: none of its steps is refused
refused_none : (settings : Settings) → Laws → (kept : List KeptSet) (asked : Asked) (u : Unanswered) → IsAnswerable settings kept asked → IsRefusedAsked settings kept asked u → ⊥
refused_none settings l kept (Show vars f) u h k = not_refused settings l vars f h.0 u h.1 k
refused_none settings l kept (Set name vars f) u h k = not_refused settings l vars f h.table u h.answer k
refused_none settings l kept (Print at) u h k = k
refused_none settings l kept (Solve at) u h k = k
refused_none settings l kept (Test at values) u h k = k
refused_none settings l kept (Equal i j) u h k = k
refused_none settings l kept (Subset i j) u h k = two_apart settings l kept i j h k.1
refused_none settings l kept (Check f) u h k = not_refused settings l [] f h.0 u h.1 k
refused_none settings l kept (Loop name vars body) u h k = not_refused settings l vars (pairs_of body) h.1.table u h.1.answer k.1

-- it has powers
not_powerless : (settings : Settings) → Laws → (kept : List KeptSet) (asked : Asked) → IsAnswerable settings kept asked → IsPowerless kept asked → ⊥
not_powerless settings l kept (Show vars f) h k = k
not_powerless settings l kept (Set name vars f) h k = k
not_powerless settings l kept (Print at) h k = k
not_powerless settings l kept (Solve at) h k = k
not_powerless settings l kept (Test at values) h k = k
not_powerless settings l kept (Equal i j) h k = k
not_powerless settings l kept (Subset i j) h k = k
not_powerless settings l kept (Check f) h k = k
not_powerless settings l kept (Loop name vars body) h k = l.powerless body.matrix h.0.power h.0.least k

-- its closure is within the limits
not_passed : (settings : Settings) → Laws → (kept : List KeptSet) (asked : Asked) (which : Which) → IsAnswerable settings kept asked → IsPassedByClosure settings which kept asked → ⊥
not_passed settings l kept (Show vars f) which h k = k
not_passed settings l kept (Set name vars f) which h k = k
not_passed settings l kept (Print at) which h k = k
not_passed settings l kept (Solve at) which h k = k
not_passed settings l kept (Test at values) which h k = k
not_passed settings l kept (Equal i j) which h k = k
not_passed settings l kept (Subset i j) which h k = k
not_passed settings l kept (Check f) which h k = k
not_passed settings l kept (Loop name vars body) which h k = closure_apart settings.base l body which h.0 k

-- the kept sets are within the limit with it
not_too_much : (settings : Settings) → Laws → (kept : List KeptSet) (asked : Asked) → IsAnswerable settings kept asked → IsTooMuch settings kept asked → ⊥
not_too_much settings l kept (Show vars f) h k = k
not_too_much settings l kept (Set name vars f) h k = kept_apart settings l kept vars f h k
not_too_much settings l kept (Print at) h k = k
not_too_much settings l kept (Solve at) h k = k
not_too_much settings l kept (Test at values) h k = k
not_too_much settings l kept (Equal i j) h k = k
not_too_much settings l kept (Subset i j) h k = k
not_too_much settings l kept (Check f) h k = k
not_too_much settings l kept (Loop name vars body) h k = kept_apart settings l kept vars (pairs_of body) h.1 k.1

pub not_unanswered : (settings : Settings) → Laws → (kept : List KeptSet) (asked : Asked) (u : Unanswered) → IsAnswerable settings kept asked → IsUnanswered settings kept asked u → ⊥
not_unanswered settings l kept asked Heavy h k = refused_none settings l kept asked Heavy h k
not_unanswered settings l kept asked (NotWeak sign whole stem accept reject) h k = refused_none settings l kept asked (NotWeak sign whole stem accept reject) h k
not_unanswered settings l kept asked NoPower h k = not_powerless settings l kept asked h k
not_unanswered settings l kept asked (Closure which) h k = not_passed settings l kept asked which h k
not_unanswered settings l kept asked KeptCells h k = not_too_much settings l kept asked h k
not_unanswered settings l kept asked Fault h k = k
not_unanswered settings l kept asked Memory h k = k

-- no two causes: a step is refused in one way
refused_once : (settings : Settings) → Laws → (kept : List KeptSet) (asked : Asked) (u v : Unanswered) → IsRefusedAsked settings kept asked u → IsRefusedAsked settings kept asked v → u ≡ v
refused_once settings l kept (Show vars f) u v h k = one_refused settings l vars f u v h k
refused_once settings l kept (Set name vars f) u v h k = one_refused settings l vars f u v h k
refused_once settings l kept (Print at) u v h k = absurd h
refused_once settings l kept (Solve at) u v h k = absurd h
refused_once settings l kept (Test at values) u v h k = absurd h
refused_once settings l kept (Equal i j) u v h k = absurd h
refused_once settings l kept (Subset i j) u v h k = h.0 ∙ sym k.0
refused_once settings l kept (Check f) u v h k = one_refused settings l [] f u v h k
refused_once settings l kept (Loop name vars body) u v h k = one_refused settings l vars (pairs_of body) u v h.1 k.1

-- a step is refused, and there is no power
refused_powerless : (settings : Settings) → Laws → (kept : List KeptSet) (asked : Asked) (u : Unanswered) → IsRefusedAsked settings kept asked u → IsPowerless kept asked → ⊥
refused_powerless settings l kept (Show vars f) u h k = k
refused_powerless settings l kept (Set name vars f) u h k = k
refused_powerless settings l kept (Print at) u h k = k
refused_powerless settings l kept (Solve at) u h k = k
refused_powerless settings l kept (Test at values) u h k = k
refused_powerless settings l kept (Equal i j) u h k = k
refused_powerless settings l kept (Subset i j) u h k = k
refused_powerless settings l kept (Check f) u h k = k
refused_powerless settings l kept (Loop name vars body) u h k = l.powerless body.matrix h.0.power h.0.least k

refused_passed : (settings : Settings) → Laws → (kept : List KeptSet) (asked : Asked) (u : Unanswered) (which : Which) → IsRefusedAsked settings kept asked u
    → IsPassedByClosure settings which kept asked → ⊥
refused_passed settings l kept (Show vars f) u which h k = k
refused_passed settings l kept (Set name vars f) u which h k = k
refused_passed settings l kept (Print at) u which h k = k
refused_passed settings l kept (Solve at) u which h k = k
refused_passed settings l kept (Test at values) u which h k = k
refused_passed settings l kept (Equal i j) u which h k = k
refused_passed settings l kept (Subset i j) u which h k = k
refused_passed settings l kept (Check f) u which h k = k
refused_passed settings l kept (Loop name vars body) u which h k = closure_apart settings.base l body which h.0 k

refused_too_much : (settings : Settings) → Laws → (kept : List KeptSet) (asked : Asked) (u : Unanswered) → IsRefusedAsked settings kept asked u → IsTooMuch settings kept asked → ⊥
refused_too_much settings l kept (Show vars f) u h k = k
refused_too_much settings l kept (Set name vars f) u h k = not_refused settings l vars f k.table u k.answer h
refused_too_much settings l kept (Print at) u h k = k
refused_too_much settings l kept (Solve at) u h k = k
refused_too_much settings l kept (Test at values) u h k = k
refused_too_much settings l kept (Equal i j) u h k = k
refused_too_much settings l kept (Subset i j) u h k = k
refused_too_much settings l kept (Check f) u h k = k
refused_too_much settings l kept (Loop name vars body) u h k = not_refused settings l vars (pairs_of body) k.1.table u k.1.answer h.1

powerless_passed : (settings : Settings) → Laws → (kept : List KeptSet) (asked : Asked) (which : Which) → IsPowerless kept asked → IsPassedByClosure settings which kept asked → ⊥
powerless_passed settings l kept (Show vars f) which h k = k
powerless_passed settings l kept (Set name vars f) which h k = k
powerless_passed settings l kept (Print at) which h k = k
powerless_passed settings l kept (Solve at) which h k = k
powerless_passed settings l kept (Test at values) which h k = k
powerless_passed settings l kept (Equal i j) which h k = k
powerless_passed settings l kept (Subset i j) which h k = k
powerless_passed settings l kept (Check f) which h k = k
powerless_passed settings l kept (Loop name vars body) which h k = l.powerless body.matrix k.power k.least h

powerless_too_much : (settings : Settings) → Laws → (kept : List KeptSet) (asked : Asked) → IsPowerless kept asked → IsTooMuch settings kept asked → ⊥
powerless_too_much settings l kept (Show vars f) h k = h
powerless_too_much settings l kept (Set name vars f) h k = h
powerless_too_much settings l kept (Print at) h k = h
powerless_too_much settings l kept (Solve at) h k = h
powerless_too_much settings l kept (Test at values) h k = h
powerless_too_much settings l kept (Equal i j) h k = h
powerless_too_much settings l kept (Subset i j) h k = h
powerless_too_much settings l kept (Check f) h k = h
powerless_too_much settings l kept (Loop name vars body) h k = l.powerless body.matrix k.0.power k.0.least h

passed_too_much : (settings : Settings) → Laws → (kept : List KeptSet) (asked : Asked) (which : Which) → IsPassedByClosure settings which kept asked → IsTooMuch settings kept asked → ⊥
passed_too_much settings l kept (Show vars f) which h k = h
passed_too_much settings l kept (Set name vars f) which h k = h
passed_too_much settings l kept (Print at) which h k = h
passed_too_much settings l kept (Solve at) which h k = h
passed_too_much settings l kept (Test at values) which h k = h
passed_too_much settings l kept (Equal i j) which h k = h
passed_too_much settings l kept (Subset i j) which h k = h
passed_too_much settings l kept (Check f) which h k = h
passed_too_much settings l kept (Loop name vars body) which h k = closure_apart settings.base l body which k.0 h

one_passed : (settings : Settings) → Laws → (kept : List KeptSet) (asked : Asked) (v w : Which) → IsPassedByClosure settings v kept asked → IsPassedByClosure settings w kept asked → v ≡ w
one_passed settings l kept (Show vars f) v w h k = absurd h
one_passed settings l kept (Set name vars f) v w h k = absurd h
one_passed settings l kept (Print at) v w h k = absurd h
one_passed settings l kept (Solve at) v w h k = absurd h
one_passed settings l kept (Test at values) v w h k = absurd h
one_passed settings l kept (Equal i j) v w h k = absurd h
one_passed settings l kept (Subset i j) v w h k = absurd h
one_passed settings l kept (Check f) v w h k = absurd h
one_passed settings l kept (Loop name vars body) v w h k = one_closure settings.base l body v w h k

pub one_cause : (settings : Settings) → Laws → (kept : List KeptSet) (asked : Asked) (u v : Unanswered) → IsUnanswered settings kept asked u → IsUnanswered settings kept asked v → u ≡ v
one_cause settings l kept asked Heavy Heavy h k = refl
one_cause settings l kept asked Heavy (NotWeak t z w b q) h k = refused_once settings l kept asked Heavy (NotWeak t z w b q) h k
one_cause settings l kept asked Heavy NoPower h k = absurd (refused_powerless settings l kept asked Heavy h k)
one_cause settings l kept asked Heavy (Closure j) h k = absurd (refused_passed settings l kept asked Heavy j h k)
one_cause settings l kept asked Heavy KeptCells h k = absurd (refused_too_much settings l kept asked Heavy h k)
one_cause settings l kept asked Heavy Fault h k = absurd k
one_cause settings l kept asked Heavy Memory h k = absurd k
one_cause settings l kept asked (NotWeak s x y a r) Heavy h k = refused_once settings l kept asked (NotWeak s x y a r) Heavy h k
one_cause settings l kept asked (NotWeak s x y a r) (NotWeak t z w b q) h k = refused_once settings l kept asked (NotWeak s x y a r) (NotWeak t z w b q) h k
one_cause settings l kept asked (NotWeak s x y a r) NoPower h k = absurd (refused_powerless settings l kept asked (NotWeak s x y a r) h k)
one_cause settings l kept asked (NotWeak s x y a r) (Closure j) h k = absurd (refused_passed settings l kept asked (NotWeak s x y a r) j h k)
one_cause settings l kept asked (NotWeak s x y a r) KeptCells h k = absurd (refused_too_much settings l kept asked (NotWeak s x y a r) h k)
one_cause settings l kept asked (NotWeak s x y a r) Fault h k = absurd k
one_cause settings l kept asked (NotWeak s x y a r) Memory h k = absurd k
one_cause settings l kept asked NoPower Heavy h k = absurd (refused_powerless settings l kept asked Heavy k h)
one_cause settings l kept asked NoPower (NotWeak t z w b q) h k = absurd (refused_powerless settings l kept asked (NotWeak t z w b q) k h)
one_cause settings l kept asked NoPower NoPower h k = refl
one_cause settings l kept asked NoPower (Closure j) h k = absurd (powerless_passed settings l kept asked j h k)
one_cause settings l kept asked NoPower KeptCells h k = absurd (powerless_too_much settings l kept asked h k)
one_cause settings l kept asked NoPower Fault h k = absurd k
one_cause settings l kept asked NoPower Memory h k = absurd k
one_cause settings l kept asked (Closure i) Heavy h k = absurd (refused_passed settings l kept asked Heavy i k h)
one_cause settings l kept asked (Closure i) (NotWeak t z w b q) h k = absurd (refused_passed settings l kept asked (NotWeak t z w b q) i k h)
one_cause settings l kept asked (Closure i) NoPower h k = absurd (powerless_passed settings l kept asked i k h)
one_cause settings l kept asked (Closure i) (Closure j) h k = ap Closure (one_passed settings l kept asked i j h k)
one_cause settings l kept asked (Closure i) KeptCells h k = absurd (passed_too_much settings l kept asked i h k)
one_cause settings l kept asked (Closure i) Fault h k = absurd k
one_cause settings l kept asked (Closure i) Memory h k = absurd k
one_cause settings l kept asked KeptCells Heavy h k = absurd (refused_too_much settings l kept asked Heavy k h)
one_cause settings l kept asked KeptCells (NotWeak t z w b q) h k = absurd (refused_too_much settings l kept asked (NotWeak t z w b q) k h)
one_cause settings l kept asked KeptCells NoPower h k = absurd (powerless_too_much settings l kept asked k h)
one_cause settings l kept asked KeptCells (Closure j) h k = absurd (passed_too_much settings l kept asked j k h)
one_cause settings l kept asked KeptCells KeptCells h k = refl
one_cause settings l kept asked KeptCells Fault h k = absurd k
one_cause settings l kept asked KeptCells Memory h k = absurd k
one_cause settings l kept asked Fault v h k = absurd h
one_cause settings l kept asked Memory v h k = absurd h
