-- What is written for a statement, by its meaning. Own.
use Rattle.std.specs.Prelude.{ℕ, ◌+◌, ◌<◌, ◌≤◌, ◌≡◌, ◌⊎◌, List, [], All, length, codes, Bool, true, false, Option, None, Result, Ok, Err, ℤ}
use Rattle.lash_io.specs.Faults.{IsFaultCounted}
use Rattle.lash_model.specs.Formulas.{Sort, Formula}
use Rattle.lash_model.specs.Meaning.{Solves}
use Rattle.lash_model.specs.Tables.{Table}
use Rattle.automaton_texts.specs.Text.{text_of}
use Rattle.formula_core.specs.Variables.{sorts_of}
use Rattle.fraction_codes.specs.Fractions.{IsSmall}
use Rattle.fraction_codes.specs.declared.ratio.Ratio.{Ratio}
use Rattle.lash_io.specs.Sinks.{Holds, HoldsPart}
use Rattle.product_ops.specs.Products.{IsHeavyProduct}
use Rattle.set_answers.specs.Agreement.{Agree, Includes}
use Rattle.set_answers.specs.Differences.{AreWithin, all_tracks}
use Rattle.set_answers.specs.Solving.{IsSolved}
use Rattle.set_answers.specs.Vectors.{IsVectorOf, HasCoarseDenominator}
use Rattle.set_compile.specs.Compiling.{IsRefused}
use Rattle.set_compile.specs.declared.errors.CompileError.TheVariants as compiling
use Rattle.script_names.specs.Kept.{KeptSet, IsKept, kept_place, sets_limit}
use Rattle.statement_meaning.specs.Asking.{Asked, Show, Set, Print, Solve, Test, Equal, Subset, Check, Loop}
use Rattle.statement_answers.specs.Automata.{cells_of, IsGiven, IsAnswer}
use Rattle.statement_answers.specs.Keeping.{kept_cells_limit, cells_of_all, HaveAutomata, OfKept, OfTwo}
use Rattle.matrix_powers.specs.Powers.{HasNoPower}
use Rattle.script_meaning.specs.declared.limits.Which.{Which}
use Rattle.statement_answers.specs.Loops.{pairs_of, HasPairs, IsClosurePassed, IsFitLoop}
use Rattle.statement_answers.specs.declared.settings.Settings.{Settings}
use Rattle.statement_answers.specs.declared.errors.Unanswered.{Unanswered}
use Rattle.statement_answers.specs.declared.errors.Unanswered.TheVariants.{Heavy, NotWeak, NoPower, Closure, KeptCells, Fault, Memory}

-- the text of the set's automaton
pub record IsShownAs (settings : Settings) (vars : List (List ℕ × Sort)) (f : Formula) (piece : List ℕ) : Type 0 where
  pub table : Table
  pub answer : IsAnswer settings vars f table
  pub text : piece ≡ text_of vars table

-- `empty`, or the solution that its automaton fixes
pub record IsSolvedAs (settings : Settings) (vars : List (List ℕ × Sort)) (f : Formula) (piece : List ℕ) : Type 0 where
  pub table : Table
  pub answer : IsAnswer settings vars f table
  pub solved : IsSolved vars table piece

-- one line where the claim holds, and another where it does not
abbrev pub IsDecided : List ℕ → List ℕ → Type 0 → List ℕ → Type 0
IsDecided line other P piece = ((piece ≡ line) × P) ⊎ ((piece ≡ other) × (P → ⊥))

abbrev pub yes_or_no : Type 0 → List ℕ → Type 0
yes_or_no P piece = IsDecided (codes "yes\n") (codes "no\n") P piece

-- of all numerators over one denominator that are the values
abbrev pub IsTested : KeptSet → List Ratio → List ℕ → Type 0
IsTested k values piece = (ns : List ℤ) (d : ℕ) → IsVectorOf values ns d → IsDecided (codes "in\n") (codes "out\n") (Solves (sorts_of k.vars) k.formula ns d) piece

-- the product of the two sets' automata is within the limit of cells
abbrev pub ArePaired : Settings → KeptSet → KeptSet → Type 0
ArePaired settings k l = (t : Table) × ((u : Table) × ((IsAnswer settings k.vars k.formula t × IsAnswer settings l.vars l.formula u) × AreWithin t u settings.cells))

-- or it is not
abbrev pub AreHeavyPairs : Settings → KeptSet → KeptSet → Type 0
AreHeavyPairs settings k l = (t : Table) × ((u : Table) × ((IsAnswer settings k.vars k.formula t × IsAnswer settings l.vars l.formula u) × IsHeavyProduct t u (all_tracks t.tracks) settings.cells))

-- the automata of the kept sets, and that of one more
pub record IsKeptWith (settings : Settings) (kept : List KeptSet) (vars : List (List ℕ × Sort)) (f : Formula) (P : ℕ → Type 0) : Type 0 where
  pub automata : List Table
  pub have : HaveAutomata settings kept automata
  pub table : Table
  pub answer : IsAnswer settings vars f table
  pub cells : P (cells_of_all automata + cells_of table)

-- what is written for a statement, where these sets are kept
abbrev pub IsPieceOf : Settings → List KeptSet → Asked → List ℕ → Type 0
IsPieceOf settings kept (Show vars f) piece = IsShownAs settings vars f piece
IsPieceOf settings kept (Set name vars f) piece = (piece ≡ []) × IsKeptWith settings kept vars f (λ n. n ≤ kept_cells_limit)
IsPieceOf settings kept (Print at) piece = OfKept kept at (λ k. IsShownAs settings k.vars k.formula piece)
IsPieceOf settings kept (Solve at) piece = OfKept kept at (λ k. IsSolvedAs settings k.vars k.formula piece)
IsPieceOf settings kept (Test at values) piece = OfKept kept at (λ k. IsTested k values piece)
IsPieceOf settings kept (Equal i j) piece = OfTwo kept i j (λ k l. yes_or_no (Agree (sorts_of k.vars) k.formula l.formula) piece)
IsPieceOf settings kept (Subset i j) piece = OfTwo kept i j (λ k l. ArePaired settings k l × yes_or_no (Includes (sorts_of k.vars) k.formula l.formula) piece)
IsPieceOf settings kept (Loop name vars body) piece = HasPairs settings.base body × ((piece ≡ []) × IsKeptWith settings kept vars (pairs_of body) (λ n. n ≤ kept_cells_limit))
IsPieceOf settings kept (Check f) piece = ((t : Table) × IsAnswer settings [] f t) × IsDecided (codes "true\n") (codes "false\n") (Solves [] f [] 1) piece

-- the automaton of a set is refused with this answer
abbrev pub IsSetRefused : Settings → List (List ℕ × Sort) → Formula → Unanswered → Type 0
IsSetRefused settings vars f Heavy = IsRefused settings.base settings.cells (sorts_of vars) f compiling.Heavy
IsSetRefused settings vars f (NotWeak sign whole stem accept reject) = IsRefused settings.base settings.cells (sorts_of vars) f (compiling.NotWeak sign whole stem accept reject)
IsSetRefused settings vars f NoPower = ⊥
IsSetRefused settings vars f (Closure which) = ⊥
IsSetRefused settings vars f KeptCells = ⊥
IsSetRefused settings vars f Fault = ⊥
IsSetRefused settings vars f Memory = ⊥

-- the automaton of what is asked is refused with this answer: the formula's, or that of the loop's pairs, or the product of two sets' automata
abbrev pub IsRefusedAsked : Settings → List KeptSet → Asked → Unanswered → Type 0
IsRefusedAsked settings kept (Show vars f) e = IsSetRefused settings vars f e
IsRefusedAsked settings kept (Set name vars f) e = IsSetRefused settings vars f e
IsRefusedAsked settings kept (Print at) e = ⊥
IsRefusedAsked settings kept (Solve at) e = ⊥
IsRefusedAsked settings kept (Test at values) e = ⊥
IsRefusedAsked settings kept (Equal i j) e = ⊥
IsRefusedAsked settings kept (Subset i j) e = (e ≡ Heavy) × OfTwo kept i j (AreHeavyPairs settings)
IsRefusedAsked settings kept (Check f) e = IsSetRefused settings [] f e
IsRefusedAsked settings kept (Loop name vars body) e = HasPairs settings.base body × IsSetRefused settings vars (pairs_of body) e

-- the kept sets would have too many cells with this one
abbrev pub IsTooMuch : Settings → List KeptSet → Asked → Type 0
IsTooMuch settings kept (Show vars f) = ⊥
IsTooMuch settings kept (Set name vars f) = IsKeptWith settings kept vars f (λ n. kept_cells_limit < n)
IsTooMuch settings kept (Print at) = ⊥
IsTooMuch settings kept (Solve at) = ⊥
IsTooMuch settings kept (Test at values) = ⊥
IsTooMuch settings kept (Equal i j) = ⊥
IsTooMuch settings kept (Subset i j) = ⊥
IsTooMuch settings kept (Check f) = ⊥
IsTooMuch settings kept (Loop name vars body) = HasPairs settings.base body × IsKeptWith settings kept vars (pairs_of body) (λ n. kept_cells_limit < n)

-- no power of the loop's matrix comes again
abbrev pub IsPowerless : List KeptSet → Asked → Type 0
IsPowerless kept (Show vars f) = ⊥
IsPowerless kept (Set name vars f) = ⊥
IsPowerless kept (Print at) = ⊥
IsPowerless kept (Solve at) = ⊥
IsPowerless kept (Test at values) = ⊥
IsPowerless kept (Equal i j) = ⊥
IsPowerless kept (Subset i j) = ⊥
IsPowerless kept (Check f) = ⊥
IsPowerless kept (Loop name vars body) = HasNoPower body.matrix

-- the closure of the loop passes this limit first
abbrev pub IsPassedByClosure : Settings → Which → List KeptSet → Asked → Type 0
IsPassedByClosure settings which kept (Show vars f) = ⊥
IsPassedByClosure settings which kept (Set name vars f) = ⊥
IsPassedByClosure settings which kept (Print at) = ⊥
IsPassedByClosure settings which kept (Solve at) = ⊥
IsPassedByClosure settings which kept (Test at values) = ⊥
IsPassedByClosure settings which kept (Equal i j) = ⊥
IsPassedByClosure settings which kept (Subset i j) = ⊥
IsPassedByClosure settings which kept (Check f) = ⊥
IsPassedByClosure settings which kept (Loop name vars body) = IsClosurePassed settings.base body which

-- what answering a statement left of a sink
abbrev pub Answered : Settings → List KeptSet → Asked → Option (List ℕ) → Option (List ℕ) → ℕ → ℕ → {U : Type 0} → Result U Unanswered → Type 0
Answered settings kept asked before after faults_before faults_after (Ok u) = (piece : List ℕ) × (IsPieceOf settings kept asked piece × Holds before after piece)
Answered settings kept asked before after faults_before faults_after (Err Heavy) = IsRefusedAsked settings kept asked Heavy × Holds before after []
Answered settings kept asked before after faults_before faults_after (Err (NotWeak sign whole stem accept reject)) = IsRefusedAsked settings kept asked (NotWeak sign whole stem accept reject) × Holds before after []
Answered settings kept asked before after faults_before faults_after (Err NoPower) = IsPowerless kept asked × Holds before after []
Answered settings kept asked before after faults_before faults_after (Err (Closure which)) = IsPassedByClosure settings which kept asked × Holds before after []
Answered settings kept asked before after faults_before faults_after (Err KeptCells) = IsTooMuch settings kept asked × Holds before after []
Answered settings kept asked before after faults_before faults_after (Err Fault) = IsFaultCounted faults_before faults_after × ((piece : List ℕ) × (IsPieceOf settings kept asked piece × HoldsPart before after piece))
Answered settings kept asked before after faults_before faults_after (Err Memory) = Holds before after []

-- one value for each variable, with a common denominator of at most 65,536
pub record FitsVariables (k : KeptSet) (values : List Ratio) : Type 0 where
  pub count : length values ≡ length k.vars
  pub small : All IsSmall values
  pub coarse : HasCoarseDenominator values

-- a statement whose names are right and that passes no limit
abbrev pub IsFit : Settings → List KeptSet → Asked → Type 0
IsFit settings kept (Show vars f) = IsGiven settings.base vars f
IsFit settings kept (Set name vars f) = (IsGiven settings.base vars f × IsKept (record { name = name; vars = vars; formula = f })) × ((kept_place kept name ≡ None) × (length kept < sets_limit))
IsFit settings kept (Print at) = at < length kept
IsFit settings kept (Solve at) = at < length kept
IsFit settings kept (Test at values) = OfKept kept at (λ k. FitsVariables k values)
IsFit settings kept (Equal i j) = OfTwo kept i j (λ k l. sorts_of k.vars ≡ sorts_of l.vars)
IsFit settings kept (Subset i j) = OfTwo kept i j (λ k l. sorts_of k.vars ≡ sorts_of l.vars)
IsFit settings kept (Check f) = IsGiven settings.base [] f
IsFit settings kept (Loop name vars body) = IsFitLoop kept name vars body

-- the line was put, or a part of it and a fault was counted
abbrev pub IsSaid : List ℕ → Option (List ℕ) → Option (List ℕ) → ℕ → ℕ → {U : Type 0} → Result U Unanswered → Type 0
IsSaid line before after faults_before faults_after (Ok u) = Holds before after line
IsSaid line before after faults_before faults_after (Err Heavy) = ⊥
IsSaid line before after faults_before faults_after (Err (NotWeak sign whole stem accept reject)) = ⊥
IsSaid line before after faults_before faults_after (Err NoPower) = ⊥
IsSaid line before after faults_before faults_after (Err (Closure which)) = ⊥
IsSaid line before after faults_before faults_after (Err KeptCells) = ⊥
IsSaid line before after faults_before faults_after (Err Fault) = IsFaultCounted faults_before faults_after × HoldsPart before after line
IsSaid line before after faults_before faults_after (Err Memory) = ⊥

-- the same of a statement that writes nothing
abbrev pub KeepsSilent : Settings → List KeptSet → Asked → {U : Type 0} → Result U Unanswered → Type 0
KeepsSilent settings kept asked (Ok u) = IsPieceOf settings kept asked []
KeepsSilent settings kept asked (Err Heavy) = IsRefusedAsked settings kept asked Heavy
KeepsSilent settings kept asked (Err (NotWeak sign whole stem accept reject)) = IsRefusedAsked settings kept asked (NotWeak sign whole stem accept reject)
KeepsSilent settings kept asked (Err NoPower) = IsPowerless kept asked
KeepsSilent settings kept asked (Err (Closure which)) = IsPassedByClosure settings which kept asked
KeepsSilent settings kept asked (Err KeptCells) = IsTooMuch settings kept asked
KeepsSilent settings kept asked (Err Fault) = ⊥
KeepsSilent settings kept asked (Err Memory) = Unit

-- why a set has no automaton
abbrev pub HasNoAutomaton : Settings → List (List ℕ × Sort) → Formula → Unanswered → Type 0
HasNoAutomaton settings vars f Heavy = IsSetRefused settings vars f Heavy
HasNoAutomaton settings vars f (NotWeak sign whole stem accept reject) = IsSetRefused settings vars f (NotWeak sign whole stem accept reject)
HasNoAutomaton settings vars f NoPower = ⊥
HasNoAutomaton settings vars f (Closure which) = ⊥
HasNoAutomaton settings vars f KeptCells = ⊥
HasNoAutomaton settings vars f Fault = ⊥
HasNoAutomaton settings vars f Memory = Unit {0}

-- what a statement asks can be answered: no step of its set is refused, its set fits beside the kept ones, its loop has a power and a closure
-- within the limits
abbrev pub IsAnswerable : Settings → List KeptSet → Asked → Type 0
IsAnswerable settings kept (Show vars f) = (t : Table) × IsAnswer settings vars f t
IsAnswerable settings kept (Set name vars f) = IsKeptWith settings kept vars f (λ n. n ≤ kept_cells_limit)
IsAnswerable settings kept (Print at) = Unit {0}
IsAnswerable settings kept (Solve at) = Unit {0}
IsAnswerable settings kept (Test at values) = Unit {0}
IsAnswerable settings kept (Equal i j) = Unit {0}
IsAnswerable settings kept (Subset i j) = OfTwo kept i j (ArePaired settings)
IsAnswerable settings kept (Check f) = (t : Table) × IsAnswer settings [] f t
IsAnswerable settings kept (Loop name vars body) = HasPairs settings.base body × IsKeptWith settings kept vars (pairs_of body) (λ n. n ≤ kept_cells_limit)

-- why it is not answered, if that rests on what is asked
abbrev pub IsUnanswered : Settings → List KeptSet → Asked → Unanswered → Type 0
IsUnanswered settings kept asked Heavy = IsRefusedAsked settings kept asked Heavy
IsUnanswered settings kept asked (NotWeak sign whole stem accept reject) = IsRefusedAsked settings kept asked (NotWeak sign whole stem accept reject)
IsUnanswered settings kept asked NoPower = IsPowerless kept asked
IsUnanswered settings kept asked (Closure which) = IsPassedByClosure settings which kept asked
IsUnanswered settings kept asked KeptCells = IsTooMuch settings kept asked
IsUnanswered settings kept asked Fault = ⊥
IsUnanswered settings kept asked Memory = ⊥

-- `print` and `equal` work on what is held, and take no memory
abbrev pub takes_memory : Asked → Bool
takes_memory (Show vars f) = true
takes_memory (Set name vars f) = true
takes_memory (Print at) = false
takes_memory (Solve at) = true
takes_memory (Test at values) = true
takes_memory (Equal i j) = false
takes_memory (Subset i j) = true
takes_memory (Check f) = true
takes_memory (Loop name vars body) = true
