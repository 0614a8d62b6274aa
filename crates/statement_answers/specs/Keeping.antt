-- Kept sets beside their automata. Own.
use Rattle.std.specs.Prelude.{ℕ, ◌+◌, ◌≡◌, ◌≤◌, List, [], ◌∷◌, ◌++◌, slice_get, Some}
use Rattle.lash_model.specs.Tables.{Table}
use Rattle.canon_text.specs.declared.header.Header.{Header}
use Rattle.script_names.specs.Kept.{KeptSet, sets_of}
use Rattle.script_names.specs.declared.kept.Definition.{Definition}
use Rattle.statement_meaning.specs.Asking.{Asked, Show, Set, Print, Solve, Test, Equal, Subset, Check, Loop}
use Rattle.statement_answers.specs.Loops.{pairs_of}
use Rattle.statement_answers.specs.declared.library.Held.{Held}
use Rattle.statement_answers.specs.Automata.{IsGiven, IsAnswer, cells_of}
use Rattle.statement_answers.specs.declared.settings.Settings.{Settings}

-- the greatest number of cells of all kept sets together
abbrev pub kept_cells_limit : ℕ
kept_cells_limit = 67108864

abbrev pub cells_of_all : List Table → ℕ
cells_of_all [] = 0
cells_of_all (t ∷ ts) = cells_of t + cells_of_all ts

-- each kept set has its automaton
abbrev pub HaveAutomata : Settings → List KeptSet → List Table → Type 0
HaveAutomata settings [] [] = Unit
HaveAutomata settings [] (t ∷ ts) = ⊥
HaveAutomata settings (k ∷ ks) [] = ⊥
HaveAutomata settings (k ∷ ks) (t ∷ ts) = IsAnswer settings k.vars k.formula t × HaveAutomata settings ks ts

-- the kept set at a place
abbrev pub OfKept : List KeptSet → ℕ → (KeptSet → Type 0) → Type 0
OfKept kept at P = (k : KeptSet) × ((slice_get kept at ≡ Some k) × P k)

-- two kept sets
abbrev pub OfTwo : List KeptSet → ℕ → ℕ → (KeptSet → KeptSet → Type 0) → Type 0
OfTwo kept i j P = OfKept kept i (λ k. OfKept kept j (P k))

-- the kept sets behind a statement: only `set` and `loop` keep one
abbrev pub grown : List KeptSet → Asked → List KeptSet
grown kept (Show vars f) = kept
grown kept (Set name vars f) = kept ++ record { name = name; vars = vars; formula = f } ∷ []
grown kept (Print at) = kept
grown kept (Solve at) = kept
grown kept (Test at values) = kept
grown kept (Equal i j) = kept
grown kept (Subset i j) = kept
grown kept (Check f) = kept
grown kept (Loop name vars body) = kept ++ record { name = name; vars = vars; formula = pairs_of body } ∷ []

-- a kept set with what is held of it: its header and its automaton
pub record IsHeld (settings : Settings) (k : KeptSet) (header : Header) (t : Table) : Type 0 where
  pub given : IsGiven settings.base k.vars k.formula
  pub answer : IsAnswer settings k.vars k.formula t
  pub base : header.base ≡ settings.base
  pub vars : header.vars ≡ k.vars

abbrev pub AreHeld : Settings → List KeptSet → List (Header × Table) → Type 0
AreHeld settings [] [] = Unit
AreHeld settings [] (e ∷ es) = ⊥
AreHeld settings (k ∷ ks) [] = ⊥
AreHeld settings (k ∷ ks) (e ∷ es) = IsHeld settings k e.0 e.1 × AreHeld settings ks es

abbrev pub cells_held : List (Header × Table) → ℕ
cells_held [] = 0
cells_held (e ∷ es) = cells_of e.1 + cells_held es

-- the settings, and the kept sets with what is held of each
pub record Library : Type 0 where
  pub settings : Settings
  pub definitions : List (List ℕ × Definition)
  pub held : List (Header × Table)
  pub cells : ℕ

-- it is held of the kept sets in their order, within the limit of cells; and the limit of one construction is one that they allow
pub record IsLibrary (l : Library) : Type 0 where
  pub few : l.settings.cells ≤ 16777216
  pub each : AreHeld l.settings (sets_of l.definitions) l.held
  pub count : l.cells ≡ cells_held l.held
  pub within : l.cells ≤ kept_cells_limit

-- as the program holds it
abbrev pub pair_of : Held → Header × Table
pair_of h = (h.header, h.canon.table)

-- the sets that a library keeps
abbrev pub sets_kept : Library → List KeptSet
sets_kept l = sets_of l.definitions
