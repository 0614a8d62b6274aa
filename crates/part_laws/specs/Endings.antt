-- The end of a run over a stem and a cycle without end, and acceptance from a state.
use Rattle.std.specs.Prelude.{ℕ, ◌<◌, ◌≤◌, ◌≡◌, List, ◌++◌, length, slice_index, Bool, nat_eq}
use Rattle.std.specs.List.{AllByRecursion}
use Rattle.graph_laws.specs.Walks.{go, copies}
use Rattle.part_laws.specs.Graphs.{Graph}

-- at least one iteration of the cycle, and at most so many, lead from the state to itself
pub record ComesBack (rows : List ℕ) (width most q : ℕ) (cycle : List ℕ) : Type 0 where
  pub turns : ℕ
  pub some : 0 < turns
  pub bounded : turns ≤ most
  pub back : go rows width q (copies turns cycle) ≡ q

-- acceptance of a stem and a cycle from a state of a weak graph: the colour is yes after the stem and as many iterations of the cycle as
-- there are states
abbrev pub accepts_from : ℕ → Graph → ℕ → List ℕ → List ℕ → Bool
accepts_from width g q stem cycle = nat_eq (slice_index g.colours (go g.rows width q (stem ++ copies (length g.colours) cycle))) 1

-- a state of the one graph and a state of the other accept the same lassos (equal residuals)
abbrev pub AcceptAlike : ℕ → Graph → Graph → ℕ → ℕ → Type 0
AcceptAlike width a b p q = (stem cycle : List ℕ) → AllByRecursion (λ l. l < width) stem → AllByRecursion (λ l. l < width) cycle → 0 < length cycle
    → accepts_from width a p stem cycle ≡ accepts_from width b q stem cycle
