-- What ties a breakpoint table to the table that it is made of: sets of integer states, breakpoint keys, and the entries between them.
use Rattle.std.proofs.Common.{◌≡◌, ℕ, ◌<◌}
use Rattle.breakpoint_laws.proofs.Graphs.{Graph}
use Rattle.breakpoint_laws.proofs.Machines.{Breakpoints}
use Rattle.breakpoint_laws.proofs.Projections.{Setting}
use Rattle.breakpoint_laws.proofs.SubsetWalks.{Subsets}

-- the table (a, root, out, t) of all tracks, and the marked table (ai, root_b, out_b, b) of the kept ones
pub record Entry (out : ℕ → ℕ) (from : ℕ → Type 0) (q : ℕ) : Type 0 where
  pub state : ℕ
  pub member : from state
  pub is : out state ≡ q

pub record Projected (z : Setting) (a t ai b : Graph) (out out_b : ℕ → ℕ) (InI In Owing : ℕ → ℕ → Type 0) : Type 0 where
  pub integers : Subsets a ai z.keep z.width InI
  pub breaks : Breakpoints t b z.keep z.width In Owing
  pub out_below : (c : ℕ) → c < ai.states → out_b c < b.states
  pub entry_into : (c p : ℕ) → c < ai.states → InI c p → In (out_b c) (out p)
  pub entry_from : (c q : ℕ) → c < ai.states → In (out_b c) q → Entry out (InI c) q
