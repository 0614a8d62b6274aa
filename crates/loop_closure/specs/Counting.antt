-- How many nodes a closure has.
use Rattle.std.specs.Prelude.{ℕ, zero, suc, ◌+◌, ◌*◌, ◌≤◌, Bool, true, false}
use Rattle.formula_core.specs.Counts.{nodes_of}
use Rattle.loop_laws.specs.Turns.{Body}
use Rattle.loop_closure.specs.declared.counts.Sizes.{Sizes}

-- the equation of the number of turns and the node that joins it
abbrev pub count_nodes : Bool → ℕ
count_nodes false = 0
count_nodes true = 2

-- the nodes of the parts for i turns and for p M + i turns, each with a node that joins it
abbrev pub turn_nodes : Sizes → ℕ → ℕ
turn_nodes z i = (z.side * 2 + i * z.guard + z.count) + (3 + z.side * 2 + z.power * z.guard + z.power * (z.guard * 2 + 2) + i * (z.guard * 2) + z.count)

-- those for 0 to n - 1
unfoldable pub turns_nodes : Sizes → ℕ → ℕ
turns_nodes z zero = 0
turns_nodes z (suc n) = turns_nodes z n + turn_nodes z n

abbrev pub sizes_of : Bool → Body → ℕ → Sizes
sizes_of counted l p = record { guard = nodes_of l.guard + 1; side = l.matrix.side; power = p; count = count_nodes counted }

-- sizes within the limits of guards, vectors and powers
pub record AreSmall (z : Sizes) : Type 0 where
  pub guard : z.guard ≤ 4097
  pub side : z.side ≤ 4
  pub power : z.power ≤ 12
  pub count : z.count ≤ 2
