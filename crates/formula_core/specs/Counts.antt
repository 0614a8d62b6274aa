-- Counts over formulas, and the variables that occur in them.
use Rattle.std.specs.Prelude.{ℕ, ◌+◌, ◌-◌, ◌^◌, max, Bool, true, false, ◌&&◌, ◌||◌, not, pos, List}
use Rattle.std.specs.List.{filter, range_with_len}
use Rattle.std.specs.Ordering.{int_eq}
use Rattle.lash_model.specs.Formulas.{Sort, Int, Real, Linear, Formula, Atom, Not, And, Or, Exists}
use Rattle.formula_core.specs.Terms.{coefficient_at}

-- each node counts 1
abbrev pub nodes_of : Formula → ℕ
nodes_of (Atom kind a) = 1
nodes_of (Not f) = nodes_of f + 1
nodes_of (And f g) = nodes_of f + nodes_of g + 1
nodes_of (Or f g) = nodes_of f + nodes_of g + 1
nodes_of (Exists s f) = nodes_of f + 1

-- an atom alone has depth 1
abbrev pub depth_of : Formula → ℕ
depth_of (Atom kind a) = 1
depth_of (Not f) = depth_of f + 1
depth_of (And f g) = max (depth_of f) (depth_of g) + 1
depth_of (Or f g) = max (depth_of f) (depth_of g) + 1
depth_of (Exists s f) = depth_of f + 1

-- the greatest number of a counter of 64 bits
abbrev pub count_limit : ℕ
count_limit = 2 ^ 64 - 1

abbrev pub is_int : Sort → Bool
is_int Int = true
is_int Real = false

-- each bound variable is an integer
abbrev pub binds_ints : Formula → Bool
binds_ints (Atom kind a) = true
binds_ints (Not f) = binds_ints f
binds_ints (And f g) = binds_ints f && binds_ints g
binds_ints (Or f g) = binds_ints f && binds_ints g
binds_ints (Exists s f) = is_int s && binds_ints f

-- the place has a nonzero coefficient in a term
abbrev pub term_uses : ℕ → Linear → Bool
term_uses place a = not (int_eq (coefficient_at a.terms place) (pos 0))

-- the place has a nonzero coefficient in some atom
abbrev pub uses : ℕ → Formula → Bool
uses place (Atom kind a) = term_uses place a
uses place (Not f) = uses place f
uses place (And f g) = uses place f || uses place g
uses place (Or f g) = uses place f || uses place g
uses place (Exists s f) = uses place f

-- the places below a number that the formula uses, rising
abbrev pub free_places : Formula → ℕ → List ℕ
free_places f places = filter (λ place. uses place f) (range_with_len 0 places)
