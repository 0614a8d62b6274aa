-- The limits of a formula, in the order in which they are judged (own).
use Rattle.std.specs.Prelude.{◌≡◌, ℕ, ◌^◌, Bool, ◌||◌, nat_lt, unsigned_abs, Option, None, Some, if◌then◌else◌}
use Rattle.lash_model.specs.Formulas.{Linear, coefficient_sum, Formula, Atom, Not, And, Or, Exists}
use Rattle.formula_core.specs.Counts.{nodes_of, depth_of}
use Rattle.term_substitution.specs.declared.errors.FormError.{FormError}
use Rattle.term_substitution.specs.declared.errors.FormError.TheVariants.{Nodes, Depth, Coefficient, Constant, Memory}

abbrev pub nodes_limit : ℕ
nodes_limit = 4096

abbrev pub depth_limit : ℕ
depth_limit = 256

-- the magnitudes of an atom's coefficients sum to more than 2^24
abbrev pub coefficients_pass : Linear → Bool
coefficients_pass a = nat_lt (2 ^ 24) (coefficient_sum a.terms)

-- the magnitude of an atom's constant is more than 2^40
abbrev pub constant_passes : Linear → Bool
constant_passes a = nat_lt (2 ^ 40) (unsigned_abs a.constant)

-- some atom of the formula passes the test
abbrev pub some_atom : (Linear → Bool) → Formula → Bool
some_atom test (Atom kind a) = test a
some_atom test (Not f) = some_atom test f
some_atom test (And f g) = some_atom test f || some_atom test g
some_atom test (Or f g) = some_atom test f || some_atom test g
some_atom test (Exists s f) = some_atom test f

-- the first limit that is passed: the nodes come before the depth, that before a coefficient anywhere, and that before a constant
abbrev pub first_passed : Formula → Option FormError
first_passed f = if nat_lt nodes_limit (nodes_of f) then Some Nodes
    else if nat_lt depth_limit (depth_of f) then Some Depth
    else if some_atom coefficients_pass f then Some Coefficient
    else if some_atom constant_passes f then Some Constant
    else None

-- the limit is the first that is passed; of want of memory nothing is said
abbrev pub IsRefused : Formula → FormError → Type 0
IsRefused f Nodes = first_passed f ≡ Some Nodes
IsRefused f Depth = first_passed f ≡ Some Depth
IsRefused f Coefficient = first_passed f ≡ Some Coefficient
IsRefused f Constant = first_passed f ≡ Some Constant
IsRefused f Memory = Unit {0}
