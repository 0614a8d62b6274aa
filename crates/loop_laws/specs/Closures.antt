-- The closure of a loop as a formula (own). The variables are x at the places 0 to n - 1 and y behind them; the formula holds where some
-- number of turns leads from x to y. With p a power of the matrix, k turns are fewer than p, or they are p M + i for an integer M of at
-- least 1, which stands behind all other places, and i below p. In the second case the guard is asked at the first and the last turns only,
-- for each remainder of p: it holds between.
use Rattle.std.specs.Prelude.{ℕ, zero, suc, ◌+◌, Bool, true, false, List, [], ◌∷◌, ◌++◌, ℤ, pos, negsuc, ◌-ℤ◌, ◌*ℤ◌}
use Rattle.lash_model.specs.Formulas.{Linear, Int, Formula, AtMost, Equal, Atom, And, Or, Exists}
use Rattle.formula_core.specs.Terms.{added}
use Rattle.term_substitution.specs.Substitution.{substituted, variable_term, zero_term}
use Rattle.matrix_powers.specs.Matrices.{power_entry}
use Rattle.matrix_powers.specs.Orbits.{shifted, stride}
use Rattle.loop_laws.specs.Turns.{Body}

-- f 0, f 1, .., f (n - 1), one list behind the other
unfoldable pub gathered : {A : Type 0} → (ℕ → List A) → ℕ → List A
gathered f zero = []
gathered f (suc n) = gathered f n ++ f n

-- formulas joined from the left
unfoldable pub joined_to : (Formula → Formula → Formula) → Formula → List Formula → Formula
joined_to op f [] = f
joined_to op f (g ∷ gs) = joined_to op (op f g) gs

abbrev pub joined : (Formula → Formula → Formula) → List Formula → Formula
joined op [] = Atom AtMost zero_term
joined op (f ∷ fs) = joined_to op f fs

-- a coefficient for each of the places 0 to n - 1
unfoldable pub coefficients : (ℕ → ℤ) → ℕ → List (ℕ × ℤ)
coefficients f zero = []
coefficients f (suc n) = added (coefficients f n) n (f n)

-- the row of the vector after k turns from x
abbrev pub early_term : Body → ℕ → ℕ → Linear
early_term l k row = record { terms = coefficients (power_entry l.matrix k row) l.matrix.side; constant = shifted l.matrix l.shift k row }

-- the row of the vector after p (M - back + 1) + j turns, with M at the place
abbrev pub late_term : Body → ℕ → ℕ → ℕ → ℕ → ℕ → Linear
late_term l p j place back row = record { terms = added (coefficients (power_entry l.matrix (p + j) row) l.matrix.side) place (stride l.matrix l.shift p j row); constant = shifted l.matrix l.shift (p + j) row -ℤ (pos back *ℤ stride l.matrix l.shift p j row) }

-- the equation of two variables
abbrev pub same : Formula
same = Atom Equal (record { terms = (0, pos 1) ∷ (1, negsuc 0) ∷ []; constant = pos 0 })

-- the variable at the place is the term
abbrev pub equation : ℕ → Linear → ℕ → Formula
equation place t places = substituted same (variable_term place ∷ t ∷ []) places

-- y is the vector of these terms
abbrev pub equations : Body → (ℕ → Linear) → ℕ → List Formula
equations l term places = gathered (λ row. equation (l.matrix.side + row) (term row) places ∷ []) l.matrix.side

-- the guard holds at the vector of these terms
abbrev pub guarded : Body → (ℕ → Linear) → ℕ → Formula
guarded l term places = substituted l.guard (gathered (λ row. term row ∷ []) l.matrix.side) places

-- the variable at the place is 1
abbrev pub is_one : ℕ → Formula
is_one place = Atom Equal (record { terms = added [] place (pos 1); constant = pos 1 })

-- it is at least 1
abbrev pub is_some : ℕ → Formula
is_some place = Atom AtMost (record { terms = added [] place (negsuc 0); constant = negsuc 0 })

-- the number of turns stands behind x and y
abbrev pub count_place : Body → ℕ
count_place l = l.matrix.side + l.matrix.side

-- it is i
abbrev pub short_count : Bool → Body → ℕ → List Formula
short_count false l i = []
short_count true l i = equation (count_place l) (record { terms = []; constant = pos i }) (count_place l + 1) ∷ []

-- it is p M + i
abbrev pub long_count : Bool → Body → ℕ → ℕ → List Formula
long_count false l p i = []
long_count true l p i = equation (count_place l) (record { terms = added [] (count_place l + 1) (pos p); constant = pos i }) (count_place l + 2) ∷ []

-- the number of variables, with or without the number of turns; this is the place of M
abbrev pub places_of : Bool → Body → ℕ
places_of false l = count_place l
places_of true l = count_place l + 1

-- i turns lead from x to y
abbrev pub short : Bool → Body → ℕ → List Formula
short counted l i = equations l (early_term l i) (places_of counted l) ++ gathered (λ k. guarded l (early_term l k) (places_of counted l) ∷ []) i ++ short_count counted l i

-- with M of 2 or more the guard holds after p + j turns and after p (M - 1) + j
abbrev pub between : Body → ℕ → ℕ → ℕ → Formula
between l p place j = Or (is_one place) (And (guarded l (early_term l (p + j)) (place + 1)) (guarded l (late_term l p j place 2) (place + 1)))

-- p M + i turns lead from x to y, where M is at least 1
abbrev pub long_at : ℕ → Bool → Body → ℕ → ℕ → List Formula
long_at place counted l p i = is_some place ∷ equations l (late_term l p i place 1) (place + 1)
    ++ gathered (λ j. guarded l (early_term l j) (place + 1) ∷ []) p
    ++ gathered (λ j. between l p place j ∷ []) p
    ++ gathered (λ j. guarded l (early_term l (p + j)) (place + 1) ∷ guarded l (late_term l p j place 1) (place + 1) ∷ []) i
    ++ long_count counted l p i

abbrev pub long : Bool → Body → ℕ → ℕ → List Formula
long counted l p i = long_at (places_of counted l) counted l p i

-- the closure: fewer than p turns, or more; with the number of turns, or without it
abbrev pub closure_of : Bool → Body → ℕ → Formula
closure_of counted l p = joined Or (gathered (λ i. joined And (short counted l i) ∷ []) p ++ gathered (λ i. Exists Int (joined And (long counted l p i)) ∷ []) p)
