-- What the variables become, filled in row by row.
use Rattle.std.proofs.Common.{◌≡◌, ℕ, zero, suc, ◌+◌, ◌*◌, ◌/◌, ◌%◌, ◌≤◌, ◌<◌, List, [], ◌∷◌, ◌++◌, length, get_or, arith, refl, sym, ◌∙◌, ap, ap₂}
use Rattle.std.specs.Prelude.{ℤ}
use Rattle.std.proofs.Math.Nat.{div-lt_iff_lt-mul}
use Rattle.integer_laws.specs.Vectors.{vector, vector_from}
use Rattle.integer_laws.proofs.Entries.{length-vector_from, vector_from_same}
use Rattle.formula_core.specs.Terms.{coefficient_at}
use Rattle.matrix_powers.specs.Matrices.{Square, IsSquare}
use Rattle.std.specs.List.{slice_index_or}
use Rattle.lash_model.specs.Formulas.{Linear}
use Rattle.term_substitution.specs.Substitution.{zero_term}
use Rattle.script_statements.specs.Loops.{AssignmentShape}
use Rattle.script_names.specs.Scopes.{Scope}
use Rattle.loop_meaning.specs.Assigning.{next_term, next_entries, next_shift, AreNext, entries_of, constants_of}

pub record AreFilled (scope : Scope) (xs : List AssignmentShape) (n : ℕ) (terms : List Linear) : Type 0 where
  pub count : length terms ≡ n
  pub each : (row : ℕ) → row < n → slice_index_or terms row zero_term ≡ next_term scope xs row

pub vector_none : (f : ℕ → ℤ) → vector f 0 ≡ []
unfolding vector_from
vector_none f = refl

vector_from_more : (f : ℕ → ℤ) (i n : ℕ) → vector_from f i (suc n) ≡ vector_from f i n ++ f (i + n) ∷ []
unfolding vector_from
vector_from_more f i zero = ap (λ j. f j ∷ []) (none i)
  where
    none : (i : ℕ) → i ≡ i + 0
    none i = omega arith
vector_from_more f i (suc n) = ap (λ ys. f i ∷ ys) (vector_from_more f (suc i) n ∙ ap (λ j. vector_from f (suc i) n ++ f j ∷ []) (moved i n))
  where
    moved : (i n : ℕ) → suc i + n ≡ i + suc n
    moved i n = omega arith

-- one entry more
pub vector_more : (f : ℕ → ℤ) (n : ℕ) (old new : List ℤ) (x : ℤ) → old ≡ vector f n → x ≡ f n → new ≡ old ++ x ∷ [] → new ≡ vector f (n + 1)
vector_more f n old new x h is grown = grown ∙ ap (λ ys. ys ++ x ∷ []) h ∙ ap (λ y. vector f n ++ y ∷ []) (is ∙ ap f (none n)) ∙ sym (vector_from_more f 0 n) ∙ ap (vector f) (one_more n)
  where
    none : (n : ℕ) → n ≡ 0 + n
    none n = omega arith

    one_more : (n : ℕ) → suc n ≡ n + 1
    one_more n = omega arith

-- a place inside a list has one entry, whatever stands for those outside
pub same_place : {A : Type 0} (xs : List A) (i : ℕ) (d e : A) → i < length xs → get_or xs i d ≡ get_or xs i e
same_place [] i d e lt = absurd (omega (arith, lt))
same_place (x ∷ xs) zero d e lt = refl
same_place (x ∷ xs) (suc i) d e lt = same_place xs i d e (omega (arith, lt))

quotient_below : (at n : ℕ) → at < n * n → at / n < n
quotient_below at n lt = (div-lt_iff_lt-mul (positive n lt)).1 lt
  where
    positive : (n : ℕ) → at < n * n → 0 < n
    positive zero lt = absurd (omega (arith, lt))
    positive (suc n) lt = omega arith

-- the entry of the matrix at a place, whatever stands for the rows outside
pub entry_here : (terms : List Linear) (at : ℕ) (t d : Linear) → at < length terms * length terms → t ≡ get_or terms (at / length terms) d → coefficient_at t.terms (at % length terms) ≡ coefficient_at (slice_index_or terms (at / length terms) zero_term).terms (at % length terms)
entry_here terms at t d lt is = ap (λ (u : Linear). coefficient_at u.terms (at % length terms)) (is ∙ same_place terms (at / length terms) d zero_term (quotient_below at (length terms) lt))

-- the matrix of the terms
pub entries_alike : (scope : Scope) (xs : List AssignmentShape) (terms : List Linear) → AreNext scope xs terms → entries_of terms (length terms * length terms) ≡ next_entries scope xs
entries_alike scope xs terms h =
    ap (λ n. vector (λ at. coefficient_at (slice_index_or terms (at / n) zero_term).terms (at % n)) (n * n)) h.count
    ∙ vector_from_same _ _ 0 (length scope * length scope) (λ at low high. ap (λ (t : Linear). coefficient_at t.terms (at % length scope)) (h.each (at / length scope) (quotient_below at (length scope) (omega (arith, high)))))

-- and the shift
pub constants_alike : (scope : Scope) (xs : List AssignmentShape) (terms : List Linear) → AreNext scope xs terms → constants_of terms (length terms) ≡ next_shift scope xs
constants_alike scope xs terms h =
    ap (λ n. vector (λ row. (slice_index_or terms row zero_term).constant) n) h.count
    ∙ vector_from_same _ _ 0 (length scope) (λ row low high. ap (λ (t : Linear). t.constant) (h.each row (omega (arith, high))))

pub many_entries : (terms : List Linear) (n : ℕ) → length (entries_of terms n) ≡ n
many_entries terms n = length-vector_from _ 0 n

pub many_constants : (terms : List Linear) (n : ℕ) → length (constants_of terms n) ≡ n
many_constants terms n = length-vector_from _ 0 n

-- the matrix is square
pub is_square : (scope : Scope) (xs : List AssignmentShape) (terms : List Linear) (entries : List ℤ) (side : ℕ) → AreNext scope xs terms → entries ≡ entries_of terms (length terms * length terms) → side ≡ length terms → 1 ≤ length scope → length scope ≤ 4 → IsSquare (record { side = side; entries = entries })
is_square scope xs terms entries side h is same some few = record {
  some = omega (arith, same, h.count, some);
  few = omega (arith, same, h.count, few);
  whole = ap length is ∙ many_entries terms (length terms * length terms) ∙ ap (λ n. n * n) (sym same);
}

abbrev square_of : ℕ → List ℤ → Square
square_of side entries = record { side = side; entries = entries }

pub matrix_alike : (scope : Scope) (xs : List AssignmentShape) (terms given : List Linear) (entries : List ℤ) (side : ℕ) → AreNext scope xs terms → given ≡ terms → entries ≡ entries_of given (length given * length given) → side ≡ length terms → square_of side entries ≡ square_of (length scope) (next_entries scope xs)
matrix_alike scope xs terms given entries side h same is many = ap₂ square_of (many ∙ h.count) (is ∙ ap (λ ts. entries_of ts (length ts * length ts)) same ∙ entries_alike scope xs terms h)

pub shift_alike : (scope : Scope) (xs : List AssignmentShape) (terms given : List Linear) (constants : List ℤ) → AreNext scope xs terms → given ≡ terms → constants ≡ constants_of given (length given) → constants ≡ next_shift scope xs
shift_alike scope xs terms given constants h same is = is ∙ ap (λ ts. constants_of ts (length ts)) same ∙ constants_alike scope xs terms h

pub as_many_constants : (scope : Scope) (xs : List AssignmentShape) (terms given : List Linear) (constants : List ℤ) → AreNext scope xs terms → given ≡ terms → constants ≡ constants_of given (length given) → length constants ≡ length scope
as_many_constants scope xs terms given constants h same is = ap length is ∙ many_constants given (length given) ∙ ap length same ∙ h.count
