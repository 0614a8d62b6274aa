-- Rows that are cut from a list, one by one.
use Rattle.std.proofs.Common.{◌≡◌, ℕ, zero, suc, ◌+◌, ◌*◌, ◌<◌, ◌≤◌, List, [], ◌∷◌, ◌++◌, length, slice_index, take, drop, arith, refl, ◌∙◌, sym, ap}
use Rattle.std.proofs.Math.Nat.{mul-le-mul_right}
use Rattle.std.proofs.Math.Seq.{drop-nil, drop-append-add}
use Rattle.std.proofs.Math.ListN.{drop_of_length-le}
use Rattle.std.proofs.lemmas.List.{get_or-take, get_or-drop, length-drop, length-take-le, length-append, drop-append-le}
use Rattle.std.proofs.lemmas.Grind.{same_number_lists}
use Rattle.lash_model.specs.Tables.{Table, letters, ints, fracs}
use Rattle.step_tables.specs.Rows.{rows_in, rows_of}

-- a row whose numbers are those of a list from a place on is the part of the list
pub row_is : (row numbers : List ℕ) (width place : ℕ) → length row ≡ width → place + width ≤ length numbers → ((k : ℕ) → k < width → slice_index row k ≡ slice_index numbers (place + k)) → row ≡ take width (drop place numbers)
row_is row numbers width place same within each =
    same_number_lists row (take width (drop place numbers)) (same ∙ sym (length-take-le width (drop place numbers) (omega (arith, length-drop place numbers, within))))
    (λ k h. each k (omega (arith, h, same)) ∙ sym (get_or-take width (drop place numbers) k 0 (omega (arith, h, same)) ∙ get_or-drop place numbers k 0))

-- the row of a state lies within the rows
pub row_within : (state count width : ℕ) (numbers : List ℕ) → state < count → length numbers ≡ count * width → state * width + width ≤ length numbers
row_within state count width numbers h e = omega (arith, e, mul-le-mul_right width h)

length-rows_in : (width count : ℕ) (numbers : List ℕ) → length (rows_in width count numbers) ≡ count
length-rows_in width zero numbers = refl
length-rows_in width (suc count) numbers = ap suc (length-rows_in width count (drop width numbers))

pub drop-more : {A : Type 0} → (a b : ℕ) (xs : List A) → drop a (drop b xs) ≡ drop (b + a) xs
drop-more a zero xs = ap (λ k. drop k xs) (none a)
  where
    none : (a : ℕ) → a ≡ 0 + a
    none a = omega arith
drop-more a (suc b) [] = drop-nil a ∙ sym (drop-nil (suc b + a))
drop-more a (suc b) (x ∷ xs) = drop-more a b xs ∙ ap (λ k. drop k (x ∷ xs)) (up b a)
  where
    up : (b a : ℕ) → suc (b + a) ≡ suc b + a
    up b a = omega arith

-- the rows from one on begin with it
rows_from : (width count : ℕ) (numbers : List ℕ) (k : ℕ) → k < count → drop k (rows_in width count numbers) ≡ take width (drop (k * width) numbers) ∷ drop (suc k) (rows_in width count numbers)
rows_from width zero numbers k h = absurd (omega arith)
rows_from width (suc count) numbers zero h = ap (λ p. take width (drop p numbers) ∷ rows_in width count (drop width numbers)) (none width)
  where
    none : (width : ℕ) → 0 ≡ 0 * width
    none width = omega arith
rows_from width (suc count) numbers (suc k) h =
    rows_from width count (drop width numbers) k (omega arith)
    ∙ ap (λ r. take width r ∷ drop (suc k) (rows_in width count (drop width numbers))) (drop-more (k * width) width numbers ∙ ap (λ p. drop p numbers) (up width k))
  where
    up : (width k : ℕ) → width + k * width ≡ suc k * width
    up width k = omega arith

-- a list that has a first row has the others behind it
begins : (rows rest : List (List ℕ)) (row : List ℕ) → rows ≡ row ∷ rest → rows ≡ row ∷ drop 1 rows
begins rows rest row e = e ∙ ap (λ r. row ∷ drop 1 r) (sym e)

pub next_int_row : (t : Table) (n : ℕ) → n < ints t → drop n (rows_of t) ≡ take (letters t) (drop (n * letters t) t.rows) ∷ drop 1 (drop n (rows_of t))
next_int_row t n h =
    begins (drop n (rows_of t)) _ _
    (drop-append-le n (rows_in (letters t) (ints t) t.rows) (rows_in (letters t) (fracs t) t.frac_rows) (omega (arith, h, length-rows_in (letters t) (ints t) t.rows))
    ∙ ap (λ r. r ++ rows_in (letters t) (fracs t) t.frac_rows) (rows_from (letters t) (ints t) t.rows n h))

frac_row_at : (t : Table) (k : ℕ) → k < fracs t → drop (ints t + k) (rows_of t) ≡ take (letters t) (drop (k * letters t) t.frac_rows) ∷ drop 1 (drop (ints t + k) (rows_of t))
frac_row_at t k h =
    begins (drop (ints t + k) (rows_of t)) _ _
    (ap (λ n. drop (n + k) (rows_of t)) (sym (length-rows_in (letters t) (ints t) t.rows))
    ∙ drop-append-add (rows_in (letters t) (ints t) t.rows) (rows_in (letters t) (fracs t) t.frac_rows) k
    ∙ rows_from (letters t) (fracs t) t.frac_rows k h)

pub next_frac_row : (t : Table) (n k : ℕ) → n ≡ ints t + k → k < fracs t → drop n (rows_of t) ≡ take (letters t) (drop (k * letters t) t.frac_rows) ∷ drop 1 (drop n (rows_of t))
next_frac_row t n k e h = rw e (frac_row_at t k h)

pub no_row : (t : Table) (n : ℕ) → ints t + fracs t ≤ n → drop n (rows_of t) ≡ []
no_row t n h = drop_of_length-le (rows_of t) (omega (arith, h, length-append (rows_in (letters t) (ints t) t.rows) (rows_in (letters t) (fracs t) t.frac_rows), length-rows_in (letters t) (ints t) t.rows, length-rows_in (letters t) (fracs t) t.frac_rows))
