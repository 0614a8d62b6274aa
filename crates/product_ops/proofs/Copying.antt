-- Copying a list number by number, over zeros.
use Rattle.std.proofs.Common.{◌≡◌, ℕ, zero, suc, ◌+◌, ◌*◌, ◌^◌, ◌≤◌, ◌<◌, List, [], ◌∷◌, length, map, arith, refl, ◌∙◌, sym, ap, subst, add-one}
use Rattle.std.proofs.Math.Nat.{pow-le-pow_left}
use Rattle.std.specs.Prelude.{slice_set, slice_index, replicate}
use Rattle.lash_model.specs.Tables.{Table, letters, ints, fracs, IsShape, IsTable}
use Rattle.canonical_laws.proofs.Diagrams.{place_within}
use Rattle.part_laws.proofs.Mapped.{map_count, map_at}
use Rattle.step_tables.specs.Kept.{Kept, plain, zeros}
use Rattle.product_ops.specs.Restriction.{colour_of_zeros, restricted, copied, filled}

next_copied : (xs : List ℕ) (n to : ℕ) → n < length xs → to ≡ slice_index xs n → slice_set (copied n xs) n to ≡ copied (suc n) xs
next_copied [] n to lt is = absurd (omega (arith, lt))
next_copied (x ∷ xs) zero to lt is = ap (λ y. y ∷ map (λ _. 0) xs) is
next_copied (x ∷ xs) (suc n) to lt is = ap (λ ys. x ∷ ys) (next_copied xs n to (omega (arith, lt)) is)

-- one number more
pub one_copied : (xs : List ℕ) (n to : ℕ) → n < length xs → to ≡ slice_index xs n → slice_set (copied n xs) n to ≡ copied (n + 1) xs
one_copied xs n to lt is = next_copied xs n to lt is ∙ ap (λ k. copied k xs) (sym (add-one n))

pub length_copied : (xs : List ℕ) (n : ℕ) → length (copied n xs) ≡ length xs
length_copied [] zero = refl
length_copied [] (suc n) = refl
length_copied (x ∷ xs) zero = ap suc (length_copied xs zero)
length_copied (x ∷ xs) (suc n) = ap suc (length_copied xs n)

pub all_copied : (xs : List ℕ) → copied (length xs) xs ≡ xs
all_copied [] = refl
all_copied (x ∷ xs) = ap (λ ys. x ∷ ys) (all_copied xs)

pub none_copied : (xs : List ℕ) → replicate (length xs) 0 ≡ copied 0 xs
none_copied [] = refl
none_copied (x ∷ xs) = ap (λ ys. 0 ∷ ys) (none_copied xs)

-- ---- the kept table, entry by entry
pub few_signs : (s : Table) → IsTable s → 2 ^ s.tracks ≤ 4096
few_signs s h = omega (arith, h.shape.few_letters, pow-le-pow_left h.shape.base_low s.tracks)

fewer_cells : (i f w most : ℕ) → (i + f) * (w + 1) ≤ most → (i + 0) * (w + 1) ≤ most
fewer_cells i f w most h = grind arith

pub whole_shape : (s : Table) → IsTable s → IsShape s.base s.tracks (ints s) 0
whole_shape s h = record {
  base_low = h.shape.base_low;
  base_high = h.shape.base_high;
  few_letters = h.shape.few_letters;
  some_state = h.shape.some_state;
  few_cells = fewer_cells (ints s) (fracs s) (letters s) 16777216 h.shape.few_cells;
}

pub root_copied : (s : Table) (k : Kept) (i to : ℕ) → IsTable s → k ≡ plain (filled (restricted s) i 0 0) → i < 2 ^ s.tracks → to ≡ slice_index s.roots i
    → record k { table = record k.table { roots = slice_set k.table.roots i to } } ≡ plain (filled (restricted s) (i + 1) 0 0)
root_copied s k i to h e lt is = ap (λ (v : Kept). record v { table = record v.table { roots = slice_set v.table.roots i to } }) e
    ∙ ap (λ (rs : List ℕ). plain (record (filled (restricted s) 0 0 0) { roots = rs })) (one_copied s.roots i to (omega (arith, lt, h.roots_count)) is)

pub target_copied : (s : Table) (k : Kept) (roots q l to : ℕ) → IsTable s → k ≡ plain (filled (restricted s) roots (q * letters s + l) 0) → q < ints s
    → l < letters s → to ≡ slice_index s.rows (q * letters s + l)
    → record k { table = record k.table { rows = slice_set k.table.rows (q * letters k.table + l) to } } ≡ plain (filled (restricted s) roots (q * letters s + (l + 1)) 0)
target_copied s k roots q l to h e q_in l_in is =
    ap (λ (v : Kept). record v { table = record v.table { rows = slice_set v.table.rows (q * letters v.table + l) to } }) e
    ∙ ap (λ (ws : List ℕ). plain (record (filled (restricted s) roots 0 0) { rows = ws }))
    (one_copied s.rows (q * letters s + l) to (subst (λ n. q * letters s + l < n) (sym h.rows_count) (place_within q (ints s) (letters s) l q_in l_in)) is
    ∙ ap (λ n. copied n s.rows) (next (q * letters s) l))
  where
    next : (a b : ℕ) → a + b + 1 ≡ a + (b + 1)
    next a b = omega arith

pub output_filled : (s : Table) (k : Kept) (roots rows q to : ℕ) → k ≡ plain (filled (restricted s) roots rows q) → q < ints s
    → to ≡ colour_of_zeros s (slice_index s.outs q)
    → record k { table = record k.table { outs = slice_set k.table.outs q to } } ≡ plain (filled (restricted s) roots rows (q + 1))
output_filled s k roots rows q to e q_in is = ap (λ (v : Kept). record v { table = record v.table { outs = slice_set v.table.outs q to } }) e
    ∙ ap (λ (os : List ℕ). plain (record (filled (restricted s) roots rows 0) { outs = os }))
    (one_copied (map (colour_of_zeros s) s.outs) q to (subst (λ n. q < n) (sym (map_count (colour_of_zeros s) s.outs)) q_in)
    (is ∙ sym (map_at (colour_of_zeros s) s.outs q q_in)))

pub all_filled : (s : Table) (k : Kept) (n : ℕ) → IsTable s → k ≡ plain (filled (restricted s) (2 ^ s.tracks) (ints s * letters s) n) → n ≡ ints s
    → k ≡ plain (restricted s)
all_filled s k n h e is = e
    ∙ ap (λ i. plain (filled (restricted s) i (ints s * letters s) n)) (sym h.roots_count)
    ∙ ap (λ i. plain (filled (restricted s) (length s.roots) i n)) (sym h.rows_count)
    ∙ ap (λ i. plain (filled (restricted s) (length s.roots) (length s.rows) i)) (is ∙ sym (map_count (colour_of_zeros s) s.outs))
    ∙ ap (λ (rs : List ℕ). plain (record (filled (restricted s) 0 (length s.rows) (length (map (colour_of_zeros s) s.outs))) { roots = rs })) (all_copied s.roots)
    ∙ ap (λ (ws : List ℕ). plain (record (filled (restricted s) 0 0 (length (map (colour_of_zeros s) s.outs))) { roots = s.roots; rows = ws })) (all_copied s.rows)
    ∙ ap (λ (os : List ℕ). plain (record (restricted s) { outs = os })) (all_copied (map (colour_of_zeros s) s.outs))

pub none_filled : (s : Table) → IsTable s → plain (zeros s.base s.tracks (ints s) 0) ≡ plain (filled (restricted s) 0 0 0)
none_filled s h =
    ap (λ (rs : List ℕ). plain (record (zeros s.base s.tracks (ints s) 0) { roots = rs })) (ap (λ n. replicate n 0) (sym h.roots_count) ∙ none_copied s.roots)
    ∙ ap (λ (ws : List ℕ). plain (record (zeros s.base s.tracks (ints s) 0) { roots = copied 0 s.roots; rows = ws }))
    (ap (λ n. replicate n 0) (sym h.rows_count) ∙ none_copied s.rows)
    ∙ ap (λ (os : List ℕ). plain (record (zeros s.base s.tracks (ints s) 0) { roots = copied 0 s.roots; rows = copied 0 s.rows; outs = os }))
    (ap (λ n. replicate n 0) (sym (map_count (colour_of_zeros s) s.outs)) ∙ none_copied (map (colour_of_zeros s) s.outs))
    ∙ ap (λ n. plain (record (filled (restricted s) 0 0 0) { frac_rows = replicate n 0 })) (nothing (letters s))
  where
    nothing : (w : ℕ) → 0 * w ≡ 0
    nothing w = omega arith
