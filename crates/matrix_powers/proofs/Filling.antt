-- Lists that are filled entry by entry, and their reading as rows.
use Rattle.std.proofs.Common.{◌≡◌, ℕ, ◌+◌, ◌*◌, ◌/◌, ◌%◌, ◌^◌, ◌<◌, ◌≤◌, List, length, get_or, arith, ap, ap₂, ◌∙◌, sym, subst, unsigned_abs}
use Rattle.std.proofs.Math.IntN.{ℤ, pos}
use Rattle.std.proofs.lemmas.List.{get_or_read}
use Rattle.std.proofs.lemmas.Nat.{mul-add-lt, div-mul-add, mod-mul-add, div-add-mod', div_below}
use Rattle.matrix_powers.specs.Matrices.{Square, IsSquare, entry}
use Rattle.matrix_powers.specs.Products.{IsSmall, IsProduct, HaveSameEntries, product_entry}

-- the first entries are given by f, and there are no others
pub record IsFilled (f : ℕ → ℤ) (at : ℕ) (xs : List ℤ) : Type 0 where
  pub count : length xs ≡ at
  pub each : (j : ℕ) → j < at → get_or xs j (pos 0) ≡ f j

-- a list of rows, one after the other
pub filled_row : (f : ℕ → ℕ → ℤ) (side n : ℕ) (xs : List ℤ) → IsFilled (λ j. f (j / side) (j % side)) n xs → n ≡ side * side → (row column : ℕ) → row < side → column < side → get_or xs (row * side + column) (pos 0) ≡ f row column
filled_row f side n xs h is row column r c =
    let inside : row * side + column < n = omega (arith, is, mul-add-lt row side column side r c) in
    h.each (row * side + column) inside ∙ ap₂ f (div-mul-add row side column c) (mod-mul-add row side column c)

-- what holds at each row and column holds at each place
pub all_places : (P : ℕ → Type 0) (side n : ℕ) → 1 ≤ side → n ≡ side * side → ((row column : ℕ) → row < side → column < side → P (row * side + column)) → (j : ℕ) → j < n → P j
all_places P side n some is each j inside = subst P (div-add-mod' j side) (each (j / side) (j % side) (div_below j side side some (omega (arith, is, inside))) (omega (arith, some)))

pub small_places : (a : Square) → IsSquare a → IsSmall a → (j : ℕ) → j < length a.entries → unsigned_abs (get_or a.entries j (pos 0)) ≤ 2 ^ 40
small_places a square small = all_places (λ j. unsigned_abs (get_or a.entries j (pos 0)) ≤ 2 ^ 40) a.side (length a.entries) square.some square.whole small.within

pub same_places : (a b : Square) → IsSquare a → b.side ≡ a.side → HaveSameEntries a b → (j : ℕ) → j < length a.entries → get_or a.entries j (pos 0) ≡ get_or b.entries j (pos 0)
same_places a b square same_side same =
    all_places (λ j. get_or a.entries j (pos 0) ≡ get_or b.entries j (pos 0)) a.side (length a.entries) square.some square.whole
    (λ row column r c. subst (λ n. entry a row column ≡ get_or b.entries (row * n + column) (pos 0)) same_side (same.entries_are row column r c))

pub filled_product : (a b : Square) (side n : ℕ) (xs : List ℤ) → side ≡ a.side → n ≡ side * side → IsFilled (λ j. product_entry a b (j / side) (j % side)) n xs → IsProduct a b (record { side = side; entries = xs })
filled_product a b side n xs side_is is h = record {
  same_side = side_is;
  entries_are = λ row column r c. filled_row (product_entry a b) side n xs h is row column (omega (arith, r, side_is)) (omega (arith, c, side_is));
}

-- if two entries are read, they are the same in matrices with the same entries
pub same_read : (s a o b : Square) (at : ℕ) (x y : ℤ) → a ≡ s → b ≡ o → IsSquare a → IsSquare b → o.side ≡ s.side → at < length a.entries → x ≡ get_or a.entries at x → y ≡ get_or b.entries at y → HaveSameEntries s o → x ≡ y
same_read s a o b at x y a_is b_is a_square b_square same_side inside x_is y_is same =
    let sides : b.side ≡ a.side = ap (λ c. c.side) b_is ∙ same_side ∙ sym (ap (λ c. c.side) a_is) in
    let both : HaveSameEntries a b = subst (HaveSameEntries a) (sym b_is) (subst (λ c. HaveSameEntries c o) (sym a_is) same) in
    let lengths : length b.entries ≡ length a.entries = b_square.whole ∙ ap₂ (λ m n. m * n) sides sides ∙ sym a_square.whole in
    get_or_read a.entries at x inside x_is (pos 0) ∙ same_places a b a_square sides both at inside ∙ sym (get_or_read b.entries at y (omega (arith, lengths, inside)) y_is (pos 0))
