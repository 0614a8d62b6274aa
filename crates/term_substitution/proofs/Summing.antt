-- The constants of images are added up.
use Rattle.std.proofs.Common.{◌≡◌, ℕ, ◌+◌, ◌*◌, ◌^◌, ◌≤◌, ◌<◌, List, ◌∷◌, length, drop, get_or, arith, subst, unsigned_abs}
use Rattle.std.proofs.Math.IntN.{ℤ, pos, ◌+ℤ◌, ◌*ℤ◌}
use Rattle.std.proofs.lemmas.Int.{ints}
use Rattle.std.proofs.lemmas.List.{drop_more}
use Rattle.lash_model.specs.Formulas.{Linear, coefficient_sum}
use Rattle.term_substitution.specs.Substitution.{image, constants_of}

-- the sum so far, with what is still to come
pub record IsSumming (terms : List Linear) (items rest : List (ℕ × ℤ)) (sum : ℤ) : Type 0 where
  pub same : (places : ℕ) → constants_of terms places items ≡ sum +ℤ constants_of terms places rest
  pub small : unsigned_abs sum + coefficient_sum rest * 2 ^ 88 ≤ 2 ^ 112
  pub few : coefficient_sum rest ≤ 2 ^ 24

pub summing_begins : (terms : List Linear) (items : List (ℕ × ℤ)) → coefficient_sum items ≤ 2 ^ 24 → IsSumming terms items items (pos 0)
summing_begins terms items few = record {
  same = λ places. omega (arith, ints);
  small = omega (arith, few);
  few = few;
}

first : (terms : List Linear) (items : List (ℕ × ℤ)) (t : ℕ × ℤ) (rest : List (ℕ × ℤ)) (sum : ℤ) → IsSumming terms items (t ∷ rest) sum → unsigned_abs t.1 ≤ 2 ^ 24
unfolding coefficient_sum
first terms items t rest sum h = omega (arith, h.few)

pub summing_first : (terms : List Linear) (items : List (ℕ × ℤ)) (k : ℕ) (d : ℕ × ℤ) (sum : ℤ) → k < length items → IsSumming terms items (drop k items) sum → unsigned_abs (get_or items k d).1 ≤ 2 ^ 24
summing_first terms items k d sum lt h = first terms items (get_or items k d) (drop (k + 1) items) sum (subst (λ xs. IsSumming terms items xs sum) (drop_more items k d lt) h)

sum_abs : (a b : ℤ) → unsigned_abs (a +ℤ b) ≤ unsigned_abs a + unsigned_abs b
sum_abs a b = grind (arith, ints)

next : (terms : List Linear) (items : List (ℕ × ℤ)) (t : ℕ × ℤ) (rest : List (ℕ × ℤ)) (sum x : ℤ) → IsSumming terms items (t ∷ rest) sum → ((places : ℕ) → x ≡ t.1 *ℤ (image terms places t.0).constant) → unsigned_abs x ≤ unsigned_abs t.1 * 2 ^ 88 → IsSumming terms items rest (sum +ℤ x)
unfolding coefficient_sum
next terms items t rest sum x h is small = record {
  same = λ places. omega (arith, ints, h.same places, is places);
  small = omega (arith, h.small, small, sum_abs sum x);
  few = omega (arith, h.few);
}

pub summing_next : (terms : List Linear) (items : List (ℕ × ℤ)) (k : ℕ) (d : ℕ × ℤ) (sum x : ℤ) → k < length items → IsSumming terms items (drop k items) sum → ((places : ℕ) → x ≡ (get_or items k d).1 *ℤ (image terms places (get_or items k d).0).constant) → unsigned_abs x ≤ unsigned_abs (get_or items k d).1 * 2 ^ 88 → IsSumming terms items (drop (k + 1) items) (sum +ℤ x)
summing_next terms items k d sum x lt h is small = next terms items (get_or items k d) (drop (k + 1) items) sum x (subst (λ xs. IsSumming terms items xs sum) (drop_more items k d lt) h) is small

-- the next sum has room
pub summing_room : (terms : List Linear) (items rest : List (ℕ × ℤ)) (sum : ℤ) → IsSumming terms items rest sum → unsigned_abs sum ≤ 2 ^ 112
summing_room terms items rest sum h = omega (arith, h.small)
