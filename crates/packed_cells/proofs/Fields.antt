-- Bits of a number that is given in words: they are those of the one or two words that they lie in.
use Rattle.std.proofs.Common.{◌≡◌, ℕ, zero, suc, ◌+◌, ◌-◌, ◌*◌, ◌/◌, ◌%◌, ◌^◌, ◌<◌, ◌≤◌, Bool, true, false, List, length, slice_index, slice_set, drop, nat_le, arith, refl, ◌∙◌, sym, ap, subst}
use Rattle.std.proofs.Math.Nat.{pow-suc, pow-zero, div-div-eq-div-mul, add-mul-mod_self_right, add-mul-div_right, mul-le-mul_right}
use Rattle.std.proofs.lemmas.Nat.{pow_pos, mod_below, shl_whole, pow-add, div-add-mod', mul-add-lt, div_below}
use Rattle.std.proofs.lemmas.List.{get_or-set_other, length-set}
use Rattle.std.proofs.lemmas.Bool.{le-leb, lt-leb, leb-true, leb-false}
use Rattle.packed_cells.specs.Digits.{number_of, digits_of}
use Rattle.packed_cells.specs.Cells.{pair_of}
use Rattle.packed_cells.proofs.Digits.{digit_at, digits_changed, length-digits_of, number_changed, number_from, number_from_next}

-- bits above a field do not matter to it
field_kept : (x k s b : ℕ) → (x + k * 2 ^ (s + b)) / 2 ^ s % 2 ^ b ≡ x / 2 ^ s % 2 ^ b
field_kept x k s b =
    ap (λ n. n / 2 ^ s % 2 ^ b) (shifted x k s b)
    ∙ ap (λ n. n % 2 ^ b) (add-mul-div_right x (k * 2 ^ b) (pow_pos s))
    ∙ add-mul-mod_self_right (x / 2 ^ s) k (2 ^ b)
  where
    shifted : (x k s b : ℕ) → x + k * 2 ^ (s + b) ≡ x + k * 2 ^ b * 2 ^ s
    shifted x k s b = omega (arith, ap (λ n. k * n) (pow-add 2 s b))

-- the parts of a number: below a field, the field, above it
parts : (pair s b : ℕ) → pair ≡ (pair / 2 ^ s / 2 ^ b * 2 ^ b + pair / 2 ^ s % 2 ^ b) * 2 ^ s + pair % 2 ^ s
parts pair s b = sym (div-add-mod' pair (2 ^ s)) ∙ ap (λ n. n * 2 ^ s + pair % 2 ^ s) (sym (div-add-mod' (pair / 2 ^ s) (2 ^ b)))

field_replaced : (pair s b v e : ℕ) → v < 2 ^ b → pair < 2 ^ (s + (b + e)) → pair - pair / 2 ^ s % 2 ^ b * 2 ^ s + v * 2 ^ s < 2 ^ (s + (b + e))
field_replaced pair s b v e hv h = omega (arith, parts pair s b, joined, pow-add 2 s (b + e), ap (λ n. 2 ^ s * n) (pow-add 2 b e))
  where
    few : pair / 2 ^ s / 2 ^ b < 2 ^ e
    few = div_below (pair / 2 ^ s) (2 ^ b) (2 ^ e) (pow_pos b) (div_below pair (2 ^ s) (2 ^ e * 2 ^ b) (pow_pos s) (omega (arith, h, pow-add 2 s (b + e), ap (λ n. 2 ^ s * n) (pow-add 2 b e))))

    joined : (pair / 2 ^ s / 2 ^ b * 2 ^ b + v) * 2 ^ s + pair % 2 ^ s < 2 ^ s * (2 ^ b * 2 ^ e)
    joined = mul-add-lt (pair / 2 ^ s / 2 ^ b * 2 ^ b + v) (2 ^ s) (pair % 2 ^ s) (2 ^ b * 2 ^ e) (mul-add-lt (pair / 2 ^ s / 2 ^ b) (2 ^ b) v (2 ^ e) few hv) (mod_below pair (2 ^ s) (pow_pos s))

-- the same as words of 128 bits compute it, within so many bits
pub replaced_fits : (pair s b old v top : ℕ) → old ≡ pair / 2 ^ s % 2 ^ b → s < 64 → b ≤ 32 → v < 2 ^ b → s + b ≤ top → pair < 2 ^ top → pair - old * 2 ^ s % 2 ^ 128 + v * 2 ^ s % 2 ^ 128 < 2 ^ top
replaced_fits pair s b old v top is hs hb hv few h =
    rw (shl_whole old b s 128 (subst (λ k. k < 2 ^ b) (sym is) (mod_below (pair / 2 ^ s) (2 ^ b) (pow_pos b))) (omega arith), shl_whole v b s 128 hv (omega arith), is)
    (subst (λ k. pair - pair / 2 ^ s % 2 ^ b * 2 ^ s + v * 2 ^ s < 2 ^ k) (whole s b top few) (field_replaced pair s b v (top - (s + b)) hv (subst (λ k. pair < 2 ^ k) (sym (whole s b top few)) h)))
  where
    whole : (s b top : ℕ) → s + b ≤ top → s + (b + (top - (s + b))) ≡ top
    whole s b top h = omega arith

power_twice : (a m n : ℕ) → (a ^ m) ^ n ≡ a ^ (n * m)
power_twice a m zero = pow-zero (a ^ m) ∙ sym (ap (λ k. a ^ k) (none m) ∙ pow-zero a)
  where
    none : (m : ℕ) → 0 * m ≡ 0
    none m = omega arith
power_twice a m (suc n) = pow-suc (a ^ m) n ∙ ap (λ k. k * a ^ m) (power_twice a m n) ∙ sym (pow-add a (n * m) m) ∙ ap (λ k. a ^ k) (more m n)
  where
    more : (m n : ℕ) → n * m + m ≡ suc n * m
    more m n = omega arith

-- a bit place is so many words and so many bits
pub place_power : (place : ℕ) → 2 ^ place ≡ (2 ^ 64) ^ (place / 64) * 2 ^ (place % 64)
place_power place = ap (λ k. 2 ^ k) (sym (div-add-mod' place 64)) ∙ pow-add 2 (place / 64 * 64) (place % 64) ∙ ap (λ k. k * 2 ^ (place % 64)) (sym (power_twice 2 64 (place / 64)))

record Rest (ws : List ℕ) (word end : ℕ) : Type 0 where
  above : ℕ
  split : number_of (2 ^ 64) (drop word ws) ≡ pair_of ws word end + above * 2 ^ end

-- the words above an end, moved down to it
joined : (n end top : ℕ) → end ≤ top → n * 2 ^ (top - end) * 2 ^ end ≡ n * 2 ^ top
joined n end top h = grouped n (2 ^ (top - end)) (2 ^ end) ∙ ap (λ k. n * k) (sym (pow-add 2 (top - end) end) ∙ ap (λ k. 2 ^ k) (whole end top h))
  where
    grouped : (n a b : ℕ) → n * a * b ≡ n * (a * b)
    grouped n a b = omega arith

    whole : (end top : ℕ) → end ≤ top → top - end + end ≡ top
    whole end top h = omega arith

plus : (n : ℕ) → suc n ≡ n + 1
plus n = omega arith

pub one_word : (ws : List ℕ) (word end : ℕ) → end ≤ 64 → pair_of ws word end ≡ slice_index ws word
one_word ws word end h = rw (le-leb end 64 h) refl

pub two_words : (ws : List ℕ) (word end : ℕ) → 64 < end → pair_of ws word end ≡ slice_index ws word + slice_index ws (word + 1) * 2 ^ 64
two_words ws word end h = rw (lt-leb end 64 h) refl

rest_by : (b : Bool) (ws : List ℕ) (word end : ℕ) → nat_le end 64 ≡ b → word < length ws → (64 < end → suc word < length ws) → end ≤ 128 → Rest ws word end
rest_by true ws word end e h h2 few = record {
  above = number_of (2 ^ 64) (drop (suc word) ws) * 2 ^ (64 - end);
  split = number_from_next (2 ^ 64) ws word h ∙ rw e (omega (arith, joined (number_of (2 ^ 64) (drop (suc word) ws)) end 64 (leb-true end 64 e)));
}
rest_by false ws word end e h h2 few = record {
  above = number_of (2 ^ 64) (drop (suc (suc word)) ws) * 2 ^ (128 - end);
  split = number_from_next (2 ^ 64) ws word h ∙ ap (λ n. slice_index ws word + 2 ^ 64 * n) (number_from_next (2 ^ 64) ws (suc word) (h2 (leb-false end 64 e))) ∙ rw e (omega (arith, ap (λ n. slice_index ws n) (plus word), joined (number_of (2 ^ 64) (drop (suc (suc word)) ws)) end 128 few));
}

pub field_of_pair : (ws : List ℕ) (place bits : ℕ) → ((i : ℕ) → slice_index ws i < 2 ^ 64) → 1 ≤ bits → bits ≤ 32 → place + bits ≤ length ws * 64 → pair_of ws (place / 64) (place % 64 + bits) / 2 ^ (place % 64) % 2 ^ bits ≡ number_of (2 ^ 64) ws / 2 ^ place % 2 ^ bits
field_of_pair ws place bits all some few within =
    sym (field_kept (pair_of ws word (shift + bits)) rest.above shift bits)
    ∙ ap (λ n. n / 2 ^ shift % 2 ^ bits) (sym rest.split ∙ sym (number_from (2 ^ 64) ws word (omega arith) all))
    ∙ ap (λ n. n % 2 ^ bits) (div-div-eq-div-mul (number_of (2 ^ 64) ws) ((2 ^ 64) ^ word) (2 ^ shift) ∙ ap (λ n. number_of (2 ^ 64) ws / n) (sym (place_power place)))
  where
    word : ℕ
    word = place / 64

    shift : ℕ
    shift = place % 64

    rest : Rest ws word (shift + bits)
    rest = rest_by (nat_le (shift + bits) 64) ws word (shift + bits) refl (omega arith) (λ h. omega arith) (omega arith)

other_kept : (ws : List ℕ) (word x : ℕ) → slice_index (slice_set ws word x) (suc word) ≡ slice_index ws (suc word)
other_kept ws word x = get_or-set_other ws word (suc word) x 0 (λ e. absurd (omega arith))

second_changed : (ws : List ℕ) (word x y : ℕ) → suc word < length ws → number_of (2 ^ 64) (slice_set (slice_set ws word x) (suc word) y) + slice_index ws (suc word) * (2 ^ 64) ^ suc word ≡ number_of (2 ^ 64) (slice_set ws word x) + y * (2 ^ 64) ^ suc word
second_changed ws word x y h = ap (λ k. number_of (2 ^ 64) (slice_set (slice_set ws word x) (suc word) y) + k * (2 ^ 64) ^ suc word) (sym (other_kept ws word x)) ∙ number_changed (2 ^ 64) (slice_set ws word x) (suc word) y (omega (arith, h, length-set ws word x))

-- two words in a row changed to the two halves of a number
next_changed : (ws : List ℕ) (word c : ℕ) → suc word < length ws → number_of (2 ^ 64) (slice_set (slice_set ws word (c % 2 ^ 64)) (suc word) (c / 2 ^ 64)) + (slice_index ws word + slice_index ws (suc word) * 2 ^ 64) * (2 ^ 64) ^ word ≡ number_of (2 ^ 64) ws + c * (2 ^ 64) ^ word
next_changed ws word c h =
    omega (arith, second_changed ws word (c % 2 ^ 64) (c / 2 ^ 64) h, number_changed (2 ^ 64) ws word (c % 2 ^ 64) (omega (arith, h)), ap (λ k. slice_index ws (suc word) * k) (pow-suc (2 ^ 64) word), ap (λ k. c / 2 ^ 64 * k) (pow-suc (2 ^ 64) word), ap (λ k. k * (2 ^ 64) ^ word) (div-add-mod' c (2 ^ 64)))

pub pair_changed : (ws : List ℕ) (word c : ℕ) → word + 1 < length ws → number_of (2 ^ 64) (slice_set (slice_set ws word (c % 2 ^ 64)) (word + 1) (c / 2 ^ 64)) + (slice_index ws word + slice_index ws (word + 1) * 2 ^ 64) * (2 ^ 64) ^ word ≡ number_of (2 ^ 64) ws + c * (2 ^ 64) ^ word
pair_changed ws word c h = rw (sym (plus word)) (next_changed ws word c (omega (arith, h)))

-- a field of the number changed, from a pair of words changed
exchanged : (n m pair c old v unit shift : ℕ) → m + pair * unit ≡ n + c * unit → c + old * shift ≡ pair + v * shift → m + old * (unit * shift) ≡ n + v * (unit * shift)
exchanged n m pair c old v unit shift e f = omega (arith, e, ap (λ k. k * unit) f)

pub number_exchanged : (ws changed : List ℕ) (place bits pair c value : ℕ) → ((i : ℕ) → slice_index ws i < 2 ^ 64) → 1 ≤ bits → bits ≤ 32 → place + bits ≤ length ws * 64 → pair ≡ pair_of ws (place / 64) (place % 64 + bits) → c + pair / 2 ^ (place % 64) % 2 ^ bits * 2 ^ (place % 64) ≡ pair + value * 2 ^ (place % 64) → number_of (2 ^ 64) changed + pair * (2 ^ 64) ^ (place / 64) ≡ number_of (2 ^ 64) ws + c * (2 ^ 64) ^ (place / 64) → number_of (2 ^ 64) changed + number_of (2 ^ 64) ws / 2 ^ place % 2 ^ bits * 2 ^ place ≡ number_of (2 ^ 64) ws + value * 2 ^ place
number_exchanged ws changed place bits pair c value all some few within is f e =
    ap (λ k. number_of (2 ^ 64) changed + k * 2 ^ place) (sym read)
    ∙ ap (λ k. number_of (2 ^ 64) changed + pair / 2 ^ (place % 64) % 2 ^ bits * k) (place_power place)
    ∙ exchanged (number_of (2 ^ 64) ws) (number_of (2 ^ 64) changed) pair c (pair / 2 ^ (place % 64) % 2 ^ bits) value ((2 ^ 64) ^ (place / 64)) (2 ^ (place % 64)) e f
    ∙ ap (λ k. number_of (2 ^ 64) ws + value * k) (sym (place_power place))
  where
    read : pair / 2 ^ (place % 64) % 2 ^ bits ≡ number_of (2 ^ 64) ws / 2 ^ place % 2 ^ bits
    read = ap (λ k. k / 2 ^ (place % 64) % 2 ^ bits) is ∙ field_of_pair ws place bits all some few within

-- a cell is the field at its place
pub cell_read : (ws : List ℕ) (bits count at : ℕ) → at < count → slice_index (digits_of (2 ^ bits) count (number_of (2 ^ 64) ws)) at ≡ number_of (2 ^ 64) ws / 2 ^ (at * bits) % 2 ^ bits
cell_read ws bits count at h = digit_at (2 ^ bits) count (number_of (2 ^ 64) ws) at h ∙ ap (λ k. number_of (2 ^ 64) ws / k % 2 ^ bits) (power_twice 2 bits at)

pub cell_written : (ws changed : List ℕ) (bits count at value : ℕ) → at < count → value < 2 ^ bits → number_of (2 ^ 64) changed + number_of (2 ^ 64) ws / 2 ^ (at * bits) % 2 ^ bits * 2 ^ (at * bits) ≡ number_of (2 ^ 64) ws + value * 2 ^ (at * bits) → digits_of (2 ^ bits) count (number_of (2 ^ 64) changed) ≡ slice_set (digits_of (2 ^ bits) count (number_of (2 ^ 64) ws)) at value
cell_written ws changed bits count at value h hv e =
    digits_changed (2 ^ bits) count (number_of (2 ^ 64) ws) (number_of (2 ^ 64) changed) at value (pow_pos bits) h hv
    (rw (power_twice 2 bits at, cell_read ws bits count at h) e)

-- the bits of a cell lie within those of all
pub within_all : (at count bits top : ℕ) → at < count → count * bits ≤ top → at * bits + bits ≤ top
within_all at count bits top h few = omega (arith, few, mul-le-mul_right bits h)

pub cell_within : (bits count n at : ℕ) (items : List ℕ) → digits_of (2 ^ bits) count n ≡ items → at < length items → at < count
cell_within bits count n at items is h = subst (λ k. at < k) (ap length (sym is) ∙ length-digits_of (2 ^ bits) count n) h
