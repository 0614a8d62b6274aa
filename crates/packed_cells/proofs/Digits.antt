-- The digits of a number: each is a quotient less whole bases, and a change at one place of the number changes that digit alone.
use Rattle.std.proofs.Common.{◌≡◌, ℕ, zero, suc, ◌+◌, ◌*◌, ◌/◌, ◌%◌, ◌^◌, ◌<◌, List, [], ◌∷◌, length, slice_index, slice_set, replicate, drop, arith, refl, ◌∙◌, sym, ap, ap₂}
use Rattle.std.proofs.Math.Nat.{pow-suc, pow-zero, mod-eq_of_lt, zero-div, div-div-eq-div-mul, add-mul-mod_self_right, add-mul-div_right}
use Rattle.std.proofs.lemmas.Nat.{div-add-mod', div-mul-add, mod-mul-add}
use Rattle.packed_cells.specs.Digits.{number_of, digits_of}

pub length-digits_of : (base count n : ℕ) → length (digits_of base count n) ≡ count
length-digits_of base zero n = refl
length-digits_of base (suc count) n = ap suc (length-digits_of base count (n / base))

pub digits_of-zero : (base count : ℕ) → 0 < base → digits_of base count 0 ≡ replicate count 0
digits_of-zero base zero b = refl
digits_of-zero base (suc count) b = ap₂ (λ d ds. d ∷ ds) (mod-eq_of_lt b) (ap (digits_of base count) (zero-div base) ∙ digits_of-zero base count b)

pub number_of-zeros : (base count : ℕ) → number_of base (replicate count 0) ≡ 0
number_of-zeros base zero = refl
number_of-zeros base (suc count) = omega (arith, ap (λ k. base * k) (number_of-zeros base count))

next_quotient : (base n at : ℕ) → n / base / base ^ at ≡ n / base ^ suc at
next_quotient base n at = div-div-eq-div-mul n base (base ^ at) ∙ ap (λ k. n / k) (turned base at)
  where
    turned : (base at : ℕ) → base * base ^ at ≡ base ^ suc at
    turned base at = omega (arith, pow-suc base at)

by_one : (base n : ℕ) → n / base ^ 0 ≡ n
by_one base n = ap (λ k. n / k) (pow-zero base) ∙ less n
  where
    less : (n : ℕ) → n / 1 ≡ n
    less n = omega arith

pub digit_at : (base count n at : ℕ) → at < count → slice_index (digits_of base count n) at ≡ n / base ^ at % base
digit_at base zero n at h = absurd (omega arith)
digit_at base (suc count) n zero h = ap (λ k. k % base) (sym (by_one base n))
digit_at base (suc count) n (suc at) h = digit_at base count (n / base) at (omega arith) ∙ ap (λ k. k % base) (next_quotient base n at)

lowest_changed : (base n m new : ℕ) → new < base → m + n % base ≡ n + new → m ≡ n / base * base + new
lowest_changed base n m new h e = omega (arith, div-add-mod' n base)

pub digits_changed : (base count n m at new : ℕ) → 0 < base → at < count → new < base → m + slice_index (digits_of base count n) at * base ^ at ≡ n + new * base ^ at → digits_of base count m ≡ slice_set (digits_of base count n) at new
digits_changed base zero n m at new b h d e = absurd (omega arith)
digits_changed base (suc count) n m zero new b h d e =
    let same = lowest_changed base n m new d (omega (arith, pow-zero base, e, ap (λ k. n % base * k) (pow-zero base), ap (λ k. new * k) (pow-zero base))) in
    ap₂ (λ x y. x ∷ digits_of base count y) (ap (λ k. k % base) same ∙ mod-mul-add (n / base) base new d) (ap (λ k. k / base) same ∙ div-mul-add (n / base) base new d)
digits_changed base (suc count) n m (suc at) new b h d e =
    ap₂ (λ x ys. x ∷ ys)
    (sym (add-mul-mod_self_right m (old * base ^ at) base) ∙ ap (λ k. k % base) scaled ∙ add-mul-mod_self_right n (new * base ^ at) base)
    (digits_changed base count (n / base) (m / base) at new b (omega arith) d (sym (add-mul-div_right m (old * base ^ at) b) ∙ ap (λ k. k / base) scaled ∙ add-mul-div_right n (new * base ^ at) b))
  where
    old : ℕ
    old = slice_index (digits_of base count (n / base)) at

    scaled : m + old * base ^ at * base ≡ n + new * base ^ at * base
    scaled = omega (arith, e, ap (λ k. old * k) (pow-suc base at), ap (λ k. new * k) (pow-suc base at))

pub number_changed : (base : ℕ) (ws : List ℕ) (at new : ℕ) → at < length ws → number_of base (slice_set ws at new) + slice_index ws at * base ^ at ≡ number_of base ws + new * base ^ at
number_changed base [] at new h = absurd (omega arith)
number_changed base (w ∷ ws) zero new h = omega (arith, ap (λ k. w * k) (pow-zero base), ap (λ k. new * k) (pow-zero base))
number_changed base (w ∷ ws) (suc at) new h = omega (arith, ap (λ k. base * k) (number_changed base ws at new (omega arith)), ap (λ k. slice_index ws at * k) (pow-suc base at), ap (λ k. new * k) (pow-suc base at))

-- the digits from a place on are the quotient
pub number_from : (base : ℕ) (ws : List ℕ) (at : ℕ) → 0 < base → ((i : ℕ) → slice_index ws i < base) → number_of base ws / base ^ at ≡ number_of base (drop at ws)
number_from base ws zero b all = by_one base (number_of base ws)
number_from base [] (suc at) b all = zero-div (base ^ suc at)
number_from base (w ∷ ws) (suc at) b all =
    sym (next_quotient base (number_of base (w ∷ ws)) at)
    ∙ ap (λ k. k / base ^ at) (ap (λ k. k / base) (turned base w (number_of base ws)) ∙ div-mul-add (number_of base ws) base w (all 0))
    ∙ number_from base ws at b (λ i. all (suc i))
  where
    turned : (base w n : ℕ) → w + base * n ≡ n * base + w
    turned base w n = omega arith

pub number_from_next : (base : ℕ) (ws : List ℕ) (at : ℕ) → at < length ws → number_of base (drop at ws) ≡ slice_index ws at + base * number_of base (drop (suc at) ws)
number_from_next base [] at h = absurd (omega arith)
number_from_next base (w ∷ ws) zero h = refl
number_from_next base (w ∷ ws) (suc at) h = number_from_next base ws at (omega arith)
