-- Every vector of integers is spelled by a sign vector and a word: the entries have words of one length on one track each, and these
-- are read in step.
use Rattle.std.proofs.Common.{◌≡◌, ℕ, zero, suc, ◌+◌, ◌*◌, ◌/◌, ◌^◌, ◌≤◌, ◌<◌, List, [], ◌∷◌, length, arith, refl, ◌∙◌, sym, ap, ap₂, subst, unsigned_abs}
use Rattle.std.proofs.Math.IntN.{ℤ, pos, negsuc, ◌-ℤ◌}
use Rattle.std.proofs.Math.Nat.{pow-suc, pow-zero, pow-le-pow_left, div-one}
use Rattle.std.proofs.lemmas.List.Elements.{recursion_from_All, All-from_recursion}
use Rattle.std.proofs.lemmas.Nat.{div-mul-add, mod-mul-add}
use Rattle.std.specs.Prelude.{All, slice_index}
use Rattle.std.specs.List.{AllByRecursion}
use Rattle.integer_laws.specs.Vectors.{vector_from}
use Rattle.integer_laws.proofs.Entries.{vector_from_same}
use Rattle.lash_model.specs.Letters.{digits, digit, sign_bit}
use Rattle.lash_model.specs.Words.{spelled, value, values, SpellsNumber}
use Rattle.lash_model.proofs.Numbers.{word_for_natural, word_for_negative}

-- a sign vector and a word over n tracks spell the vector
pub record SpellsVector (r n : ℕ) (ns : List ℤ) : Type 0 where
  pub sign : ℕ
  pub word : List ℕ
  pub sign_below : sign < 2 ^ n
  pub letters : All (λ l. l < r ^ n) word
  pub is : values r n sign word ≡ ns

-- the letters of two words of one length, joined: the track of the first word becomes the highest of n + 1 tracks
joined : ℕ → ℕ → List ℕ → List ℕ → List ℕ
joined r n [] w = []
joined r n (d ∷ ds) [] = []
joined r n (d ∷ ds) (l ∷ w) = (d * r ^ n + l) ∷ joined r n ds w

-- ---- one letter
high_digit : (r n d l : ℕ) → l < r ^ n → digit r (suc n) 0 (d * r ^ n + l) ≡ d
unfolding digit digits
high_digit r n d l lt = div-mul-add d (r ^ n) l lt

low_digit : (r n i d l : ℕ) → l < r ^ n → digit r (suc n) (suc i) (d * r ^ n + l) ≡ digit r n i l
unfolding digit digits
low_digit r n i d l lt = ap (λ x. slice_index (digits r n x) i) (mod-mul-add d (r ^ n) l lt)

only_digit : (r d : ℕ) → digit r 1 0 d ≡ d
unfolding digit digits
only_digit r d = ap (λ p. d / p) (pow-zero r) ∙ div-one d

joined_below : (r p d l : ℕ) → d < r → l < p → d * p + l < p * r
joined_below r p d l h k = grind arith

letter_below : (r n d l : ℕ) → d < r → l < r ^ n → d * r ^ n + l < r ^ suc n
letter_below r n d l h k = subst (λ q. d * r ^ n + l < q) (sym (pow-suc r n)) (joined_below r (r ^ n) d l h k)

-- ---- words
length-joined : (r n : ℕ) (ds w : List ℕ) → length ds ≡ length w → length (joined r n ds w) ≡ length ds
unfolding joined
length-joined r n [] w e = refl
length-joined r n (d ∷ ds) [] e = absurd (omega (arith, e))
length-joined r n (d ∷ ds) (l ∷ w) e = ap suc (length-joined r n ds w (omega (arith, e)))

letters_below : (r n : ℕ) (ds w : List ℕ) → AllByRecursion (λ d. d < r) ds → AllByRecursion (λ l. l < r ^ n) w → AllByRecursion (λ l. l < r ^ suc n) (joined r n ds w)
unfolding joined
letters_below r n [] w h k = tt
letters_below r n (d ∷ ds) [] h k = tt
letters_below r n (d ∷ ds) (l ∷ w) h k = (letter_below r n d l h.0 k.0, letters_below r n ds w h.1 k.1)

high_spelled : (r n : ℕ) (ds w : List ℕ) → length ds ≡ length w → AllByRecursion (λ l. l < r ^ n) w → spelled r (suc n) 0 (joined r n ds w) ≡ spelled r 1 0 ds
unfolding joined spelled
high_spelled r n [] w e k = refl
high_spelled r n (d ∷ ds) [] e k = absurd (omega (arith, e))
high_spelled r n (d ∷ ds) (l ∷ w) e k =
    ap (λ x. x * r ^ length (joined r n ds w) + spelled r (suc n) 0 (joined r n ds w)) (high_digit r n d l k.0 ∙ sym (only_digit r d))
    ∙ ap (λ x. digit r 1 0 d * r ^ x + spelled r (suc n) 0 (joined r n ds w)) (length-joined r n ds w (omega (arith, e)))
    ∙ ap (λ x. digit r 1 0 d * r ^ length ds + x) (high_spelled r n ds w (omega (arith, e)) k.1)

low_spelled : (r n i : ℕ) (ds w : List ℕ) → length ds ≡ length w → AllByRecursion (λ l. l < r ^ n) w → spelled r (suc n) (suc i) (joined r n ds w) ≡ spelled r n i w
unfolding joined spelled
low_spelled r n i [] [] e k = refl
low_spelled r n i [] (l ∷ w) e k = absurd (omega (arith, e))
low_spelled r n i (d ∷ ds) [] e k = absurd (omega (arith, e))
low_spelled r n i (d ∷ ds) (l ∷ w) e k =
    ap (λ x. x * r ^ length (joined r n ds w) + spelled r (suc n) (suc i) (joined r n ds w)) (low_digit r n i d l k.0)
    ∙ ap (λ x. digit r n i l * r ^ x + spelled r (suc n) (suc i) (joined r n ds w)) (length-joined r n ds w (omega (arith, e)) ∙ omega (arith, e))
    ∙ ap (λ x. digit r n i l * r ^ length w + x) (low_spelled r n i ds w (omega (arith, e)) k.1)

-- ---- values
high_value : (r n s t : ℕ) (ds w : List ℕ) → length ds ≡ length w → t < 2 ^ n → AllByRecursion (λ l. l < r ^ n) w → value r (suc n) 0 (s * 2 ^ n + t) (joined r n ds w) ≡ value r 1 0 s ds
unfolding value sign_bit
high_value r n s t ds w e lt k =
    ap₂ (λ x y. pos x -ℤ pos (digit 2 (suc n) 0 (s * 2 ^ n + t) * r ^ y)) (high_spelled r n ds w e k) (length-joined r n ds w e)
    ∙ ap (λ b. pos (spelled r 1 0 ds) -ℤ pos (b * r ^ length ds)) (high_digit 2 n s t lt ∙ sym (only_digit 2 s))

low_value : (r n i s t : ℕ) (ds w : List ℕ) → length ds ≡ length w → t < 2 ^ n → AllByRecursion (λ l. l < r ^ n) w → value r (suc n) (suc i) (s * 2 ^ n + t) (joined r n ds w) ≡ value r n i t w
unfolding value sign_bit
low_value r n i s t ds w e lt k =
    ap₂ (λ x y. pos x -ℤ pos (digit 2 (suc n) (suc i) (s * 2 ^ n + t) * r ^ y)) (low_spelled r n i ds w e k) (length-joined r n ds w e ∙ e)
    ∙ ap (λ b. pos (spelled r n i w) -ℤ pos (b * r ^ length w)) (low_digit 2 n i s t lt)

vector_moved : (f : ℕ → ℤ) (i n : ℕ) → vector_from f (suc i) n ≡ vector_from (λ j. f (suc j)) i n
unfolding vector_from
vector_moved f i zero = refl
vector_moved f i (suc n) = ap (λ xs. f (suc i) ∷ xs) (vector_moved f (suc i) n)

joined_values : (r n s t : ℕ) (ds w : List ℕ) → length ds ≡ length w → t < 2 ^ n → AllByRecursion (λ l. l < r ^ n) w → values r (suc n) (s * 2 ^ n + t) (joined r n ds w) ≡ value r 1 0 s ds ∷ values r n t w
unfolding vector_from
joined_values r n s t ds w e lt k =
    ap₂ (λ x xs. x ∷ xs) (high_value r n s t ds w e lt k)
    (vector_moved (λ i. value r (suc n) i (s * 2 ^ n + t) (joined r n ds w)) 0 n
    ∙ vector_from_same (λ i. value r (suc n) (suc i) (s * 2 ^ n + t) (joined r n ds w)) (λ i. value r n i t w) 0 n (λ i from to. low_value r n i s t ds w e lt k))

-- ---- vectors, by words of one length
record SpellsAt (r k n : ℕ) (ns : List ℤ) : Type 0 where
  sign : ℕ
  word : List ℕ
  sign_below : sign < 2 ^ n
  letters : AllByRecursion (λ l. l < r ^ n) word
  count : length word ≡ k
  is : values r n sign word ≡ ns

one_more : (r k n : ℕ) (m : ℤ) (ns : List ℤ) → SpellsNumber r k m → SpellsAt r k n ns → SpellsAt r k (suc n) (m ∷ ns)
one_more r k n m ns a b = let same : length a.word ≡ length b.word = a.count ∙ sym b.count in record {
  sign = a.sign * 2 ^ n + b.sign;
  word = joined r n a.word b.word;
  sign_below = letter_below 2 n a.sign b.sign a.sign_below b.sign_below;
  letters = letters_below r n a.word b.word (recursion_from_All (λ l. l < r) a.word a.letters) b.letters;
  count = length-joined r n a.word b.word same ∙ a.count;
  is = joined_values r n a.sign b.sign a.word b.word same b.sign_below b.letters ∙ ap₂ (λ x xs. x ∷ xs) a.is b.is;
}

zeros : ℕ → List ℕ
zeros zero = []
zeros (suc k) = 0 ∷ zeros k

length-zeros : (k : ℕ) → length (zeros k) ≡ k
unfolding zeros
length-zeros zero = refl
length-zeros (suc k) = ap suc (length-zeros k)

zeros_below : (r k : ℕ) → AllByRecursion (λ l. l < r ^ 0) (zeros k)
unfolding zeros
zeros_below r zero = tt
zeros_below r (suc k) = (subst (λ p. 0 < p) (sym (pow-zero r)) (omega arith), zeros_below r k)

no_tracks : (r k : ℕ) → SpellsAt r k 0 []
unfolding vector_from
no_tracks r k = record {
  sign = 0;
  word = zeros k;
  sign_below = subst (λ p. 0 < p) (sym (pow-zero 2)) (omega arith);
  letters = zeros_below r k;
  count = length-zeros k;
  is = refl;
}

-- the sum of the magnitudes is a length that suffices for each entry
magnitudes : List ℤ → ℕ
magnitudes [] = 0
magnitudes (m ∷ ns) = unsigned_abs m + magnitudes ns

below_power : (n : ℕ) → n < 2 ^ n
below_power zero = rw (pow-zero 2) (omega arith)
below_power (suc n) = omega (arith, pow-suc 2 n, below_power n)

below_base_power : (r k n : ℕ) → 2 ≤ r → n ≤ k → n < r ^ k
below_base_power r k n h lt = omega (arith, lt, below_power k, pow-le-pow_left h k)

number_word : (r k : ℕ) (m : ℤ) → 2 ≤ r → unsigned_abs m ≤ k → SpellsNumber r k m
number_word r k (pos n) h lt = word_for_natural r k n (omega (arith, h)) (below_base_power r k n h lt)
number_word r k (negsuc n) h lt = word_for_negative r k n (omega (arith, h)) (below_base_power r k n h (omega (arith, lt)))

spelled_at : (r k : ℕ) (ns : List ℤ) → 2 ≤ r → magnitudes ns ≤ k → SpellsAt r k (length ns) ns
unfolding magnitudes
spelled_at r k [] h lt = no_tracks r k
spelled_at r k (m ∷ ns) h lt = one_more r k (length ns) m ns (number_word r k m h (omega (arith, lt))) (spelled_at r k ns h (omega (arith, lt)))

-- each vector is spelled, in any base
pub vector_word : (r : ℕ) (ns : List ℤ) → 2 ≤ r → SpellsVector r (length ns) ns
vector_word r ns h = let s = spelled_at r (magnitudes ns) ns h (omega arith) in record {
  sign = s.sign;
  word = s.word;
  sign_below = s.sign_below;
  letters = All-from_recursion (λ l. l < r ^ length ns) s.word s.letters;
  is = s.is;
}
