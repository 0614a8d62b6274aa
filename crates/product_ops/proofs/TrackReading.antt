-- Reading digits at places: one place more, what is read is a letter, and the values of what is read are those at the places.
use Rattle.std.proofs.Common.{◌≡◌, ℕ, zero, suc, ◌+◌, ◌*◌, ◌^◌, ◌<◌, ◌≤◌, List, [], ◌∷◌, ◌++◌, length, map, take, arith, refl, ◌∙◌, sym, ap, subst}
use Rattle.std.specs.Prelude.{slice_index, All}
use Rattle.std.specs.List.{slice_index_or, AllByRecursion}
use Rattle.std.proofs.Math.IntN.{ℤ, pos, ◌-ℤ◌}
use Rattle.std.proofs.Math.Nat.{pow-suc, pow-zero, pow-le-pow_left, pow-le-pow_right}
use Rattle.std.proofs.Math.Seq.{take-length, get_or-append_seam}
use Rattle.std.proofs.lemmas.List.{get_or-map, length-map, map-append, take_more, length-append, length-take-le, get_or_append_left}
use Rattle.std.proofs.lemmas.Bool.{cases_lt}
use mathlib.Core.Logic.{inl, inr}
use Rattle.std.proofs.lemmas.List.Elements.{recursion_from_All, All-take, All-from_get_or}
use Rattle.integer_laws.specs.Vectors.{vector_from, vector}
use Rattle.integer_laws.proofs.Entries.{entry-vector, vector_from_same}
use Rattle.lash_model.specs.Letters.{digits, number, digit, sign_bit, AreDigits}
use Rattle.lash_model.specs.Tables.{letters}
use Rattle.lash_model.specs.Words.{spelled, value, values}
use Rattle.lash_model.proofs.Digits.{digits_are, length-digits, digits-number, number_below}
use Rattle.product_ops.specs.Tracks.{pick, pick_entries, read_by, AreRead}
use Rattle.product_ops.specs.Pairs.{Operand, IsReading}

-- there are no more sign vectors than letters
pub few_signs : (base n : ℕ) → 2 ≤ base → base ^ n ≤ 4096 → 2 ^ n ≤ 4096
few_signs base n h k = omega (arith, k, pow-le-pow_left h n)

-- ---- what is read of one letter
picked : (ds places : List ℕ) (i d : ℕ) → i < length places → slice_index_or (pick places ds) i d ≡ slice_index ds (slice_index places i)
picked ds places i d lt = get_or-map (λ p. slice_index ds p) places i 0 d lt

pub place_in : (n : ℕ) (places : List ℕ) (i : ℕ) → All (λ p. p < n) places → i < length places → slice_index places i < n
place_in n places i h lt = h i 0 lt

digit_in : (r n letter p : ℕ) → 0 < r → letter < r ^ n → p < n → slice_index (digits r n letter) p < r
digit_in r n letter p b lt inside = (digits_are r n letter b lt).below p 0 (subst (λ k. p < k) (sym (length-digits r n letter)) inside)

are_picked : (r n : ℕ) (places : List ℕ) (letter : ℕ) → 0 < r → All (λ p. p < n) places → letter < r ^ n → AreDigits r (length places) (pick places (digits r n letter))
are_picked r n places letter b h lt = record {
  count = length-map places (λ p. slice_index (digits r n letter) p);
  below = λ i d inside.
      let at : i < length places = subst (λ k. i < k) (length-map places (λ p. slice_index (digits r n letter) p)) inside in
      subst (λ x. x < r) (sym (picked (digits r n letter) places i d at)) (digit_in r n letter (slice_index places i) b lt (place_in n places i h at));
}

-- what is read is a letter of as many tracks as there are places
pub read_in : (r n : ℕ) (places : List ℕ) (letter : ℕ) → 0 < r → All (λ p. p < n) places → letter < r ^ n → read_by r n places letter < r ^ length places
unfolding read_by
read_in r n places letter b h lt =
    let d = are_picked r n places letter b h lt in
    subst (λ k. number r (pick places (digits r n letter)) < r ^ k) d.count (number_below r (pick places (digits r n letter)) d.below)

digit_read : (r n : ℕ) (places : List ℕ) (letter i : ℕ) → 0 < r → All (λ p. p < n) places → letter < r ^ n → i < length places → digit r (length places) i (read_by r n places letter) ≡ digit r n (slice_index places i) letter
unfolding read_by digit
digit_read r n places letter i b h lt inside = ap (λ ds. slice_index ds i) (digits-number r (length places) (pick places (digits r n letter)) (are_picked r n places letter b h lt)) ∙ picked (digits r n letter) places i 0 inside

-- ---- one place more
number-push : (r : ℕ) (ds : List ℕ) (d : ℕ) → number r (ds ++ d ∷ []) ≡ number r ds * r + d
unfolding number
number-push r [] d = rw (pow-zero r) (omega arith)
number-push r (e ∷ ds) d =
    ap (λ k. e * r ^ k + number r (ds ++ d ∷ [])) longer
    ∙ ap (λ x. e * r ^ suc (length ds) + x) (number-push r ds d)
    ∙ ap (λ x. e * x + (number r ds * r + d)) (pow-suc r (length ds))
    ∙ regroup e (r ^ length ds) r (number r ds) d
  where
    longer : length (ds ++ d ∷ []) ≡ suc (length ds)
    longer = omega (arith, length-append ds (d ∷ []))

    regroup : (e p r x d : ℕ) → e * (p * r) + (x * r + d) ≡ (e * p + x) * r + d
    regroup e p r x d = omega arith

pub read_more : (r n : ℕ) (places : List ℕ) (letter i : ℕ) → i < length places → number r (pick (take (i + 1) places) (digits r n letter)) ≡ number r (pick (take i places) (digits r n letter)) * r + digit r n (slice_index places i) letter
unfolding digit
read_more r n places letter i lt =
    ap (λ ps. number r (pick ps (digits r n letter))) (take_more places i 0 lt)
    ∙ ap (number r) (map-append (λ p. slice_index (digits r n letter) p) (take i places) (slice_index places i ∷ []))
    ∙ number-push r (pick (take i places) (digits r n letter)) (slice_index (digits r n letter) (slice_index places i))

all_taken : (n : ℕ) (places : List ℕ) (i : ℕ) → All (λ p. p < n) places → All (λ p. p < n) (take i places)
all_taken n places i h = All-take (λ p. p < n) i places h

-- there is room for one digit more
pub read_room : (r n : ℕ) (places : List ℕ) (letter i : ℕ) → 0 < r → All (λ p. p < n) places → letter < r ^ n → i < length places → r ^ length places ≤ 4096 → number r (pick (take i places) (digits r n letter)) * r + r ≤ 4096
read_room r n places letter i b h lt inside fits = omega (arith, fits, grown, up_to, one_step (number r (pick (take i places) (digits r n letter))) (r ^ i) r low)
  where
    few : length (pick (take i places) (digits r n letter)) ≡ i
    few = length-map (take i places) (λ p. slice_index (digits r n letter) p) ∙ length-take-le i places (omega (arith, inside))

    low : number r (pick (take i places) (digits r n letter)) < r ^ i
    low = subst (λ k. number r (pick (take i places) (digits r n letter)) < r ^ k) few (number_below r (pick (take i places) (digits r n letter)) (are_picked r n (take i places) letter b (all_taken n places i h) lt).below)

    one_step : (x p r : ℕ) → x < p → x * r + r ≤ p * r
    one_step x p r less = grind arith

    grown : r ^ i * r ≡ r ^ suc i
    grown = sym (pow-suc r i)

    up_to : r ^ suc i ≤ r ^ length places
    up_to = pow-le-pow_right b inside

-- the digit is below the base
pub digit_below : (r n p letter : ℕ) → 0 < r → letter < r ^ n → p < n → digit r n p letter < r
unfolding digit
digit_below r n p letter b lt inside = digit_in r n letter p b lt inside

pub all_read : (r n : ℕ) (places : List ℕ) (letter : ℕ) → number r (pick (take (length places) places) (digits r n letter)) ≡ read_by r n places letter
unfolding read_by
all_read r n places letter = ap (λ ps. number r (pick ps (digits r n letter))) (take-length places)

-- the loop's turn, over its own names for the base and for what is read so far
pub room : (r n : ℕ) (places : List ℕ) (letter i read radix : ℕ) → 0 < r → All (λ p. p < n) places → letter < r ^ n → i < length places → r ^ length places ≤ 4096 → read ≡ number r (pick (take i places) (digits r n letter)) → radix ≡ r → read * radix + r ≤ 4096
room r n places letter i read radix b h lt inside fits so_far is = subst (λ x. x * radix + r ≤ 4096) (sym so_far) (subst (λ y. number r (pick (take i places) (digits r n letter)) * y + r ≤ 4096) (sym is) (read_room r n places letter i b h lt inside fits))

pub turn : (r n : ℕ) (places : List ℕ) (letter i read radix d : ℕ) → i < length places → read ≡ number r (pick (take i places) (digits r n letter)) → radix ≡ r → d ≡ digit r n (slice_index places i) letter → read * radix + d ≡ number r (pick (take (i + 1) places) (digits r n letter))
turn r n places letter i read radix d inside so_far is last =
    ap (λ x. x * radix + d) so_far
    ∙ ap (λ y. number r (pick (take i places) (digits r n letter)) * y + d) is
    ∙ ap (λ e. number r (pick (take i places) (digits r n letter)) * r + e) last
    ∙ sym (read_more r n places letter i inside)

-- one letter more is read
pub reading_more : (r n : ℕ) (places : List ℕ) (l to : ℕ) (xs : List ℕ) → AreRead r n places l xs → to ≡ read_by r n places l → AreRead r n places (l + 1) (xs ++ to ∷ [])
reading_more r n places l to xs h is = record {
  count = length-append xs (to ∷ []) ∙ ap (λ k. k + 1) h.count;
  each = λ p lt. elim (cases_lt p l) [
    | inl before ↦ get_or_append_left xs (to ∷ []) 0 p (subst (λ k. p < k) (sym h.count) before) ∙ h.each p before
    | inr last ↦ at_end p (omega (arith, lt, last))
  ];
}
  where
    at_end : (p : ℕ) → p ≡ l → slice_index (xs ++ to ∷ []) p ≡ read_by r n places p
    at_end p e = ap (slice_index (xs ++ to ∷ [])) (e ∙ sym h.count) ∙ get_or-append_seam xs to [] 0 ∙ is ∙ ap (read_by r n places) (sym e)

-- ---- what is read is looked up
letter_reading : (o : Operand) (ls ss : List ℕ) → IsReading o ls ss → (l : ℕ) → l < o.table.base ^ o.tracks → slice_index ls l < letters o.table
letter_reading o ls ss h l lt = subst (λ x. x < letters o.table) (sym (h.letters_read.each l lt)) (subst (λ n. read_by o.table.base o.tracks o.places l < o.table.base ^ n) h.operand.count (read_in o.table.base o.tracks o.places l (omega (arith, h.operand.table.shape.base_low)) h.operand.places.below lt))

pub letter_reading_in : (o : Operand) (ls ss : List ℕ) → IsReading o ls ss → (l x : ℕ) → l < o.table.base ^ o.tracks → x ≡ slice_index_or ls l x → x < letters o.table
letter_reading_in o ls ss h l x lt is = subst (λ y. y < letters o.table) (sym is) (All-from_get_or (λ y. y < letters o.table) ls 0 (λ i inside. letter_reading o ls ss h i (subst (λ n. i < n) h.letters_read.count inside)) l x (subst (λ n. l < n) (sym h.letters_read.count) lt))

sign_reading : (o : Operand) (ls ss : List ℕ) → IsReading o ls ss → (s : ℕ) → s < 2 ^ o.tracks → slice_index ss s < 2 ^ o.table.tracks
sign_reading o ls ss h s lt = subst (λ x. x < 2 ^ o.table.tracks) (sym (h.signs_read.each s lt)) (subst (λ n. read_by 2 o.tracks o.places s < 2 ^ n) h.operand.count (read_in 2 o.tracks o.places s (omega arith) h.operand.places.below lt))

pub sign_reading_in : (o : Operand) (ls ss : List ℕ) → IsReading o ls ss → (s x : ℕ) → s < 2 ^ o.tracks → x ≡ slice_index_or ss s x → x < 2 ^ o.table.tracks
sign_reading_in o ls ss h s x lt is = subst (λ y. y < 2 ^ o.table.tracks) (sym is) (All-from_get_or (λ y. y < 2 ^ o.table.tracks) ss 0 (λ i inside. sign_reading o ls ss h i (subst (λ n. i < n) h.signs_read.count inside)) s x (subst (λ n. s < n) (sym h.signs_read.count) lt))

-- ---- the values of what is read
pub spelled_read : (r n : ℕ) (places : List ℕ) (i : ℕ) (w : List ℕ) → 0 < r → All (λ p. p < n) places → i < length places → AllByRecursion (λ l. l < r ^ n)
    w → spelled r (length places) i (map (read_by r n places) w) ≡ spelled r n (slice_index places i) w
unfolding spelled
spelled_read r n places i [] b h inside a = refl
spelled_read r n places i (l ∷ w) b h inside a =
    ap (λ d. d * r ^ length (map (read_by r n places) w) + spelled r (length places) i (map (read_by r n places) w)) (digit_read r n places l i b h a.0 inside)
    ∙ ap (λ k. digit r n (slice_index places i) l * r ^ k + spelled r (length places) i (map (read_by r n places) w)) (length-map w (read_by r n places))
    ∙ ap (λ s. digit r n (slice_index places i) l * r ^ length w + s) (spelled_read r n places i w b h inside a.1)

pub value_read : (r n : ℕ) (places : List ℕ) (i sign : ℕ) (w : List ℕ) → 0 < r → All (λ p. p < n) places → i < length places → sign < 2 ^ n
    → AllByRecursion (λ l. l < r ^ n) w → value r (length places) i (read_by 2 n places sign) (map (read_by r n places) w) ≡ value r n
    (slice_index places i) sign w
unfolding value sign_bit
value_read r n places i sign w b h inside lt a =
    ap (λ s. pos s -ℤ pos (digit 2 (length places) i (read_by 2 n places sign) * r ^ length (map (read_by r n places) w))) (spelled_read r n places i w b h inside a)
    ∙ ap (λ d. pos (spelled r n (slice_index places i) w) -ℤ pos (d * r ^ length (map (read_by r n places) w))) (digit_read 2 n places sign i (omega arith) h lt inside)
    ∙ ap (λ k. pos (spelled r n (slice_index places i) w) -ℤ pos (digit 2 n (slice_index places i) sign * r ^ k)) (length-map w (read_by r n places))

vector_from_next : (f : ℕ → ℤ) (i n : ℕ) → vector_from f (suc i) n ≡ vector_from (λ j. f (suc j)) i n
unfolding vector_from
vector_from_next f i zero = refl
vector_from_next f i (suc n) = ap (λ xs. f (suc i) ∷ xs) (vector_from_next f (suc i) n)

vector_of : (g : ℕ → ℤ) (places : List ℕ) → vector (λ i. g (slice_index places i)) (length places) ≡ map g places
unfolding vector_from
vector_of g [] = refl
vector_of g (x ∷ xs) = ap (λ t. g x ∷ t) (vector_from_next (λ i. g (slice_index (x ∷ xs) i)) 0 (length xs) ∙ vector_of g xs)

map_same : (f g : ℕ → ℤ) (n : ℕ) (places : List ℕ) → ((p : ℕ) → p < n → f p ≡ g p) → AllByRecursion (λ i. i < n) places → map f places ≡ map g places
map_same f g n [] e a = refl
map_same f g n (x ∷ xs) e a = ap (λ y. y ∷ map f xs) (e x a.0) ∙ ap (λ ys. g x ∷ ys) (map_same f g n xs e a.1)

-- the entries at places are those of a vector that has them in these places
pub picked_vector : (f g : ℕ → ℤ) (n : ℕ) (places : List ℕ) → All (λ p. p < n) places → ((i : ℕ) → i < length places → f i ≡ g (slice_index places i))
    → vector f (length places) ≡ pick_entries places (vector g n)
picked_vector f g n places h same =
    vector_from_same f (λ i. g (slice_index places i)) 0 (length places) (λ j from to. same j (omega (arith, to)))
    ∙ vector_of g places
    ∙ map_same g (λ p. slice_index_or (vector g n) p (pos 0)) n places (λ p inside. sym (entry-vector g n p inside)) (recursion_from_All (λ i. i < n) places h)

pub values_read : (r n : ℕ) (places : List ℕ) (sign : ℕ) (w : List ℕ) → 0 < r → All (λ p. p < n) places → sign < 2 ^ n → All (λ l. l < r ^ n) w → values r (length places) (read_by 2 n places sign) (map (read_by r n places) w) ≡ pick_entries places (values r n sign w)
values_read r n places sign w b h lt a =
    picked_vector (λ i. value r (length places) i (read_by 2 n places sign) (map (read_by r n places) w)) (λ p. value r n p sign w) n places h
    (λ i inside. value_read r n places i sign w b h inside lt (recursion_from_All (λ l. l < r ^ n) w a))
