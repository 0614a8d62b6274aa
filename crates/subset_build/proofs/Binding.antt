-- The numbers that a word of all tracks spells are those of the kept word with one more at the track, so the diagram that forgets the
-- track stands for the set in which that number is bound.
use Rattle.std.proofs.Common.{◌≡◌, ℕ, zero, suc, ◌+◌, ◌*◌, ◌/◌, ◌%◌, ◌^◌, ◌<◌, ◌≤◌, ◌↔◌, IsTrue, List, [], ◌∷◌, ◌++◌, length, arith, refl, ◌∙◌, sym, ap, subst, inl, inr}
use Rattle.std.specs.Prelude.{◌⊎◌, All}
use Rattle.std.specs.List.{slice_index_or, AllByRecursion}
use Rattle.std.proofs.Math.IntN.{ℤ, pos, negsuc, ◌-ℤ◌, ◌*ℤ◌}
use Rattle.std.proofs.Math.Nat.{pow-suc, pow-zero, pow-le-pow_right, mod-eq_of_lt, div-one}
use Rattle.std.proofs.lemmas.Int.{ints}
use Rattle.std.proofs.lemmas.Bool.{cases_order}
use Rattle.std.proofs.lemmas.List.{length-append, ext_get_or}
use Rattle.std.proofs.lemmas.List.Edits.{length-insert, get_or-insert_below, get_or-insert_at, get_or-insert_above}
use Rattle.std.proofs.lemmas.List.Elements.{recursion_from_All, All-from_recursion}
use Rattle.graph_laws.specs.Walks.{copies}
use Rattle.integer_laws.specs.Vectors.{vector}
use Rattle.integer_laws.proofs.Entries.{entry-vector, length-vector_from}
use Rattle.lash_model.specs.Letters.{digit, sign_bit, sign_letter}
use Rattle.lash_model.specs.Words.{spelled, value, values, SpellsNumber}
use Rattle.lash_model.specs.Tables.{Table, letters, IsTable, IsDiagram}
use Rattle.lash_model.specs.Standing.{StandsForWhole}
use Rattle.lash_model.specs.Acceptance.{accepts_word}
use Rattle.lash_model.specs.Sets.{inserted_at, bound_at}
use Rattle.lash_model.proofs.Digits.{digit-quotient}
use Rattle.lash_model.proofs.Numbers.{value-padded, word_for_natural, word_for_negative}
use Rattle.subset_build.specs.Projection.{with_digit, kept, woven, IsAcceptedOver, AcceptsSome}
use Rattle.subset_build.proofs.KeptLetters.{with_digit_below, digit_before, digit_at, digit_behind, sign_letter_below}

-- ---- one track
digit_alone : (r l : ℕ) → 0 < r → l < r → digit r 1 0 l ≡ l
digit_alone r l h k = digit-quotient r 1 0 l h (omega arith) (subst (λ p. l < p) (sym (power_one r)) k) ∙ ap (λ p. l / p % r) (pow-zero r) ∙ ap (λ q. q % r) (div-one l) ∙ mod-eq_of_lt k
  where
    power_one : (r : ℕ) → r ^ 1 ≡ r
    power_one r = pow-suc r 0 ∙ ap (λ p. p * r) (pow-zero r) ∙ one_times r
      where
        one_times : (r : ℕ) → 1 * r ≡ r
        one_times r = omega arith

length-woven : (r n i : ℕ) (ls ds : List ℕ) → length ls ≡ length ds → length (woven r n i ls ds) ≡ length ls
length-woven r n i [] ds e = refl
length-woven r n i (l ∷ ls) [] e = absurd (omega (arith, e))
length-woven r n i (l ∷ ls) (d ∷ ds) e = ap suc (length-woven r n i ls ds (omega (arith, e)))

-- two readings of a woven word agree where the digits of each letter do
spelled_kept : (r n i j k : ℕ) (ls ds : List ℕ) → ((l d : ℕ) → l < r ^ n → d < r → digit r (n + 1) j (with_digit r n i l d) ≡ digit r n k l) → length ls ≡ length ds → AllByRecursion (λ l. l < r ^ n) ls → AllByRecursion (λ d. d < r) ds → spelled r (n + 1) j (woven r n i ls ds) ≡ spelled r n k ls
unfolding spelled
spelled_kept r n i j k [] ds h e a b = refl
spelled_kept r n i j k (l ∷ ls) [] h e a b = absurd (omega (arith, e))
spelled_kept r n i j k (l ∷ ls) (d ∷ ds) h e a b =
    ap (λ x. x * r ^ length (woven r n i ls ds) + spelled r (n + 1) j (woven r n i ls ds)) (h l d a.0 b.0)
    ∙ ap (λ m. digit r n k l * r ^ m + spelled r (n + 1) j (woven r n i ls ds)) (length-woven r n i ls ds (omega (arith, e)))
    ∙ ap (λ s. digit r n k l * r ^ length ls + s) (spelled_kept r n i j k ls ds h (omega (arith, e)) a.1 b.1)

spelled_forgotten : (r n i : ℕ) (ls ds : List ℕ) → 0 < r → i ≤ n → length ls ≡ length ds → AllByRecursion (λ l. l < r ^ n) ls → AllByRecursion (λ d. d < r) ds → spelled r (n + 1) i (woven r n i ls ds) ≡ spelled r 1 0 ds
unfolding spelled
spelled_forgotten r n i [] [] p q e a b = refl
spelled_forgotten r n i [] (d ∷ ds) p q e a b = absurd (omega (arith, e))
spelled_forgotten r n i (l ∷ ls) [] p q e a b = absurd (omega (arith, e))
spelled_forgotten r n i (l ∷ ls) (d ∷ ds) p q e a b =
    ap (λ x. x * r ^ length (woven r n i ls ds) + spelled r (n + 1) i (woven r n i ls ds)) (digit_at r n i l d p a.0 q b.0 ∙ sym (digit_alone r d p b.0))
    ∙ ap (λ m. digit r 1 0 d * r ^ m + spelled r (n + 1) i (woven r n i ls ds)) (length-woven r n i ls ds (omega (arith, e)) ∙ omega (arith, e))
    ∙ ap (λ s. digit r 1 0 d * r ^ length ds + s) (spelled_forgotten r n i ls ds p q (omega (arith, e)) a.1 b.1)

-- the kept word and the digits that are woven, under a sign vector and a bit
record IsWoven (r n i sign bit : ℕ) (ls ds : List ℕ) : Type 0 where
  base : 2 ≤ r
  place : i ≤ n
  sign_in : sign < 2 ^ n
  bit_in : bit < 2
  count : length ls ≡ length ds
  letters_in : AllByRecursion (λ l. l < r ^ n) ls
  digits_in : AllByRecursion (λ d. d < r) ds

value_kept : (r n i j k sign bit : ℕ) (ls ds : List ℕ) → IsWoven r n i sign bit ls ds → ((l d : ℕ) → l < r ^ n → d < r → digit r (n + 1) j (with_digit r n i l d) ≡ digit r n k l) → digit 2 (n + 1) j (with_digit 2 n i sign bit) ≡ digit 2 n k sign → value r (n + 1) j (with_digit 2 n i sign bit) (woven r n i ls ds) ≡ value r n k sign ls
unfolding value sign_bit
value_kept r n i j k sign bit ls ds h each signs =
    ap (λ s. pos s -ℤ pos (digit 2 (n + 1) j (with_digit 2 n i sign bit) * r ^ length (woven r n i ls ds))) (spelled_kept r n i j k ls ds each h.count h.letters_in h.digits_in)
    ∙ ap (λ b. pos (spelled r n k ls) -ℤ pos (b * r ^ length (woven r n i ls ds))) signs
    ∙ ap (λ m. pos (spelled r n k ls) -ℤ pos (digit 2 n k sign * r ^ m)) (length-woven r n i ls ds h.count)

value_before : (r n i j sign bit : ℕ) (ls ds : List ℕ) → IsWoven r n i sign bit ls ds → j < i → value r (n + 1) j (with_digit 2 n i sign bit) (woven r n i ls ds) ≡ value r n j sign ls
value_before r n i j sign bit ls ds h lt = value_kept r n i j j sign bit ls ds h (λ l d l_in d_in. digit_before r n i j l d (omega (arith, h.base)) l_in h.place d_in lt) (digit_before 2 n i j sign bit (omega arith) h.sign_in h.place h.bit_in lt)

value_behind : (r n i j sign bit : ℕ) (ls ds : List ℕ) → IsWoven r n i sign bit ls ds → i ≤ j → value r (n + 1) (j + 1) (with_digit 2 n i sign bit) (woven r n i ls ds) ≡ value r n j sign ls
value_behind r n i j sign bit ls ds h le = value_kept r n i (j + 1) j sign bit ls ds h (λ l d l_in d_in. digit_behind r n i j l d (omega (arith, h.base)) l_in h.place d_in le) (digit_behind 2 n i j sign bit (omega arith) h.sign_in h.place h.bit_in le)

value_at : (r n i sign bit : ℕ) (ls ds : List ℕ) → IsWoven r n i sign bit ls ds → value r (n + 1) i (with_digit 2 n i sign bit) (woven r n i ls ds) ≡ value r 1 0 bit ds
unfolding value sign_bit
value_at r n i sign bit ls ds h =
    ap (λ s. pos s -ℤ pos (digit 2 (n + 1) i (with_digit 2 n i sign bit) * r ^ length (woven r n i ls ds))) (spelled_forgotten r n i ls ds (omega (arith, h.base)) h.place h.count h.letters_in h.digits_in)
    ∙ ap (λ b. pos (spelled r 1 0 ds) -ℤ pos (b * r ^ length (woven r n i ls ds))) (digit_at 2 n i sign bit (omega arith) h.sign_in h.place h.bit_in ∙ sym (digit_alone 2 bit (omega arith) h.bit_in))
    ∙ ap (λ m. pos (spelled r 1 0 ds) -ℤ pos (digit 2 1 0 bit * r ^ m)) (length-woven r n i ls ds h.count ∙ h.count)

-- ---- all tracks
values_woven : (r n i sign bit : ℕ) (ls ds : List ℕ) → IsWoven r n i sign bit ls ds → values r (n + 1) (with_digit 2 n i sign bit) (woven r n i ls ds) ≡ inserted_at i (value r 1 0 bit ds) (values r n sign ls)
values_woven r n i sign bit ls ds h = ext_get_or (pos 0) whole put counts (λ j lt. entry j (subst (λ m. j < m) (length-vector_from f 0 (n + 1)) lt) (cases_order j i))
  where
    f : ℕ → ℤ
    f j = value r (n + 1) j (with_digit 2 n i sign bit) (woven r n i ls ds)

    g : ℕ → ℤ
    g j = value r n j sign ls

    whole : List ℤ
    whole = vector f (n + 1)

    put : List ℤ
    put = inserted_at i (value r 1 0 bit ds) (vector g n)

    place : i ≤ length (vector g n)
    place = subst (λ m. i ≤ m) (sym (length-vector_from g 0 n)) h.place

    counts : length whole ≡ length put
    counts = length-vector_from f 0 (n + 1) ∙ sym (length-insert (vector g n) i (value r 1 0 bit ds) place ∙ ap (λ m. m + 1) (length-vector_from g 0 n))

    entry : (j : ℕ) → j < n + 1 → (j ≡ i) ⊎ ((j < i) ⊎ (i < j)) → slice_index_or whole j (pos 0) ≡ slice_index_or put j (pos 0)
    entry j lt (inl e) = entry-vector f (n + 1) j lt ∙ ap f e ∙ value_at r n i sign bit ls ds h ∙ sym (get_or-insert_at (vector g n) i (value r 1 0 bit ds) (pos 0) place) ∙ ap (λ k. slice_index_or put k (pos 0)) (sym e)
    entry j lt (inr (inl before)) = entry-vector f (n + 1) j lt ∙ value_before r n i j sign bit ls ds h before ∙ sym (entry-vector g n j (omega (arith, before, h.place))) ∙ sym (get_or-insert_below (vector g n) i (value r 1 0 bit ds) (pos 0) j before place)
    entry zero lt (inr (inr behind)) = absurd (omega (arith, behind))
    entry (suc j) lt (inr (inr behind)) = entry-vector f (n + 1) (suc j) lt ∙ ap f (one j) ∙ value_behind r n i j sign bit ls ds h (omega (arith, behind)) ∙ sym (entry-vector g n j (omega (arith, lt))) ∙ sym (get_or-insert_above (vector g n) i (value r 1 0 bit ds) (pos 0) j (omega (arith, behind)) place) ∙ ap (λ k. slice_index_or put k (pos 0)) (sym (one j))
      where
        one : (j : ℕ) → suc j ≡ j + 1
        one j = omega arith

-- sign letters in front of the kept word change no value
values_padded : (r n sign more : ℕ) (w : List ℕ) → 2 ≤ r → sign < 2 ^ n → values r n sign (copies more (sign_letter r n sign ∷ []) ++ w) ≡ values r n sign w
values_padded r n sign more w h lt = ext_get_or (pos 0) (values r n sign (copies more (sign_letter r n sign ∷ []) ++ w)) (values r n sign w) (length-vector_from (padded more) 0 n ∙ sym (length-vector_from plain 0 n)) (λ j below. entry j (subst (λ m. j < m) (length-vector_from (padded more) 0 n) below))
  where
    padded : ℕ → ℕ → ℤ
    padded k j = value r n j sign (copies k (sign_letter r n sign ∷ []) ++ w)

    plain : ℕ → ℤ
    plain j = value r n j sign w

    one_by_one : (k j : ℕ) → j < n → padded k j ≡ plain j
    one_by_one zero j inside = refl
    one_by_one (suc k) j inside = value-padded r n j sign (copies k (sign_letter r n sign ∷ []) ++ w) h inside lt ∙ one_by_one k j inside

    entry : (j : ℕ) → j < n → slice_index_or (vector (padded more) n) j (pos 0) ≡ slice_index_or (vector plain n) j (pos 0)
    entry j inside = entry-vector (padded more) n j inside ∙ one_by_one more j inside ∙ sym (entry-vector plain n j inside)

-- ---- a word for each number
below_power : (r n : ℕ) → 2 ≤ r → n < r ^ n
below_power r zero h = omega (arith, pow-zero r)
below_power r (suc n) h = omega (arith, pow-suc r n, doubled r (r ^ n) h, below_power r n h)
  where
    doubled : (r p : ℕ) → 2 ≤ r → p + p ≤ p * r
    doubled r p h = grind arith

long_enough : (r n k : ℕ) → 2 ≤ r → n < r ^ (n + k)
long_enough r n k h =
    let some : 0 < r = omega (arith, h) in
    let le : n ≤ n + k = omega arith in
    omega (arith, below_power r n h, pow-le-pow_right some le)

record HasLongWord (r k : ℕ) (m : ℤ) : Type 0 where
  more : ℕ
  spells : SpellsNumber r (more + k) m

long_word : (r k : ℕ) (m : ℤ) → 2 ≤ r → HasLongWord r k m
long_word r k (pos n) h = record { more = n; spells = word_for_natural r (n + k) n (omega (arith, h)) (long_enough r n k h) }
long_word r k (negsuc n) h = record { more = n; spells = word_for_negative r (n + k) n (omega (arith, h)) (long_enough r n k h) }

-- ---- standing for the set
length-copies : (n z : ℕ) → length (copies n (z ∷ [])) ≡ n
length-copies zero z = refl
length-copies (suc n) z = ap suc (length-copies n z)

copies_below : (n z p : ℕ) (w : List ℕ) → z < p → AllByRecursion (λ l. l < p) w → AllByRecursion (λ l. l < p) (copies n (z ∷ []) ++ w)
copies_below zero z p w h a = a
copies_below (suc n) z p w h a = (h, copies_below n z p w h a)

padded_woven : (r n i sign bit more : ℕ) (w ds : List ℕ) → 2 ≤ r → i ≤ n → sign < 2 ^ n → bit < 2 → length ds ≡ more + length w → AllByRecursion (λ l. l < r ^ n) w → AllByRecursion (λ d. d < r) ds → IsWoven r n i sign bit (copies more (sign_letter r n sign ∷ []) ++ w) ds
padded_woven r n i sign bit more w ds h place lt b e a k = record {
  base = h;
  place = place;
  sign_in = lt;
  bit_in = b;
  count = length-append (copies more (sign_letter r n sign ∷ [])) w ∙ ap (λ m. m + length w) (length-copies more (sign_letter r n sign)) ∙ sym e;
  letters_in = copies_below more (sign_letter r n sign) (r ^ n) w (sign_letter_below r n sign h lt) a;
  digits_in = k;
}

woven_below : (r n i : ℕ) (ls ds : List ℕ) → 0 < r → i ≤ n → AllByRecursion (λ l. l < r ^ n) ls → AllByRecursion (λ d. d < r) ds → AllByRecursion (λ l. l < r ^ (n + 1)) (woven r n i ls ds)
woven_below r n i [] ds p q a b = tt
woven_below r n i (l ∷ ls) [] p q a b = tt
woven_below r n i (l ∷ ls) (d ∷ ds) p q a b = (with_digit_below r n i l d p a.0 q b.0, woven_below r n i ls ds p q a.1 b.1)

-- the diagram accepts a woven word exactly where the kept numbers with the one put in are in the set
stands_woven : (t : Table) (track sign bit more : ℕ) (w ds : List ℕ) (P : List ℤ → ℕ → Type 0) → IsTable t → track < t.tracks → StandsForWhole t P → sign < 2 ^ kept t → bit < 2 → length ds ≡ more + length w → AllByRecursion (λ l. l < t.base ^ kept t) w → AllByRecursion (λ d. d < t.base) ds → IsTrue (accepts_word t (with_digit 2 (kept t) track sign bit) (woven t.base (kept t) track (copies more (sign_letter t.base (kept t) sign ∷ []) ++ w) ds)) ↔ P (inserted_at track (value t.base 1 0 bit ds) (values t.base (kept t) sign w)) 1
stands_woven t track sign bit more w ds P h lt s small b e a k = subst (λ ns. IsTrue (accepts_word t all_sign all_word) ↔ P ns 1) spells (s.each all_sign all_word sign_in letters_in)
  where
    all_sign : ℕ
    all_sign = with_digit 2 (kept t) track sign bit

    ls : List ℕ
    ls = copies more (sign_letter t.base (kept t) sign ∷ []) ++ w

    all_word : List ℕ
    all_word = woven t.base (kept t) track ls ds

    tracks : kept t + 1 ≡ t.tracks
    tracks = omega (arith, lt)

    place : track ≤ kept t
    place = omega (arith, lt)

    f : IsWoven t.base (kept t) track sign bit ls ds
    f = padded_woven t.base (kept t) track sign bit more w ds h.shape.base_low place small b e a k

    sign_in : all_sign < 2 ^ t.tracks
    sign_in = subst (λ n. all_sign < 2 ^ n) tracks (with_digit_below 2 (kept t) track sign bit (omega arith) small place b)

    letters_in : All (λ l. l < letters t) all_word
    letters_in = subst (λ n. All (λ l. l < t.base ^ n) all_word) tracks (All-from_recursion (λ l. l < t.base ^ (kept t + 1)) all_word (woven_below t.base (kept t) track ls ds (omega (arith, h.shape.base_low)) place f.letters_in k))

    spells : values t.base t.tracks all_sign all_word ≡ inserted_at track (value t.base 1 0 bit ds) (values t.base (kept t) sign w)
    spells = ap (λ n. values t.base n all_sign all_word) (sym tracks) ∙ values_woven t.base (kept t) track sign bit ls ds f ∙ ap (inserted_at track (value t.base 1 0 bit ds)) (values_padded t.base (kept t) sign more w h.shape.base_low small)

one_times : (m : ℤ) → m *ℤ pos 1 ≡ m
one_times m = omega (arith, ints)

bound_from_accepted : (t : Table) (track sign : ℕ) (w : List ℕ) (P : List ℤ → ℕ → Type 0) → IsTable t → track < t.tracks → StandsForWhole t P → sign < 2 ^ kept t → AllByRecursion (λ l. l < t.base ^ kept t) w → IsAcceptedOver t track sign w → bound_at track P (values t.base (kept t) sign w) 1
bound_from_accepted t track sign w P h lt s small a o =
    let m = value t.base 1 0 o.bit o.word in
    (m, subst (λ x. P (inserted_at track x (values t.base (kept t) sign w)) 1) (sym (one_times m)) ((stands_woven t track sign o.bit o.more w o.word P h lt s small o.bit_below o.count a (recursion_from_All (λ d. d < t.base) o.word o.digits_in)).0 o.accepted))

accepted_from_bound : (t : Table) (track sign : ℕ) (w : List ℕ) (P : List ℤ → ℕ → Type 0) → IsTable t → track < t.tracks → StandsForWhole t P → sign < 2 ^ kept t → AllByRecursion (λ l. l < t.base ^ kept t) w → bound_at track P (values t.base (kept t) sign w) 1 → IsAcceptedOver t track sign w
accepted_from_bound t track sign w P h lt s small a b = from (long_word t.base (length w) b.0 h.shape.base_low)
  where
    from : HasLongWord t.base (length w) b.0 → IsAcceptedOver t track sign w
    from r = record {
      bit = r.spells.sign;
      more = r.more;
      word = r.spells.word;
      bit_below = r.spells.sign_below;
      digits_in = r.spells.letters;
      count = r.spells.count;
      accepted = (stands_woven t track sign r.spells.sign r.more w r.spells.word P h lt s small r.spells.sign_below r.spells.count a (recursion_from_All (λ d. d < t.base) r.spells.word r.spells.letters)).1 (subst (λ x. P (inserted_at track x (values t.base (kept t) sign w)) 1) (one_times b.0 ∙ sym r.spells.is) b.1);
    }

pub projection_stands : (t : Table) (track : ℕ) (u : Table) (P : List ℤ → ℕ → Type 0) → IsTable t → track < t.tracks → IsDiagram u → u.base ≡ t.base → u.tracks ≡ kept t → AcceptsSome t track u → StandsForWhole t P → StandsForWhole u (bound_at track P)
projection_stands t track u P h lt diagram base tracks words s = record {
  diagram = diagram;
  each = λ sign w small inside. each sign w (subst (λ n. sign < 2 ^ n) tracks small) (subst (λ n. All (λ l. l < t.base ^ n) w) tracks (subst (λ r. All (λ l. l < r ^ u.tracks) w) base inside));
}
  where
    each : (sign : ℕ) (w : List ℕ) → sign < 2 ^ kept t → All (λ l. l < t.base ^ kept t) w → IsTrue (accepts_word u sign w) ↔ bound_at track P (values u.base u.tracks sign w) 1
    each sign w small inside =
        let said = words sign w small inside in
        let a : AllByRecursion (λ l. l < t.base ^ kept t) w = recursion_from_All (λ l. l < t.base ^ kept t) w inside in
        subst (λ ns. IsTrue (accepts_word u sign w) ↔ bound_at track P ns 1) (sym (ap (λ r. values r u.tracks sign w) base ∙ ap (λ n. values t.base n sign w) tracks))
        (λ e. bound_from_accepted t track sign w P h lt s small a (said.0 e), λ b. said.1 (accepted_from_bound t track sign w P h lt s small a b))
