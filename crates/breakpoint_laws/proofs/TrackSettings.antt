-- The letters of all tracks as a setting of the projection: kept parts, digits on the track, and the numerators of the kept tracks with one
-- put in are those of all tracks.
use Rattle.std.proofs.Common.{◌≡◌, ℕ, zero, suc, ◌+◌, ◌-◌, ◌*◌, ◌^◌, ◌<◌, ◌≤◌, List, [], ◌∷◌, ◌++◌, map, arith, refl, ◌∙◌, sym, ap, ap₂, append_assoc}
use Rattle.std.proofs.Math.IntN.{ℤ, pos, ◌+ℤ◌, ◌-ℤ◌, ◌*ℤ◌}
use Rattle.integer_laws.specs.Differences.{diff}
use Rattle.integer_laws.specs.Runs.{run, gain}
use Rattle.integer_laws.specs.Vectors.{vector_from}
use Rattle.integer_laws.proofs.Reading.{run-append}
use Rattle.integer_laws.proofs.Entries.{vector_from_same}
use Rattle.lash_model.specs.Letters.{digit, sign_bit, sign_letter}
use Rattle.lash_model.specs.Words.{track_digits}
use Rattle.lash_model.specs.Lassos.{Lasso, numerator, numerators}
use Rattle.lash_model.proofs.Digits.{power_positive}
use Rattle.lash_model.proofs.Numbers.{digit-sign_letter}
use Rattle.lash_model.proofs.WordValues.{track_digits-append}
use Rattle.lash_model.proofs.Points.{numerator_is_gain}
use Rattle.lash_model.specs.Sets.{inserted_at}
use Rattle.subset_build.specs.Projection.{with_digit}
use Rattle.subset_build.proofs.KeptLetters.{with_digit_below, digit_at, sign_letter_below}
use Rattle.breakpoint_laws.proofs.Graphs.{renamed}
use Rattle.breakpoint_laws.proofs.Projections.{Track, Idle, idle_bit, Setting, numbers, full}
use Rattle.breakpoint_laws.proofs.KeptParts.{kept_part, kept_part_below, kept-with_digit, kept_before, kept_behind, clamp, clamp_small, clamp_below}

abbrev pub lasso_of : ℕ → List ℕ → List ℕ → List ℕ → Lasso
lasso_of s w u v = record { sign = s; whole = w; stem = u; cycle = v }

-- ---- what is read on a track
pub kept_track : ℕ → ℕ → ℕ → ℕ → Track
kept_track r n s i = record { start = diff 0 (sign_bit n i s); digit = λ l. pos (digit r n i l) }

pub listed : (ℕ → Track) → ℕ → ℕ → List Track
listed f i zero = []
listed f i (suc n) = f i ∷ listed f (suc i) n

track_gain : ℕ → ℕ → ℕ → ℕ → List ℕ → List ℕ → List ℕ → ℤ
track_gain r n i s w u v = gain r (run r (diff 0 (sign_bit n i s)) (map (λ l. pos (digit r n i l)) w)) (map (λ l. pos (digit r n i l)) u)
    (map (λ l. pos (digit r n i l)) v)

gain_joined : (r : ℕ) (x : ℤ) (a b c : List ℤ) → gain r x (a ++ b) c ≡ gain r (run r x a) b c
unfolding gain
gain_joined r x a b c = ap₂ (λ y z. y -ℤ z) (ap (run r x) (append_assoc a b c) ∙ run-append r x a (b ++ c)) (run-append r x a b)

track_numerator : (r n i s : ℕ) (w u v : List ℕ) → 0 < r → track_gain r n i s w u v ≡ numerator r n i (lasso_of s w u v)
unfolding track_gain track_digits
track_numerator r n i s w u v h =
    sym (numerator_is_gain r n i (lasso_of s w u v) h
    ∙ ap (λ z. gain r (diff 0 (sign_bit n i s)) z (map (λ l. pos (digit r n i l)) v)) (track_digits-append r n i w u)
    ∙ gain_joined r (diff 0 (sign_bit n i s)) (map (λ l. pos (digit r n i l)) w) (map (λ l. pos (digit r n i l)) u) (map (λ l. pos (digit r n i l)) v))

numbers_listed : (r n s i m : ℕ) (w u v : List ℕ) → 0 < r
    → numbers r (listed (kept_track r n s) i m) w u v ≡ vector_from (λ j. numerator r n j (lasso_of s w u v)) i m
unfolding numbers listed vector_from kept_track track_gain
numbers_listed r n s i zero w u v h = refl
numbers_listed r n s i (suc m) w u v h = ap₂ (λ y ys. y ∷ ys) (track_numerator r n i s w u v h) (numbers_listed r n s (suc i) m w u v h)

-- ---- sign letters
pub idle_listed : (r n s m i : ℕ) → 2 ≤ r → s < 2 ^ n → i + m ≡ n → Idle r (sign_letter r n s) (listed (kept_track r n s) i m)
unfolding Idle listed kept_track
idle_listed r n s zero i two h e = tt
idle_listed r n s (suc m) i two h e = (one, idle_listed r n s m (suc i) two h (omega (arith, e)))
  where
    bit : ℕ
    bit = sign_bit n i s

    swap : (b k : ℕ) → b * k ≡ k * b
    swap b k = omega arith

    one : (pos r *ℤ diff 0 bit) +ℤ pos (digit r n i (sign_letter r n s)) ≡ diff 0 bit
    one = ap (λ x. (pos r *ℤ diff 0 bit) +ℤ pos x) (digit-sign_letter r n i s (omega (arith, two)) (omega (arith, e)) h ∙ swap bit (r - 1))
        ∙ idle_bit r bit (omega (arith, two))

-- ---- the setting
pub joined_keep : (r n t l d : ℕ) → 0 < r → t ≤ n → l < r ^ n → d < r → kept_part r n t (clamp (r ^ (n + 1)) (with_digit r n t l d)) ≡ l
joined_keep r n t l d b h lt below = ap (kept_part r n t) (clamp_small (r ^ (n + 1)) (with_digit r n t l d) (with_digit_below r n t l d b lt h below))
    ∙ kept-with_digit r n t l d b h lt below

pub joined_digit : (r n t l d : ℕ) → 0 < r → t ≤ n → l < r ^ n → d < r → digit r (n + 1) t (clamp (r ^ (n + 1)) (with_digit r n t l d)) ≡ d
joined_digit r n t l d b h lt below = ap (digit r (n + 1) t) (clamp_small (r ^ (n + 1)) (with_digit r n t l d) (with_digit_below r n t l d b lt h below))
    ∙ digit_at r n t l d b lt h below

pub two_positive : (n : ℕ) → 0 < 2 ^ n
two_positive n = power_positive 2 n (omega arith)

unfoldable pub setting : (r n t : ℕ) → 2 ≤ r → t ≤ n → Setting
setting r n t h b = record {
  r = r;
  two = h;
  place = t;
  width = r ^ n;
  keep = λ l. kept_part r n t (clamp (r ^ (n + 1)) l);
  digit = λ l. pos (digit r (n + 1) t (clamp (r ^ (n + 1)) l));
  join = with_digit r n t;
  join_keep = λ l d e g. joined_keep r n t l d (omega arith) b e g;
  join_digit = λ l d e g. ap pos (joined_digit r n t l d (omega arith) b e g);
  sign_keep = λ s. kept_part 2 n t (clamp (2 ^ (n + 1)) s);
  sign_bit = λ s. digit 2 (n + 1) t (clamp (2 ^ (n + 1)) s);
  sign_join = with_digit 2 n t;
  signs = 2 ^ n;
  sign_join_keep = λ s d e g. joined_keep 2 n t s d (omega arith) b e g;
  sign_join_bit = λ s d e g. joined_digit 2 n t s d (omega arith) b e g;
  sign_letter = λ s. sign_letter r n (clamp (2 ^ n) s);
  sign_narrow = λ s. sign_letter_below r n (clamp (2 ^ n) s) (omega (arith, h)) (clamp_below (2 ^ n) s (two_positive n));
  tracks = λ s. listed (kept_track r n (clamp (2 ^ n) s)) 0 n;
  idle = λ s. idle_listed r n (clamp (2 ^ n) s) n 0 h (clamp_below (2 ^ n) s (two_positive n)) (omega arith);
}

-- ---- the points of the setting are the vectors of all tracks' numerators
vector_moved : (f : ℕ → ℤ) (i n : ℕ) → vector_from f (suc i) n ≡ vector_from (λ j. f (suc j)) i n
unfolding vector_from
vector_moved f i zero = refl
vector_moved f i (suc n) = ap (λ ys. f (suc i) ∷ ys) (vector_moved f (suc i) n)

-- the places of f with the one at t left out
insert_vector : (f g : ℕ → ℤ) (t i n : ℕ) → t ≤ n → ((j : ℕ) → i ≤ j → j < i + t → g j ≡ f j) → ((j : ℕ) → i + t ≤ j → j < i + n → g j ≡ f (suc j))
    → vector_from f i (suc n) ≡ inserted_at t (f (i + t)) (vector_from g i n)
unfolding vector_from
insert_vector f g zero i n h before after = ap (λ j. f j ∷ vector_from f (suc i) n) (zero_more i)
    ∙ ap (λ ys. f (i + zero) ∷ ys) (vector_moved f i n ∙ sym (vector_from_same g (λ j. f (suc j)) i n (λ j a b. after j (omega (arith, a)) b)))
  where
    zero_more : (i : ℕ) → i ≡ i + zero
    zero_more i = omega arith
insert_vector f g (suc t) i zero h before after = absurd (omega (arith, h))
insert_vector f g (suc t) i (suc n) h before after = ap (λ y. y ∷ vector_from f (suc i) (suc n)) (sym (before i (omega arith) (omega arith)))
    ∙ ap (λ ys. g i ∷ ys) (insert_vector f g t (suc i) n (omega (arith, h)) (λ j a b. before j (omega (arith, a)) (omega (arith, b)))
    (λ j a b. after j (omega (arith, a)) (omega (arith, b))) ∙ ap (λ j. inserted_at t (f j) (vector_from g (suc i) n)) (moved i t))
  where
    moved : (i t : ℕ) → suc i + t ≡ i + suc t
    moved i t = omega arith

digits_kept : (e g : ℕ → ℤ) (keep c : ℕ → ℕ) (w : List ℕ) → ((l : ℕ) → e (keep l) ≡ g (c l)) → map e (renamed keep w) ≡ map g (map c w)
unfolding renamed
digits_kept e g keep c [] h = refl
digits_kept e g keep c (l ∷ w) h = ap₂ (λ y ys. y ∷ ys) (h l) (digits_kept e g keep c w h)

digits_clamped : (e : ℕ → ℤ) (c : ℕ → ℕ) (w : List ℕ) → map (λ l. e (c l)) w ≡ map e (map c w)
digits_clamped e c [] = refl
digits_clamped e c (l ∷ w) = ap (λ ys. e (c l) ∷ ys) (digits_clamped e c w)

-- the numerators of the kept tracks
pub kept_numbers : (r n t s : ℕ) (h : 2 ≤ r) (b : t ≤ n) (w u v : List ℕ) → s < 2 ^ n
    → numbers r ((setting r n t h b).tracks s) w u v ≡ numerators r n (lasso_of s w u v)
unfolding setting
kept_numbers r n t s h b w u v lt = ap (λ x. numbers r (listed (kept_track r n x) 0 n) w u v) (clamp_small (2 ^ n) s lt)
    ∙ numbers_listed r n s 0 n w u v (omega arith)

unfoldable pub clamped_lasso : ℕ → ℕ → ℕ → List ℕ → List ℕ → List ℕ → Lasso
clamped_lasso r n s w u v = lasso_of (clamp (2 ^ (n + 1)) s) (map (clamp (r ^ (n + 1))) w) (map (clamp (r ^ (n + 1))) u) (map (clamp (r ^ (n + 1))) v)

same_gain : (r n t i j s : ℕ) (w u v : List ℕ) → 0 < r → sign_bit n j (kept_part 2 n t (clamp (2 ^ (n + 1)) s)) ≡ sign_bit (n + 1) i (clamp (2 ^ (n + 1)) s)
    → ((l : ℕ) → digit r n j (kept_part r n t (clamp (r ^ (n + 1)) l)) ≡ digit r (n + 1) i (clamp (r ^ (n + 1)) l))
    → numerator r n j (lasso_of (kept_part 2 n t (clamp (2 ^ (n + 1)) s)) (renamed (λ l. kept_part r n t (clamp (r ^ (n + 1)) l)) w)
    (renamed (λ l. kept_part r n t (clamp (r ^ (n + 1)) l)) u) (renamed (λ l. kept_part r n t (clamp (r ^ (n + 1)) l)) v)) ≡ numerator r (n + 1) i
    (clamped_lasso r n s w u v)
unfolding track_gain clamped_lasso
same_gain r n t i j s w u v some e f =
    sym (track_numerator r n j (kept_part 2 n t (clamp (2 ^ (n + 1)) s)) (renamed keep w) (renamed keep u) (renamed keep v) some)
    ∙ ap (λ y. gain r (run r (diff 0 y) (map ej (renamed keep w))) (map ej (renamed keep u)) (map ej (renamed keep v))) e
    ∙ ap (λ y. gain r (run r start y) (map ej (renamed keep u)) (map ej (renamed keep v))) (moved w)
    ∙ ap₂ (λ y z. gain r (run r start (map ei (map c w))) y z) (moved u) (moved v)
    ∙ track_numerator r (n + 1) i (clamp (2 ^ (n + 1)) s) (map c w) (map c u) (map c v) some
  where
    c : ℕ → ℕ
    c = clamp (r ^ (n + 1))

    keep : ℕ → ℕ
    keep l = kept_part r n t (c l)

    start : ℤ
    start = diff 0 (sign_bit (n + 1) i (clamp (2 ^ (n + 1)) s))

    ej : ℕ → ℤ
    ej l = pos (digit r n j l)

    ei : ℕ → ℤ
    ei l = pos (digit r (n + 1) i l)

    moved : (x : List ℕ) → map ej (renamed keep x) ≡ map ei (map c x)
    moved x = digits_kept ej ei keep c x (λ l. ap pos (f l))

track_is : (r n t s : ℕ) (w u v : List ℕ) → 0 < r
    → gain r (run r (diff 0 (digit 2 (n + 1) t s)) (map (λ l. pos (digit r (n + 1) t l)) w)) (map (λ l. pos (digit r (n + 1) t l)) u)
    (map (λ l. pos (digit r (n + 1) t l)) v) ≡ numerator r (n + 1) t (lasso_of s w u v)
unfolding track_gain sign_bit
track_is r n t s w u v h = track_numerator r (n + 1) t s w u v h

pub full_is : (r n t : ℕ) (h : 2 ≤ r) (b : t ≤ n) (s : ℕ) (w u v : List ℕ) → full (setting r n t h b) s w u v ≡ numerators r (n + 1) (clamped_lasso r n s w u v)
unfolding full setting clamped_lasso sign_bit
full_is r n t h b s w u v =
    ap₂ (λ y ys. inserted_at t y ys) removed
    (ap (λ x. numbers r (listed (kept_track r n x) 0 n) (renamed keep w) (renamed keep u) (renamed keep v)) (clamp_small (2 ^ n) ks ks_below)
    ∙ numbers_listed r n ks 0 n (renamed keep w) (renamed keep u) (renamed keep v) (omega arith))
    ∙ ap (λ j. inserted_at t (f j) (vector_from g 0 n)) (zero_plus t)
    ∙ sym (insert_vector f g t 0 n b (λ j low high. before j (omega (arith, high))) (λ j low high. after j (omega (arith, low)) (omega (arith, high))))
    ∙ ap (vector_from f 0) (plus_one n)
  where
    c : ℕ → ℕ
    c = clamp (r ^ (n + 1))

    c_below : (l : ℕ) → c l < r ^ (n + 1)
    c_below l = clamp_below (r ^ (n + 1)) l (power_positive r (n + 1) (omega arith))

    cs : ℕ
    cs = clamp (2 ^ (n + 1)) s

    cs_below : cs < 2 ^ (n + 1)
    cs_below = clamp_below (2 ^ (n + 1)) s (two_positive (n + 1))

    keep : ℕ → ℕ
    keep l = kept_part r n t (c l)

    ks : ℕ
    ks = kept_part 2 n t cs

    ks_below : ks < 2 ^ n
    ks_below = kept_part_below 2 n t cs (omega arith) b cs_below

    f : ℕ → ℤ
    f j = numerator r (n + 1) j (clamped_lasso r n s w u v)

    g : ℕ → ℤ
    g j = numerator r n j (lasso_of ks (renamed keep w) (renamed keep u) (renamed keep v))

    e : ℕ → ℤ
    e l = pos (digit r (n + 1) t l)

    removed : gain r (run r (diff 0 (digit 2 (n + 1) t cs)) (map (λ l. e (c l)) w)) (map (λ l. e (c l)) u) (map (λ l. e (c l)) v) ≡ f t
    removed = ap (λ y. gain r (run r (diff 0 (digit 2 (n + 1) t cs)) y) (map (λ l. e (c l)) u) (map (λ l. e (c l)) v)) (digits_clamped e c w)
        ∙ ap₂ (λ y z. gain r (run r (diff 0 (digit 2 (n + 1) t cs)) (map e (map c w))) y z) (digits_clamped e c u) (digits_clamped e c v) ∙ at_track
      where
        at_track : gain r (run r (diff 0 (digit 2 (n + 1) t cs)) (map e (map c w))) (map e (map c u)) (map e (map c v)) ≡ f t
        at_track = track_is r n t cs (map c w) (map c u) (map c v) (omega (arith, h))

    zero_plus : (t : ℕ) → t ≡ 0 + t
    zero_plus t = omega arith

    plus_one : (n : ℕ) → suc n ≡ n + 1
    plus_one n = omega arith

    before : (j : ℕ) → j < t → g j ≡ f j
    before j lt = same_gain r n t j j s w u v (omega (arith, h)) (kept_before 2 n t j cs (omega arith) b cs_below lt)
        (λ l. kept_before r n t j (c l) (omega arith) b (c_below l) lt)

    after : (j : ℕ) → t ≤ j → j < n → g j ≡ f (suc j)
    after j low high = same_gain r n t (j + 1) j s w u v (omega (arith, h)) (kept_behind 2 n t j cs (omega arith) b cs_below low)
        (λ l. kept_behind r n t j (c l) (omega arith) b (c_below l) low) ∙ ap f (sym (plus_one j))
