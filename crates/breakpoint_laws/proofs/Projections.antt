-- Projection of one track: letters of all tracks have a kept part and a digit on the track, and a lasso of all tracks over a kept one is
-- accepted exactly if some fraction on the track puts the point into the set.
use Rattle.std.proofs.Common.{◌≡◌, ℕ, zero, suc, ◌+◌, ◌*◌, ◌-◌, ◌^◌, ◌≤◌, ◌<◌, List, [], ◌∷◌, ◌++◌, length, map, arith, refl, ◌∙◌, sym, ap, subst}
use Rattle.std.proofs.Common.{length-append}
use Rattle.std.proofs.Math.IntN.{ℤ, pos, ◌+ℤ◌, ◌*ℤ◌}
use Rattle.std.proofs.Math.Nat.{pow-suc}
use Rattle.std.proofs.lemmas.List.{length-map, map-append}
use Rattle.integer_laws.specs.Differences.{diff}
use Rattle.integer_laws.specs.Runs.{run, gain}
use Rattle.integer_laws.specs.Vectors.{scale}
use Rattle.integer_laws.proofs.Reading.{idle_sign}
use Rattle.graph_laws.specs.Walks.{copies}
use Rattle.lash_model.specs.Sets.{IsOfFractions, inserted_at}
use Rattle.lasso_laws.proofs.Bounds.{map-copies}
use Rattle.lasso_laws.proofs.Moves.{length-copies}
use Rattle.lasso_laws.proofs.Moving.{tours, length-tours, factor, moves, den, den_moves, factor_positive, pow_positive, Every, every-append, every-tours}
use Rattle.lasso_laws.proofs.Moving.{Aligned, aligned}
use Rattle.lasso_laws.proofs.Weaving.{woven_point}
use Rattle.breakpoint_laws.proofs.Graphs.{Graph, accept, renamed}
use Rattle.breakpoint_laws.proofs.Machines.{Narrow, narrow-append, narrow-copies, Lifted}

-- what is read on a track: the start, and the digit of each letter
pub record Track : Type 0 where
  pub start : ℤ
  pub digit : ℕ → ℤ

-- a digit of base r, as an integer
unfoldable pub IsDigit : ℕ → ℤ → Type 0
IsDigit r d = (n : ℕ) × ((n < r) × (d ≡ pos n))

-- a sign letter before a word is idle on the kept tracks
unfoldable pub Idle : ℕ → ℕ → List Track → Type 0
Idle r z [] = Unit
Idle r z (t ∷ ts) = ((pos r *ℤ t.start) +ℤ t.digit z ≡ t.start) × Idle r z ts

-- a base; a letter of all tracks has a kept part and a removed digit, a sign vector a kept part and a removed bit
pub record Setting : Type 0 where
  pub r : ℕ
  pub two : 2 ≤ r
  pub place : ℕ
  pub width : ℕ
  pub keep : ℕ → ℕ
  pub digit : ℕ → ℤ
  pub join : ℕ → ℕ → ℕ
  pub join_keep : (l d : ℕ) → l < width → d < r → keep (join l d) ≡ l
  pub join_digit : (l d : ℕ) → l < width → d < r → digit (join l d) ≡ pos d
  pub sign_keep : ℕ → ℕ
  pub sign_bit : ℕ → ℕ
  pub sign_join : ℕ → ℕ → ℕ
  pub signs : ℕ
  pub sign_join_keep : (s b : ℕ) → s < signs → b < 2 → sign_keep (sign_join s b) ≡ s
  pub sign_join_bit : (s b : ℕ) → s < signs → b < 2 → sign_bit (sign_join s b) ≡ b
  pub sign_letter : ℕ → ℕ
  pub sign_narrow : (s : ℕ) → sign_letter s < width
  pub tracks : ℕ → List Track
  pub idle : (s : ℕ) → Idle r (sign_letter s) (tracks s)

-- the numerators of the kept tracks
unfoldable pub numbers : ℕ → List Track → List ℕ → List ℕ → List ℕ → List ℤ
numbers r [] w u v = []
numbers r (t ∷ ts) w u v = gain r (run r t.start (map t.digit w)) (map t.digit u) (map t.digit v) ∷ numbers r ts w u v

-- the point of a lasso of all tracks
unfoldable pub full : Setting → ℕ → List ℕ → List ℕ → List ℕ → List ℤ
full z s w u v = inserted_at z.place (gain z.r (run z.r (diff 0 (z.sign_bit s)) (map z.digit w)) (map z.digit u) (map z.digit v))
    (numbers z.r (z.tracks (z.sign_keep s)) (renamed z.keep w) (renamed z.keep u) (renamed z.keep v))

pub numbers_moves : (r : ℕ) (ts : List Track) (w u v : List ℕ) (j q : ℕ)
    → numbers r ts w (u ++ copies j v) (copies q v) ≡ scale (factor r (length v) j q) (numbers r ts w u v)
unfolding numbers scale
numbers_moves r [] w u v j q = refl
numbers_moves r (t ∷ ts) w u v j q = ap (λ y. y ∷ numbers r ts w (u ++ copies j v) (copies q v)) (one t)
    ∙ ap (λ ys. (pos (factor r (length v) j q) *ℤ gain r (run r t.start (map t.digit w)) (map t.digit u) (map t.digit v)) ∷ ys)
    (numbers_moves r ts w u v j q)
  where
    one : (t : Track) → gain r (run r t.start (map t.digit w)) (map t.digit (u ++ copies j v)) (map t.digit (copies q v)) ≡ pos
        (factor r (length v) j q) *ℤ gain r (run r t.start (map t.digit w)) (map t.digit u) (map t.digit v)
    one t = ap (λ x. gain r (run r t.start (map t.digit w)) x (map t.digit (copies q v))) (map-append t.digit u (copies j v)
        ∙ ap (λ x. map t.digit u ++ x) (map-copies t.digit j v))
        ∙ ap (λ x. gain r (run r t.start (map t.digit w)) (map t.digit u ++ tours j (map t.digit v)) x) (map-copies t.digit q v)
        ∙ moves r (run r t.start (map t.digit w)) (map t.digit u) (map t.digit v) j q
        ∙ ap (λ n. pos (factor r n j q) *ℤ gain r (run r t.start (map t.digit w)) (map t.digit u) (map t.digit v)) (length-map v t.digit)

run_idle : (r : ℕ) (x : ℤ) (e : ℕ → ℤ) (z : ℕ) (j : ℕ) (w : List ℕ) → (pos r *ℤ x) +ℤ e z ≡ x → run r x (map e (copies j (z ∷ []) ++ w)) ≡ run r x (map e w)
unfolding run
run_idle r x e z zero w h = refl
run_idle r x e z (suc j) w h = ap (λ y. run r y (map e (copies j (z ∷ []) ++ w))) h ∙ run_idle r x e z j w h

pub numbers_padded : (r : ℕ) (ts : List Track) (z j : ℕ) (w u v : List ℕ) → Idle r z ts → numbers r ts (copies j (z ∷ []) ++ w) u v ≡ numbers r ts w u v
unfolding numbers Idle
numbers_padded r [] z j w u v h = refl
numbers_padded r (t ∷ ts) z j w u v h = ap (λ x. gain r x (map t.digit u) (map t.digit v) ∷ numbers r ts (copies j (z ∷ []) ++ w) u v)
    (run_idle r t.start t.digit z j w h.0)
    ∙ ap (λ ys. gain r (run r t.start (map t.digit w)) (map t.digit u) (map t.digit v) ∷ ys) (numbers_padded r ts z j w u v h.1)

pub length-renamed : (f : ℕ → ℕ) (w : List ℕ) → length (renamed f w) ≡ length w
unfolding renamed
length-renamed f [] = refl
length-renamed f (l ∷ w) = omega (arith, length-renamed f w)

-- a word of all tracks from a kept word and removed digits
pub record Woven (z : Setting) (w : List ℕ) (ds : List ℤ) : Type 0 where
  pub word : List ℕ
  pub kept : renamed z.keep word ≡ w
  pub removed : map z.digit word ≡ ds

pub weave : (z : Setting) (w : List ℕ) (ds : List ℤ) → length w ≡ length ds → Narrow z.width w → Every (IsDigit z.r) ds → Woven z w ds
unfolding renamed Narrow Every IsDigit
weave z [] [] e n h = record { word = []; kept = refl; removed = refl }
weave z [] (d ∷ ds) e n h = absurd (omega arith)
weave z (l ∷ w) [] e n h = absurd (omega arith)
weave z (l ∷ w) (d ∷ ds) e n h = next (weave z w ds (omega (arith, e)) n.1 h.1)
  where
    c : ℕ
    c = h.0.0

    next : Woven z w ds → Woven z (l ∷ w) (d ∷ ds)
    next o = record {
      word = z.join l c ∷ o.word;
      kept = ap (λ x. x ∷ renamed z.keep o.word) (z.join_keep l c n.0 h.0.1.0)
          ∙ ap (λ x. l ∷ x) o.kept;
      removed = ap (λ x. x ∷ map z.digit o.word) (z.join_digit l c n.0 h.0.1.0 ∙ sym h.0.1.1) ∙ ap (λ x. d ∷ x) o.removed;
    }

-- a state reached over a kept sign vector and word, with sign letters in front and any removed bit and digits
pub record OverWhole (z : Setting) (enter : ℕ → List ℕ → ℕ) (s : ℕ) (w : List ℕ) (q : ℕ) : Type 0 where
  pub sign : ℕ
  pub word : List ℕ
  pub more : ℕ
  pub kept_sign : z.sign_keep sign ≡ s
  pub kept_word : renamed z.keep word ≡ copies more (z.sign_letter s ∷ []) ++ w
  pub leads : enter sign word ≡ q

-- a real number at the removed place, as gain over a multiple of the denominator
pub record SomeNumber (P : List ℤ → ℕ → Type 0) (place : ℕ) (ns : List ℤ) (d : ℕ) : Type 0 where
  pub less : ℕ
  pub number : ℤ
  pub holds : P (inserted_at place number (scale (suc less) ns)) (suc less * d)

-- the table of all tracks stands for P: it enters the fraction part at `enter`, and accepts from there exactly if P holds
pub record Stands (z : Setting) (t : Graph) (enter : ℕ → List ℕ → ℕ) (P : List ℤ → ℕ → Type 0) : Type 0 where
  pub sound : (s : ℕ) (w u v : List ℕ) → 1 ≤ length v → accept t (enter s w) u v ≡ 1 → P (full z s w u v) (den z.r (length u) (length v))
  pub complete : (s : ℕ) (w u v : List ℕ) → 1 ≤ length v → P (full z s w u v) (den z.r (length u) (length v)) → accept t (enter s w) u v ≡ 1

-- ---- from an accepted lasso of all tracks over a kept one to a number
pub number_of_lifted : (z : Setting) (t : Graph) (from : ℕ → Type 0) (enter : ℕ → List ℕ → ℕ) (P : List ℤ → ℕ → Type 0) → Stands z t enter P → (s : ℕ) (w : List ℕ)
    → ((q : ℕ) → from q → OverWhole z enter s w q) → (u : List ℕ) (l : ℕ) (v : List ℕ) → Lifted t z.keep from u (l ∷ v)
    → SomeNumber P z.place (numbers z.r (z.tracks s) w u (l ∷ v)) (den z.r (length u) (length (l ∷ v)))
unfolding full
number_of_lifted z t from enter P stands s w starts u l v i =
    record {
      less = f - 1;
      number = number;
      holds =
          subst (λ n. P (inserted_at z.place number (scale n ns)) (n * d)) (one_less f (factor_positive r (length x) i.more i.less (omega (arith, z.two))))
          (subst (λ n. P (inserted_at z.place number (scale f ns)) n) dens
          (subst (λ ys. P (inserted_at z.place number ys) (den r (length i.stem) (length i.cycle))) kept_numbers accepted));
    }
  where
    r : ℕ
    r = z.r

    x : List ℕ
    x = l ∷ v

    ns : List ℤ
    ns = numbers r (z.tracks s) w u x

    d : ℕ
    d = den r (length u) (length x)

    o : OverWhole z enter s w i.start
    o = starts i.start i.member

    f : ℕ
    f = factor r (length x) i.more (suc i.less)

    number : ℤ
    number = gain r (run r (diff 0 (z.sign_bit o.sign)) (map z.digit o.word)) (map z.digit i.stem) (map z.digit i.cycle)

    stem_length : length i.stem ≡ length u + i.more * length x
    stem_length = sym (length-renamed z.keep i.stem) ∙ ap (λ y. length y) i.stem_kept ∙ length-append u (copies i.more x)
        ∙ ap (λ y. length u + y) (length-copies i.more x)

    cycle_length : length i.cycle ≡ suc i.less * length x
    cycle_length = sym (length-renamed z.keep i.cycle) ∙ ap (λ y. length y) i.cycle_kept ∙ length-copies (suc i.less) x

    not_empty : 1 ≤ length i.cycle
    not_empty = rw cycle_length (some i.less (length v))
      where
        some : (a n : ℕ) → 1 ≤ suc a * suc n
        some a n = omega arith

    accepted : P (full z o.sign o.word i.stem i.cycle) (den r (length i.stem) (length i.cycle))
    accepted = stands.sound o.sign o.word i.stem i.cycle not_empty (ap (λ q. accept t q i.stem i.cycle) o.leads ∙ i.accepted)

    kept_numbers : numbers r (z.tracks (z.sign_keep o.sign)) (renamed z.keep o.word) (renamed z.keep i.stem) (renamed z.keep i.cycle) ≡ scale f ns
    kept_numbers = ap (λ y. numbers r (z.tracks y) (renamed z.keep o.word) (renamed z.keep i.stem) (renamed z.keep i.cycle)) o.kept_sign
        ∙ ap (λ y. numbers r (z.tracks s) y (renamed z.keep i.stem) (renamed z.keep i.cycle)) o.kept_word
        ∙ numbers_padded r (z.tracks s) (z.sign_letter s) o.more w (renamed z.keep i.stem) (renamed z.keep i.cycle) (z.idle s)
        ∙ ap (λ y. numbers r (z.tracks s) w y (renamed z.keep i.cycle)) i.stem_kept
        ∙ ap (λ y. numbers r (z.tracks s) w (u ++ copies i.more x) y) i.cycle_kept ∙ numbers_moves r (z.tracks s) w u x i.more (suc i.less)

    dens : den r (length i.stem) (length i.cycle) ≡ f * d
    dens = ap (λ y. den r y (length i.cycle)) stem_length ∙ ap (λ y. den r (length u + i.more * length x) y) cycle_length
        ∙ den_moves r (length u) (length x) i.more (suc i.less) (omega (arith, z.two))

    one_less : (n : ℕ) → 1 ≤ n → n ≡ suc (n - 1)
    one_less n h = omega arith

-- ---- from a number to a lasso of all tracks
-- a lasso of one track for the fraction m / d
pub record OneTrack (r : ℕ) (m : ℤ) (d : ℕ) : Type 0 where
  pub bit : ℕ
  pub bit_below : bit < 2
  pub whole : List ℤ
  pub stem : List ℤ
  pub letter : ℤ
  pub cycle : List ℤ
  pub whole_digits : Every (IsDigit r) whole
  pub stem_digits : Every (IsDigit r) stem
  pub cycle_digits : Every (IsDigit r) (letter ∷ cycle)
  pub is : gain r (run r (diff 0 bit) whole) stem (letter ∷ cycle) *ℤ pos d ≡ m *ℤ pos (den r (length stem) (length (letter ∷ cycle)))

narrow_one : (width l : ℕ) → l < width → Narrow width (l ∷ [])
unfolding Narrow
narrow_one width l h = (h, tt)

sign_digits : (r bit : ℕ) → 1 ≤ r → bit < 2 → Every (IsDigit r) (pos ((r - 1) * bit) ∷ [])
unfolding Every IsDigit
sign_digits r bit h b = (((r - 1) * bit, (small r bit h b, refl)), tt)
  where
    small : (r bit : ℕ) → 1 ≤ r → bit < 2 → (r - 1) * bit < r
    small r zero h b = omega (arith, h)
    small r (suc zero) h b = omega (arith, h)
    small r (suc (suc bit)) h b = absurd (omega (arith, b))

pub idle_bit : (r s : ℕ) → 1 ≤ r → (pos r *ℤ diff 0 s) +ℤ pos ((r - 1) * s) ≡ diff 0 s
idle_bit r s h = ap (λ m. (pos m *ℤ diff 0 s) +ℤ pos ((r - 1) * s)) (pred r h) ∙ idle_sign (r - 1) s
  where
    pred : (r : ℕ) → 1 ≤ r → r ≡ suc (r - 1)
    pred r h = omega (arith, h)

run_signs : (r bit n : ℕ) (ds : List ℤ) → 1 ≤ r → run r (diff 0 bit) (tours n (pos ((r - 1) * bit) ∷ []) ++ ds) ≡ run r (diff 0 bit) ds
unfolding run tours
run_signs r bit zero ds h = refl
run_signs r bit (suc n) ds h = ap (λ y. run r y (tours n (pos ((r - 1) * bit) ∷ []) ++ ds)) (idle_bit r bit h) ∙ run_signs r bit n ds h

pub den_positive : (r m n : ℕ) → 2 ≤ r → 1 ≤ den r m (suc n)
unfolding den
den_positive r m n h = positive (r ^ m) (r ^ suc n - 1) (pow_positive r m (omega (arith, h)))
    (big (r ^ suc n) (more (r ^ n) (pow_positive r n (omega (arith, h))) (pow-suc r n)))
  where
    positive : (a b : ℕ) → 1 ≤ a → 1 ≤ b → 1 ≤ a * b
    positive a b h k = grind arith

    big : (p : ℕ) → 2 ≤ p → 1 ≤ p - 1
    big p h = omega (arith, h)

    product : (r p : ℕ) → 2 ≤ r → 1 ≤ p → 2 ≤ p * r
    product r p h g = grind arith

    more : (p : ℕ) → 1 ≤ p → r ^ suc n ≡ p * r → 2 ≤ r ^ suc n
    more p g e = rw e (product r p h g)

pub lifted_of_track : (z : Setting) (t : Graph) (from : ℕ → Type 0) (enter : ℕ → List ℕ → ℕ) (P : List ℤ → ℕ → Type 0) → IsOfFractions P → Stands z t enter P
    → (s : ℕ) → s < z.signs → (w : List ℕ) → Narrow z.width w → ((q : ℕ) → OverWhole z enter s w q → from q) → (u : List ℕ) (l : ℕ) (v : List ℕ)
    → Narrow z.width u → Narrow z.width (l ∷ v) → (p : SomeNumber P z.place (numbers z.r (z.tracks s) w u (l ∷ v)) (den z.r (length u) (length (l ∷ v))))
    → OneTrack z.r p.number (suc p.less * den z.r (length u) (length (l ∷ v))) → Lifted t z.keep from u (l ∷ v)
unfolding full
lifted_of_track z t from enter P free stands s sb w nw starts u l v nu nv p o =
    record {
      start = enter sign whole.word;
      member =
          starts (enter sign whole.word)
          (record {
            sign = sign;
            word = whole.word;
            more = length o.whole;
            kept_sign = z.sign_join_keep s o.bit sb o.bit_below;
            kept_word = whole.kept;
            leads =
                refl;
          });
      stem = stem.word;
      cycle = cycle.word;
      more = g.turn;
      less = g.less;
      stem_kept = stem.kept;
      cycle_kept = cycle.kept;
      accepted =
          stands.complete sign whole.word stem.word cycle.word not_empty
          (subst (λ n. P (full z sign whole.word stem.word cycle.word) n) (sym dens) (subst (λ ys. P ys (f * d)) (sym vectors) holds));
    }
  where
    r : ℕ
    r = z.r

    D : ℤ → Type 0
    D = IsDigit r

    x : List ℕ
    x = l ∷ v

    ns : List ℤ
    ns = numbers r (z.tracks s) w u x

    d : ℕ
    d = den r (length u) (length x)

    g : Aligned D r (length u) (length x) o.stem (o.letter ∷ o.cycle)
    g = aligned D r (length u) (length v) o.stem o.letter o.cycle (omega (arith, z.two)) o.stem_digits o.cycle_digits

    f : ℕ
    f = factor r (length x) g.turn (suc g.less)

    f_positive : 1 ≤ f
    f_positive = factor_positive r (length x) g.turn g.less (omega (arith, z.two))

    sign : ℕ
    sign = z.sign_join s o.bit

    pad : List ℤ
    pad = pos ((z.r - 1) * o.bit) ∷ []

    kept_stem_length : length (u ++ copies g.turn x) ≡ length u + g.turn * length x
    kept_stem_length = length-append u (copies g.turn x) ∙ ap (λ y. length u + y) (length-copies g.turn x)

    stem : Woven z (u ++ copies g.turn x) g.stem
    stem = weave z (u ++ copies g.turn x) g.stem (kept_stem_length ∙ sym g.stem_length)
        (narrow-append z.width u (copies g.turn x) nu (narrow-copies z.width g.turn x nv)) g.stem_digits

    cycle : Woven z (copies (suc g.less) x) g.cycle
    cycle = weave z (copies (suc g.less) x) g.cycle (length-copies (suc g.less) x ∙ sym g.cycle_length) (narrow-copies z.width (suc g.less) x nv) g.cycle_digits

    whole : Woven z (copies (length o.whole) (z.sign_letter s ∷ []) ++ w) (tours (length w) pad ++ o.whole)
    whole = weave z (copies (length o.whole) (z.sign_letter s ∷ []) ++ w) (tours (length w) pad ++ o.whole) lengths
        (narrow-append z.width (copies (length o.whole) (z.sign_letter s ∷ [])) w
        (narrow-copies z.width (length o.whole) (z.sign_letter s ∷ []) (narrow_one z.width (z.sign_letter s) (z.sign_narrow s))) nw)
        (every-append D (tours (length w) pad) o.whole (every-tours D (length w) pad (sign_digits z.r o.bit (omega (arith, z.two)) o.bit_below))
        o.whole_digits)
      where
        lengths : length (copies (length o.whole) (z.sign_letter s ∷ []) ++ w) ≡ length (tours (length w) pad ++ o.whole)
        lengths = omega (
          arith,
          length-append (copies (length o.whole) (z.sign_letter s ∷ [])) w,
          length-append
              (tours (length w) pad) o.whole,
          length-copies (length o.whole) (z.sign_letter s ∷ []),
          length-tours (length w) pad,
        )

    stem_length : length stem.word ≡ length u + g.turn * length x
    stem_length = sym (length-renamed z.keep stem.word) ∙ ap (λ y. length y) stem.kept ∙ kept_stem_length

    cycle_length : length cycle.word ≡ suc g.less * length x
    cycle_length = sym (length-renamed z.keep cycle.word) ∙ ap (λ y. length y) cycle.kept ∙ length-copies (suc g.less) x

    not_empty : 1 ≤ length cycle.word
    not_empty = rw cycle_length (some g.less (length v))
      where
        some : (a n : ℕ) → 1 ≤ suc a * suc n
        some a n = omega arith

    nt : ℤ
    nt = gain r (run r (diff 0 o.bit) o.whole) o.stem (o.letter ∷ o.cycle)

    dt : ℕ
    dt = den r (length o.stem) (length (o.letter ∷ o.cycle))

    dt_positive : 1 ≤ dt
    dt_positive = den_positive z.r (length o.stem) (length o.cycle) z.two

    one_less : (n : ℕ) → 1 ≤ n → suc (n - 1) ≡ n
    one_less n h = omega arith

    kept_dens : f * d ≡ g.times * dt
    kept_dens = sym (den_moves r (length u) (length x) g.turn (suc g.less) (omega (arith, z.two))) ∙ g.dens

    dens : den r (length stem.word) (length cycle.word) ≡ f * d
    dens = ap (λ y. den r y (length cycle.word)) stem_length ∙ ap (λ y. den r (length u + g.turn * length x) y) cycle_length
        ∙ den_moves r (length u) (length x) g.turn (suc g.less) (omega (arith, z.two))

    holds : P (inserted_at z.place (pos g.times *ℤ nt) (scale f ns)) (f * d)
    holds = subst (λ n. P (inserted_at z.place (pos g.times *ℤ nt) (scale n ns)) (n * d)) (one_less f f_positive)
        (woven_point P free z.place ns d p.less (f - 1) p.number nt (dt - 1) g.times p.holds (o.is
        ∙ ap (λ n. p.number *ℤ pos n) (sym (one_less dt dt_positive))) (ap (λ n. n * d) (one_less f f_positive) ∙ kept_dens
        ∙ ap (λ n. g.times * n) (sym (one_less dt dt_positive))))

    removed : gain r (run r (diff 0 (z.sign_bit sign)) (map z.digit whole.word)) (map z.digit stem.word) (map z.digit cycle.word) ≡ pos g.times *ℤ nt
    removed = ap (λ y. gain r (run r (diff 0 y) (map z.digit whole.word)) (map z.digit stem.word) (map z.digit cycle.word))
        (z.sign_join_bit s o.bit sb o.bit_below)
        ∙ ap (λ y. gain r y (map z.digit stem.word) (map z.digit cycle.word)) (ap (λ ds. run r (diff 0 o.bit) ds) whole.removed
        ∙ run_signs z.r o.bit (length w) o.whole (omega (arith, z.two)))
        ∙ ap (λ y. gain r (run r (diff 0 o.bit) o.whole) y (map z.digit cycle.word)) stem.removed
        ∙ ap (λ y. gain r (run r (diff 0 o.bit) o.whole) g.stem y) cycle.removed ∙ g.each (run r (diff 0 o.bit) o.whole)

    kept : numbers r (z.tracks (z.sign_keep sign)) (renamed z.keep whole.word) (renamed z.keep stem.word) (renamed z.keep cycle.word) ≡ scale f ns
    kept = ap (λ y. numbers r (z.tracks y) (renamed z.keep whole.word) (renamed z.keep stem.word) (renamed z.keep cycle.word))
        (z.sign_join_keep s o.bit sb o.bit_below) ∙ ap (λ y. numbers r (z.tracks s) y (renamed z.keep stem.word) (renamed z.keep cycle.word)) whole.kept
        ∙ numbers_padded r (z.tracks s) (z.sign_letter s) (length o.whole) w (renamed z.keep stem.word) (renamed z.keep cycle.word) (z.idle s)
        ∙ ap (λ y. numbers r (z.tracks s) w y (renamed z.keep cycle.word)) stem.kept
        ∙ ap (λ y. numbers r (z.tracks s) w (u ++ copies g.turn x) y) cycle.kept ∙ numbers_moves r (z.tracks s) w u x g.turn (suc g.less)

    vectors : full z sign whole.word stem.word cycle.word ≡ inserted_at z.place (pos g.times *ℤ nt) (scale f ns)
    vectors = ap (λ y. inserted_at z.place y
        (numbers r (z.tracks (z.sign_keep sign)) (renamed z.keep whole.word) (renamed z.keep stem.word) (renamed z.keep cycle.word))) removed
        ∙ ap (λ y. inserted_at z.place (pos g.times *ℤ nt) y) kept
