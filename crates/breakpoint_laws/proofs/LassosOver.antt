-- A run over the letters of a lasso of the kept tracks is a lasso of all tracks over it.
use Rattle.std.proofs.Common.{◌≡◌, ℕ, suc, ◌+◌, ◌*◌, ◌^◌, ◌<◌, List, [], ◌∷◌, ◌++◌, length, map, arith, refl, ◌∙◌, sym, ap, ap₂, length-append}
use Rattle.std.specs.Prelude.{slice_index, All}
use Rattle.std.specs.List.{AllByRecursion}
use Rattle.std.proofs.lemmas.List.{length-map}
use Rattle.std.proofs.lemmas.List.Elements.{recursion_from_All, All-from_recursion}
use Rattle.graph_laws.specs.Walks.{copies}
use Rattle.lash_model.specs.Letters.{digit, sign_letter}
use Rattle.lash_model.specs.Tables.{Table, IsTable}
use Rattle.lash_model.specs.Acceptance.{frac_state}
use Rattle.part_laws.proofs.Walking.{word-append, word-copies}
use Rattle.lasso_laws.proofs.Moves.{length-copies}
use Rattle.lasso_laws.proofs.Letters.{digit_below}
use Rattle.subset_build.specs.Projection.{with_digit, kept, woven}
use Rattle.subset_build.proofs.KeptLetters.{with_digit_below, sign_letter_below}
use Rattle.breakpoint_laws.specs.Breakpoints.{IsLassoAcceptedOver}
use Rattle.breakpoint_laws.proofs.Graphs.{accept, renamed}
use Rattle.breakpoint_laws.proofs.Machines.{Lifted}
use Rattle.breakpoint_laws.proofs.Projections.{OverWhole, length-renamed}
use Rattle.breakpoint_laws.proofs.KeptParts.{with_digit-kept, clamp, clamp_small, clamp_below}
use Rattle.breakpoint_laws.proofs.TrackSettings.{setting, lasso_of, clamped_lasso, two_positive}
use Rattle.breakpoint_laws.proofs.TableGraphs.{yes_is, frac_graph, map-clamp_small}
use Rattle.breakpoint_laws.proofs.TrackLetters.{within, track_setting, letters_are, keep_of, digit_of, digit_small, put_together, base_positive}
use Rattle.breakpoint_laws.proofs.TrackRuns.{entered, accepted_is, is_yes}

-- a word of all tracks is woven of its kept letters and its digits on the track
woven_parts : (t : Table) (track : ℕ) → IsTable t → track < t.tracks → (w : List ℕ)
    → map (clamp (t.base ^ (kept t + 1))) w ≡ woven t.base (kept t) track (renamed (keep_of t track) w) (map (digit_of t track) w)
unfolding renamed
woven_parts t track h lt [] = refl
woven_parts t track h lt (l ∷ w) = ap₂ (λ x xs. x ∷ xs) (ap (λ m. clamp m l) (sym (letters_are t track lt)) ∙ put_together t track h lt l)
    (woven_parts t track h lt w)

digits_small : (t : Table) (track : ℕ) → IsTable t → track < t.tracks → (w : List ℕ) → AllByRecursion (λ d. d < t.base) (map (digit_of t track) w)
digits_small t track h lt [] = tt
digits_small t track h lt (l ∷ w) = (digit_small t track h lt l, digits_small t track h lt w)

-- letters of a woven word
woven_in : (t : Table) (track : ℕ) → IsTable t → track < t.tracks → (w ds : List ℕ) → AllByRecursion (λ l. l < t.base ^ kept t) w
    → AllByRecursion (λ d. d < t.base) ds → AllByRecursion (λ l. l < t.base ^ (kept t + 1)) (woven t.base (kept t) track w ds)
woven_in t track h lt [] ds a b = tt
woven_in t track h lt (l ∷ w) [] a b = tt
woven_in t track h lt (l ∷ w) (d ∷ ds) a b =
    (with_digit_below t.base (kept t) track l d (base_positive t h) a.0 (within t track lt) b.0, woven_in t track h lt w ds a.1 b.1)

-- its kept letters
kept_woven : (t : Table) (track : ℕ) (h : IsTable t) (lt : track < t.tracks) (w ds : List ℕ) → length ds ≡ length w
    → AllByRecursion (λ l. l < t.base ^ kept t) w → AllByRecursion (λ d. d < t.base) ds
    → renamed (track_setting t track h lt).keep (woven t.base (kept t) track w ds) ≡ w
unfolding renamed track_setting setting
kept_woven t track h lt [] ds e a b = refl
kept_woven t track h lt (l ∷ w) [] e a b = absurd (omega (arith, e))
kept_woven t track h lt (l ∷ w) (d ∷ ds) e a b = ap₂ (λ x xs. x ∷ xs) ((track_setting t track h lt).join_keep l d a.0 b.0)
    (kept_woven t track h lt w ds (omega (arith, e)) a.1 b.1)

same_lasso : (s s1 : ℕ) (w w1 u u1 v v1 : List ℕ) → s ≡ s1 → w ≡ w1 → u ≡ u1 → v ≡ v1 → lasso_of s w u v ≡ lasso_of s1 w1 u1 v1
same_lasso s s1 w w1 u u1 v v1 a b c d = ap₂ (λ x y. lasso_of x y u v) a b ∙ ap₂ (λ x y. lasso_of s1 w1 x y) c d

-- the sign letter of a kept sign vector
letter_of : (t : Table) (s : ℕ) → s < 2 ^ kept t → sign_letter t.base (kept t) (clamp (2 ^ kept t) s) ≡ sign_letter t.base (kept t) s
letter_of t s lt = ap (sign_letter t.base (kept t)) (clamp_small (2 ^ kept t) s lt)

length-ones : (n z : ℕ) → length (copies n (z ∷ [])) ≡ n
length-ones n z = length-copies n (z ∷ []) ∙ times_one n
  where
    times_one : (n : ℕ) → n * 1 ≡ n
    times_one n = omega arith

-- ---- from a run over the lasso to a lasso of all tracks
pub completed : (t : Table) (track : ℕ) (h : IsTable t) (lt : track < t.tracks) (s : ℕ) (w up v : List ℕ) → s < 2 ^ kept t
    → (i : Lifted (frac_graph t h) (track_setting t track h lt).keep (λ q. OverWhole (track_setting t track h lt) (entered t h) s w q)
    up v) → IsLassoAcceptedOver t track (lasso_of s w up v)
unfolding track_setting setting clamped_lasso keep_of
completed t track h lt s w up v sb i = record {
  bit = bit;
  signs = o.more;
  more = i.more;
  less = i.less;
  whole = map (digit_of t track) o.word;
  stem = map (digit_of t track) i.stem;
  cycle = map (digit_of t track) i.cycle;
  bit_below = digit_below 2 (kept t + 1) track (clamp (2 ^ (kept t + 1)) o.sign) (omega arith) (omega (arith, lt)) sign_in;
  whole_in = All-from_recursion (λ d. d < t.base) (map (digit_of t track) o.word) (digits_small t track h lt o.word);
  stem_in = All-from_recursion (λ d. d < t.base) (map (digit_of t track) i.stem) (digits_small t track h lt i.stem);
  cycle_in = All-from_recursion (λ d. d < t.base) (map (digit_of t track) i.cycle) (digits_small t track h lt i.cycle);
  whole_count = length-map o.word (digit_of t track) ∙ sym (length-renamed (keep_of t track) o.word) ∙ ap length o.kept_word
      ∙ length-append (copies o.more (zs ∷ [])) w ∙ ap (λ n. n + length w) (length-ones o.more zs);
  stem_count = length-map i.stem (digit_of t track) ∙ sym (length-renamed (keep_of t track) i.stem) ∙ ap length i.stem_kept
      ∙ length-append up (copies i.more v) ∙ ap (λ n. length up + n) (length-copies i.more v);
  cycle_count = length-map i.cycle (digit_of t track) ∙ sym (length-renamed (keep_of t track) i.cycle) ∙ ap length i.cycle_kept ∙ length-copies (suc i.less) v;
  accepted = is_yes _ (ap (λ y. slice_index t.colours (frac_state t y)) (sym same) ∙ sym (accepted_is t track h lt o.sign o.word i.stem i.cycle)
      ∙ ap (λ q. accept (frac_graph t h) q i.stem i.cycle) o.leads ∙ i.accepted);
}
  where
    o : OverWhole (track_setting t track h lt) (entered t h) s w i.start
    o = i.member

    zs : ℕ
    zs = sign_letter t.base (kept t) (clamp (2 ^ kept t) s)

    sign_in : clamp (2 ^ (kept t + 1)) o.sign < 2 ^ (kept t + 1)
    sign_in = clamp_below (2 ^ (kept t + 1)) o.sign (two_positive (kept t + 1))

    bit : ℕ
    bit = digit 2 (kept t + 1) track (clamp (2 ^ (kept t + 1)) o.sign)

    m : ℕ
    m = t.base ^ (kept t + 1)

    same : lasso_of (clamp (2 ^ (kept t + 1)) o.sign) (map (clamp m) o.word) (map (clamp m) i.stem) (map (clamp m) i.cycle) ≡ lasso_of
        (with_digit 2 (kept t) track s bit)
        (woven t.base (kept t) track (copies o.more (sign_letter t.base (kept t) s ∷ []) ++ w) (map (digit_of t track) o.word))
        (woven t.base (kept t) track (up ++ copies i.more v) (map (digit_of t track) i.stem))
        (woven t.base (kept t) track (copies (suc i.less) v) (map (digit_of t track) i.cycle))
    same = same_lasso _ _ _ _ _ _ _ _
        (sym (with_digit-kept 2 (kept t) track (clamp (2 ^ (kept t + 1)) o.sign) (omega arith) (within t track lt) sign_in)
        ∙ ap (λ k. with_digit 2 (kept t) track k bit) o.kept_sign)
        (woven_parts t track h lt o.word
        ∙ ap (λ k. woven t.base (kept t) track k (map (digit_of t track) o.word)) (o.kept_word
        ∙ ap (λ k. copies o.more (k ∷ []) ++ w) (letter_of t s sb)))
        (woven_parts t track h lt i.stem ∙ ap (λ k. woven t.base (kept t) track k (map (digit_of t track) i.stem)) i.stem_kept)
        (woven_parts t track h lt i.cycle ∙ ap (λ k. woven t.base (kept t) track k (map (digit_of t track) i.cycle)) i.cycle_kept)

signs_kept : (t : Table) (track : ℕ) (h : IsTable t) (lt : track < t.tracks) (s b : ℕ) → s < 2 ^ kept t → b < 2
    → (track_setting t track h lt).sign_keep (with_digit 2 (kept t) track s b) ≡ s
unfolding track_setting setting
signs_kept t track h lt s b sb below = (track_setting t track h lt).sign_join_keep s b sb below

own_letter : (t : Table) (track : ℕ) (h : IsTable t) (lt : track < t.tracks) (s : ℕ) → s < 2 ^ kept t
    → (track_setting t track h lt).sign_letter s ≡ sign_letter t.base (kept t) s
unfolding track_setting setting
own_letter t track h lt s sb = letter_of t s sb

-- ---- and back
pub lifted_over : (t : Table) (track : ℕ) (h : IsTable t) (lt : track < t.tracks) (s : ℕ) (w up v : List ℕ) → s < 2 ^ kept t
    → AllByRecursion (λ l. l < t.base ^ kept t) w → AllByRecursion (λ l. l < t.base ^ kept t) up → AllByRecursion (λ l. l < t.base ^ kept t) v
    → IsLassoAcceptedOver t track (lasso_of s w up v)
    → Lifted (frac_graph t h) (track_setting t track h lt).keep (λ q. OverWhole (track_setting t track h lt) (entered t h) s w q) up v
unfolding clamped_lasso
lifted_over t track h lt s w up v sb w_in up_in v_in r = record {
  start = entered t h sign whole;
  member = record {
    sign = sign;
    word = whole;
    more = r.signs;
    kept_sign = signs_kept t track h lt s r.bit sb r.bit_below;
    kept_word =
        kept_woven t track h lt front r.whole (r.whole_count
        ∙ sym (length-append (copies r.signs (z ∷ [])) w ∙ ap (λ n. n + length w) (length-ones r.signs z))) front_in (digits_in r.whole r.whole_in)
        ∙ ap (λ k. copies r.signs (k ∷ []) ++ w) (sym (own_letter t track h lt s sb));
    leads = refl;
  };
  stem = stem;
  cycle = cycle;
  more = r.more;
  less = r.less;
  stem_kept = kept_woven t track h lt (up ++ copies r.more v) r.stem (r.stem_count
      ∙ sym (length-append up (copies r.more v) ∙ ap (λ n. length up + n) (length-copies r.more v))) stem_in (digits_in r.stem r.stem_in);
  cycle_kept = kept_woven t track h lt (copies (suc r.less) v) r.cycle (r.cycle_count ∙ sym (length-copies (suc r.less) v))
      (word-copies (t.base ^ kept t) (suc r.less) v v_in) (digits_in r.cycle r.cycle_in);
  accepted = accepted_is t track h lt sign whole stem cycle ∙ ap (λ y. slice_index t.colours (frac_state t y)) same ∙ yes_is _ r.accepted;
}
  where
    z : ℕ
    z = sign_letter t.base (kept t) s

    front : List ℕ
    front = copies r.signs (z ∷ []) ++ w

    digits_in : (ds : List ℕ) → All (λ d. d < t.base) ds → AllByRecursion (λ d. d < t.base) ds
    digits_in ds a = recursion_from_All (λ d. d < t.base) ds a

    front_in : AllByRecursion (λ l. l < t.base ^ kept t) front
    front_in = word-append (t.base ^ kept t) (copies r.signs (z ∷ [])) w
        (word-copies (t.base ^ kept t) r.signs (z ∷ []) (sign_letter_below t.base (kept t) s h.shape.base_low sb, tt)) w_in

    stem_in : AllByRecursion (λ l. l < t.base ^ kept t) (up ++ copies r.more v)
    stem_in = word-append (t.base ^ kept t) up (copies r.more v) up_in (word-copies (t.base ^ kept t) r.more v v_in)

    sign : ℕ
    sign = with_digit 2 (kept t) track s r.bit

    whole : List ℕ
    whole = woven t.base (kept t) track front r.whole

    stem : List ℕ
    stem = woven t.base (kept t) track (up ++ copies r.more v) r.stem

    cycle : List ℕ
    cycle = woven t.base (kept t) track (copies (suc r.less) v) r.cycle

    m : ℕ
    m = t.base ^ (kept t + 1)

    same : lasso_of (clamp (2 ^ (kept t + 1)) sign) (map (clamp m) whole) (map (clamp m) stem) (map (clamp m) cycle) ≡ lasso_of sign whole stem cycle
    same = same_lasso _ _ _ _ _ _ _ _
        (clamp_small (2 ^ (kept t + 1)) sign (with_digit_below 2 (kept t) track s r.bit (omega arith) sb (within t track lt) r.bit_below))
        (map-clamp_small m whole (woven_in t track h lt front r.whole front_in (digits_in r.whole r.whole_in)))
        (map-clamp_small m stem (woven_in t track h lt (up ++ copies r.more v) r.stem stem_in (digits_in r.stem r.stem_in)))
        (map-clamp_small m cycle (woven_in t track h lt (copies (suc r.less) v) r.cycle (word-copies (t.base ^ kept t) (suc r.less) v v_in)
        (digits_in r.cycle r.cycle_in)))
