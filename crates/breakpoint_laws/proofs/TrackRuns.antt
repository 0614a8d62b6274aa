-- A table over letters in parts, where letters out of range act as the last one: its roots, its lassos, and its set.
use Rattle.std.proofs.Common.{◌≡◌, ℕ, ◌+◌, ◌-◌, ◌*◌, ◌^◌, ◌<◌, ◌≤◌, true, List, [], ◌∷◌, ◌++◌, length, map, arith, refl, ◌∙◌, sym, ap, ap₂, subst}
use Rattle.std.specs.Prelude.{slice_index, All, nat_eq}
use Rattle.std.specs.List.{AllByRecursion}
use Rattle.std.proofs.Math.IntN.{ℤ}
use Rattle.std.proofs.lemmas.List.{length-map}
use Rattle.std.proofs.lemmas.List.Elements.{recursion_from_All, All-from_recursion}
use Rattle.graph_laws.specs.Walks.{go, copies}
use Rattle.lash_model.specs.Letters.{digit, sign_letter}
use Rattle.lash_model.specs.Lassos.{IsLasso, denominator, numerators}
use Rattle.lash_model.specs.Tables.{Table, letters, fracs, IsTable}
use Rattle.lash_model.specs.Acceptance.{frac_state}
use Rattle.lash_model.specs.Standing.{StandsForMixed}
use Rattle.lash_model.proofs.Digits.{power_positive}
use Rattle.lasso_laws.proofs.Letters.{digit_below}
use Rattle.lasso_laws.proofs.Moving.{den}
use Rattle.subset_build.specs.Projection.{with_digit, kept, root_over, IsSignReached}
use Rattle.subset_build.proofs.KeptLetters.{with_digit_below, sign_letter_below}
use Rattle.subset_build.proofs.Closings.{one_track_more, root_reached}
use Rattle.breakpoint_laws.proofs.Graphs.{walk, accept, renamed}
use Rattle.breakpoint_laws.proofs.Projections.{OverWhole, Stands, full}
use Rattle.breakpoint_laws.proofs.KeptParts.{kept_part, with_digit-kept, clamp, clamp_small, clamp_below}
use Rattle.breakpoint_laws.proofs.TrackSettings.{setting, lasso_of, clamped_lasso, full_is, two_positive}
use Rattle.breakpoint_laws.proofs.TableGraphs.{yes_is, frac_graph, int_graph, accept_is, walk_int, walk_int_clamped, clamped_letters}
use Rattle.breakpoint_laws.proofs.TrackLetters.{within, track_setting, letters_are, base_positive}

-- ---- roots: a sign vector out of range acts as the last one
pub root_of : Table → ℕ → ℕ
root_of t m = slice_index t.roots (clamp (2 ^ (kept t + 1)) m)

-- the letters over a kept letter, by digits
letters_over : (t : Table) (track : ℕ) → IsTable t → track < t.tracks → (k : ℕ) → k < t.base ^ kept t → (ds : List ℕ) → AllByRecursion (λ d. d < t.base) ds
    → AllByRecursion (λ l. l < letters t) (map (with_digit t.base (kept t) track k) ds)
letters_over t track h lt k small [] a = tt
letters_over t track h lt k small (d ∷ ds) a = (
  subst (λ m. with_digit t.base (kept t) track k d < m) (sym (letters_are t track lt))
      (with_digit_below t.base (kept t) track k d (base_positive t h) small (within t track lt) a.0),
  letters_over t track h lt k small ds a.1,
)

kept_over : (t : Table) (track : ℕ) (h : IsTable t) (lt : track < t.tracks) (k : ℕ) → k < t.base ^ kept t → (ds : List ℕ)
    → AllByRecursion (λ d. d < t.base) ds
    → renamed (track_setting t track h lt).keep (map (with_digit t.base (kept t) track k) ds) ≡ copies (length ds) (k ∷ []) ++ []
unfolding renamed track_setting setting
kept_over t track h lt k small [] a = refl
kept_over t track h lt k small (d ∷ ds) a = ap₂ (λ x xs. x ∷ xs) ((track_setting t track h lt).join_keep k d small a.0)
    (kept_over t track h lt k small ds a.1)

root_joined : (t : Table) (track s b : ℕ) → track < t.tracks → s < 2 ^ kept t → b < 2 → root_of t (with_digit 2 (kept t) track s b) ≡ root_over t track s b
unfolding root_of
root_joined t track s b lt small below =
    ap (slice_index t.roots) (clamp_small (2 ^ (kept t + 1)) (with_digit 2 (kept t) track s b)
    (with_digit_below 2 (kept t) track s b (omega arith) small (within t track lt) below))

pub sign_over : (t : Table) (track : ℕ) (h : IsTable t) (lt : track < t.tracks) (s : ℕ) → s < 2 ^ kept t → (q : ℕ) → IsSignReached t track s q
    → OverWhole (track_setting t track h lt) (λ m w. walk (int_graph t h) (root_of t m) w) s [] q
unfolding track_setting setting
sign_over t track h lt s sb q r = record {
  sign = with_digit 2 (kept t) track s r.bit;
  word = map (with_digit t.base (kept t) track letter) r.word;
  more = length r.word;
  kept_sign = (track_setting t track h lt).sign_join_keep s r.bit sb r.bit_below;
  kept_word = kept_over t track h lt letter small r.word digits_in ∙ ap (λ k. copies (length r.word) (k ∷ []) ++ []) (sym letter_is);
  leads = walk_int t h (root_of t (with_digit 2 (kept t) track s r.bit)) (map (with_digit t.base (kept t) track letter) r.word)
      (letters_over t track h lt letter small r.word digits_in)
      ∙ ap (λ x. go t.rows (letters t) x (map (with_digit t.base (kept t) track letter) r.word)) (root_joined t track s r.bit lt sb r.bit_below)
      ∙ sym r.leads;
}
  where
    letter : ℕ
    letter = sign_letter t.base (kept t) s

    small : letter < t.base ^ kept t
    small = sign_letter_below t.base (kept t) s h.shape.base_low sb

    letter_is : sign_letter t.base (kept t) (clamp (2 ^ kept t) s) ≡ letter
    letter_is = ap (sign_letter t.base (kept t)) (clamp_small (2 ^ kept t) s sb)

    digits_in : AllByRecursion (λ d. d < t.base) r.word
    digits_in = recursion_from_All (λ d. d < t.base) r.word r.digits_in

pub root_begins : (t : Table) (track : ℕ) (h : IsTable t) (lt : track < t.tracks) (s m : ℕ) → kept_part 2 (kept t) track (clamp (2 ^ (kept t + 1)) m) ≡ s
    → IsSignReached t track s (root_of t m)
unfolding root_of
root_begins t track h lt s m e =
    root_reached t track s bit (root_of t m)
    (digit_below 2 (kept t + 1) track (clamp (2 ^ (kept t + 1)) m) (omega arith) (omega (arith, lt)) in_signs)
    (ap (slice_index t.roots) (sym (with_digit-kept 2 (kept t) track (clamp (2 ^ (kept t + 1)) m) (omega arith) (within t track lt) in_signs)
    ∙ ap (λ k. with_digit 2 (kept t) track k bit) e))
  where
    bit : ℕ
    bit = digit 2 (kept t + 1) track (clamp (2 ^ (kept t + 1)) m)

    in_signs : clamp (2 ^ (kept t + 1)) m < 2 ^ (kept t + 1)
    in_signs = clamp_below (2 ^ (kept t + 1)) m (two_positive (kept t + 1))

-- ---- the table of all tracks stands for the set, over any letters
pub is_yes : (c : ℕ) → c ≡ 1 → nat_eq c 1 ≡ true
is_yes c h = grind arith

unfoldable pub entered : (t : Table) → IsTable t → ℕ → List ℕ → ℕ
entered t h s w = slice_index t.outs (walk (int_graph t h) (root_of t s) w)

pub accepted_is : (t : Table) (track : ℕ) (h : IsTable t) → track < t.tracks → (s : ℕ) (w u v : List ℕ)
    → accept (frac_graph t h) (entered t h s w) u v ≡ slice_index t.colours (frac_state t (clamped_lasso t.base (kept t) s w u v))
unfolding entered clamped_lasso root_of
accepted_is t track h lt s w u v =
    accept_is t h (slice_index t.outs (walk (int_graph t h) (root_of t s) w)) u v
    ∙ ap (λ q. slice_index t.colours
    (go t.frac_rows (letters t) (slice_index t.outs q) (map (clamp (letters t)) u ++ copies (fracs t) (map (clamp (letters t)) v))))
    (walk_int_clamped t h (root_of t s) w)
    ∙ ap (λ m. slice_index t.colours
    (go t.frac_rows (letters t) (slice_index t.outs (go t.rows (letters t) (root_of t s) (map (clamp m) w)))
    (map (clamp m) u ++ copies (fracs t) (map (clamp m) v)))) (letters_are t track lt)

clamped_in : (m : ℕ) (w : List ℕ) → 0 < m → All (λ l. l < m) (map (clamp m) w)
clamped_in m w h = All-from_recursion (λ l. l < m) (map (clamp m) w) (clamped_letters m w h)

lasso_in : (t : Table) (track : ℕ) (h : IsTable t) → track < t.tracks → (s : ℕ) (w u v : List ℕ) → 1 ≤ length v
    → IsLasso t.base t.tracks (clamped_lasso t.base (kept t) s w u v)
unfolding clamped_lasso
lasso_in t track h lt s w u v some =
    subst (λ m. IsLasso t.base m (lasso_of (clamp (2 ^ (kept t + 1)) s) (map (clamp (t.base ^ (kept t + 1))) w) (map (clamp (t.base ^ (kept t + 1))) u)
    (map (clamp (t.base ^ (kept t + 1))) v))) (one_track_more t track lt) (record {
      sign = clamp_below (2 ^ (kept t + 1)) s (two_positive (kept t + 1));
      whole = clamped_in (t.base ^ (kept t + 1)) w positive;
      stem = clamped_in (t.base ^ (kept t + 1)) u positive;
      cycle = clamped_in (t.base ^ (kept t + 1)) v positive;
      turns = subst (λ m. 0 < m) (sym (length-map v (clamp (t.base ^ (kept t + 1))))) some;
    })
  where
    positive : 0 < t.base ^ (kept t + 1)
    positive = power_positive t.base (kept t + 1) (base_positive t h)

clamped_den : (r n s : ℕ) (w u v : List ℕ) → denominator r (clamped_lasso r n s w u v) ≡ den r (length u) (length v)
unfolding clamped_lasso denominator den
clamped_den r n s w u v = ap₂ (λ a b. r ^ a * (r ^ b - 1)) (length-map u (clamp (r ^ (n + 1)))) (length-map v (clamp (r ^ (n + 1))))

point_is : (t : Table) (track : ℕ) (h : IsTable t) (lt : track < t.tracks) (P : List ℤ → ℕ → Type 0) (s : ℕ) (w up v : List ℕ)
    → (P (numerators t.base t.tracks (clamped_lasso t.base (kept t) s w up v)) (denominator t.base (clamped_lasso t.base (kept t) s w up v))
    → P (full (track_setting t track h lt) s w up v) (den t.base (length up) (length v)))
    × (P (full (track_setting t track h lt) s w up v) (den t.base (length up) (length v))
    → P (numerators t.base t.tracks (clamped_lasso t.base (kept t) s w up v)) (denominator t.base (clamped_lasso t.base (kept t) s w up v)))
unfolding track_setting
point_is t track h lt P s w up v = (
  λ p. subst (λ ys. P ys (den t.base (length up) (length v))) (sym vectors)
      (subst (P (numerators t.base t.tracks (clamped_lasso t.base (kept t) s w up v))) dens p),
  λ p. subst
      (P (numerators t.base t.tracks (clamped_lasso t.base (kept t) s w up v))) (sym dens) (subst (λ ys. P ys (den t.base (length up) (length v))) vectors p),
)
  where
    vectors : full (setting t.base (kept t) track h.shape.base_low (within t track lt)) s w up v ≡ numerators t.base t.tracks
        (clamped_lasso t.base (kept t) s w up v)
    vectors = full_is t.base (kept t) track h.shape.base_low (within t track lt) s w up v
        ∙ ap (λ m. numerators t.base m (clamped_lasso t.base (kept t) s w up v)) (one_track_more t track lt)

    dens : denominator t.base (clamped_lasso t.base (kept t) s w up v) ≡ den t.base (length up) (length v)
    dens = clamped_den t.base (kept t) s w up v

pub table_stands : (t : Table) (track : ℕ) (h : IsTable t) (lt : track < t.tracks) (P : List ℤ → ℕ → Type 0) → StandsForMixed t P
    → Stands (track_setting t track h lt) (frac_graph t h) (entered t h) P
unfolding track_setting
table_stands t track h lt P stands = record {
  sound = λ s w up v some a. (point_is t track h lt P s w up v).0
      ((stands.each (clamped_lasso t.base (kept t) s w up v) (lasso_in t track h lt s w up v some)).0
      (is_yes (slice_index t.colours (frac_state t (clamped_lasso t.base (kept t) s w up v))) (sym (accepted_is t track h lt s w up v) ∙ a)));
  complete = λ s w up v some p. accepted_is t track h lt s w up v
      ∙ yes_is (slice_index t.colours (frac_state t (clamped_lasso t.base (kept t) s w up v)))
      ((stands.each (clamped_lasso t.base (kept t) s w up v) (lasso_in t track h lt s w up v some)).1
      ((point_is t track h lt P s w up v).1 p));
}
