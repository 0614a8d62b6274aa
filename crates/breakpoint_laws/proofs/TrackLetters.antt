-- The letters of a table in parts: the kept part and the digit on the track, and where the states of either part go on a letter.
use Rattle.std.proofs.Common.{◌≡◌, ℕ, ◌+◌, ◌^◌, ◌<◌, ◌≤◌, arith, ◌∙◌, sym, ap, subst}
use Rattle.std.specs.Prelude.{◌*◌, slice_index}
use Rattle.lash_model.specs.Letters.{digit}
use Rattle.lash_model.specs.Tables.{Table, letters, IsTable}
use Rattle.lash_model.proofs.Digits.{power_positive}
use Rattle.lasso_laws.proofs.Letters.{digit_below}
use Rattle.subset_build.specs.Projection.{with_digit, kept, int_transitions, target}
use Rattle.subset_build.proofs.KeptLetters.{with_digit_below}
use Rattle.subset_build.proofs.Closings.{one_track_more}
use Rattle.breakpoint_laws.specs.Breakpoints.{frac_transitions}
use Rattle.breakpoint_laws.proofs.Projections.{Setting}
use Rattle.breakpoint_laws.proofs.KeptParts.{kept_part, kept_part_below, with_digit-kept, clamp, clamp_small, clamp_below}
use Rattle.breakpoint_laws.proofs.TrackSettings.{setting}
use Rattle.breakpoint_laws.proofs.TableGraphs.{frac_graph, int_graph, rows_graph}

pub within : (t : Table) (track : ℕ) → track < t.tracks → track ≤ kept t
within t track lt = omega (arith, lt)

unfoldable pub track_setting : (t : Table) (track : ℕ) → IsTable t → track < t.tracks → Setting
unfolding setting
track_setting t track h lt = setting t.base (kept t) track h.shape.base_low (within t track lt)

-- ---- letters
pub base_positive : (t : Table) → IsTable t → 0 < t.base
base_positive t h = omega (arith, h.shape.base_low)

pub letters_are : (t : Table) (track : ℕ) → track < t.tracks → letters t ≡ t.base ^ (kept t + 1)
letters_are t track lt = ap (λ m. t.base ^ m) (sym (one_track_more t track lt))

-- the kept part of a letter, clamped, and its digit on the track
unfoldable pub keep_of : Table → ℕ → ℕ → ℕ
keep_of t track l = kept_part t.base (kept t) track (clamp (t.base ^ (kept t + 1)) l)

unfoldable pub digit_of : Table → ℕ → ℕ → ℕ
digit_of t track l = digit t.base (kept t + 1) track (clamp (t.base ^ (kept t + 1)) l)

in_range : (t : Table) → IsTable t → (l : ℕ) → clamp (t.base ^ (kept t + 1)) l < t.base ^ (kept t + 1)
in_range t h l = clamp_below (t.base ^ (kept t + 1)) l (power_positive t.base (kept t + 1) (base_positive t h))

pub keep_below : (t : Table) (track : ℕ) → IsTable t → track < t.tracks → (l : ℕ) → keep_of t track l < t.base ^ kept t
unfolding keep_of
keep_below t track h lt l = kept_part_below t.base (kept t) track (clamp (t.base ^ (kept t + 1)) l) (base_positive t h) (within t track lt) (in_range t h l)

pub digit_small : (t : Table) (track : ℕ) → IsTable t → track < t.tracks → (l : ℕ) → digit_of t track l < t.base
unfolding digit_of
digit_small t track h lt l = digit_below t.base (kept t + 1) track (clamp (t.base ^ (kept t + 1)) l) (base_positive t h) (omega (arith, lt)) (in_range t h l)

pub put_together : (t : Table) (track : ℕ) → IsTable t → track < t.tracks → (l : ℕ)
    → clamp (letters t) l ≡ with_digit t.base (kept t) track (keep_of t track l) (digit_of t track l)
unfolding keep_of digit_of
put_together t track h lt l = ap (λ m. clamp m l) (letters_are t track lt)
    ∙ sym (with_digit-kept t.base (kept t) track (clamp (t.base ^ (kept t + 1)) l) (base_positive t h) (within t track lt) (in_range t h l))

pub joined_letter : (t : Table) (track : ℕ) → IsTable t → track < t.tracks → (k d : ℕ) → k < t.base ^ kept t → d < t.base
    → clamp (letters t) (with_digit t.base (kept t) track k d) ≡ with_digit t.base (kept t) track k d
joined_letter t track h lt k d a b =
    clamp_small (letters t) (with_digit t.base (kept t) track k d)
    (subst (λ m. with_digit t.base (kept t) track k d < m) (sym (letters_are t track lt))
    (with_digit_below t.base (kept t) track k d (base_positive t h) a (within t track lt) b))

-- ---- where states go
pub int_target : (t : Table) (track : ℕ) (h : IsTable t) → track < t.tracks → (q l : ℕ)
    → (int_graph t h).step q l ≡ target (int_transitions t) track (keep_of t track l) q (digit_of t track l)
unfolding int_graph rows_graph
int_target t track h lt q l = ap (λ k. slice_index t.rows (q * letters t + k)) (put_together t track h lt l)

pub int_joined : (t : Table) (track : ℕ) (h : IsTable t) → track < t.tracks → (q k d : ℕ) → k < t.base ^ kept t → d < t.base
    → (int_graph t h).step q (with_digit t.base (kept t) track k d) ≡ target (int_transitions t) track k q d
unfolding int_graph rows_graph
int_joined t track h lt q k d a b = ap (λ l. slice_index t.rows (q * letters t + l)) (joined_letter t track h lt k d a b)

pub frac_target : (t : Table) (track : ℕ) (h : IsTable t) → track < t.tracks → (q l : ℕ)
    → (frac_graph t h).step q l ≡ target (frac_transitions t) track (keep_of t track l) q (digit_of t track l)
unfolding frac_graph rows_graph
frac_target t track h lt q l = ap (λ k. slice_index t.frac_rows (q * letters t + k)) (put_together t track h lt l)

pub frac_joined : (t : Table) (track : ℕ) (h : IsTable t) → track < t.tracks → (q k d : ℕ) → k < t.base ^ kept t → d < t.base
    → (frac_graph t h).step q (with_digit t.base (kept t) track k d) ≡ target (frac_transitions t) track k q d
unfolding frac_graph rows_graph
frac_joined t track h lt q k d a b = ap (λ l. slice_index t.frac_rows (q * letters t + l)) (joined_letter t track h lt k d a b)
