-- The rows of the doubled graph, written letter by letter, and where its walks lead.
use Rattle.std.proofs.Common.{◌≡◌, ℕ, ◌+◌, ◌*◌, ◌/◌, ◌<◌, ◌≤◌, Bool, true, false, List, [], ◌∷◌, ◌++◌, length, slice_index, nat_eq, nat_lt, if◌then◌else◌, length-append, arith, inl, inr, refl, sym, ap, ◌∙◌, subst, add-mul}
use Rattle.std.specs.List.{AllByRecursion}
use Rattle.std.proofs.lemmas.Bool.{cases_lt}
use Rattle.std.proofs.lemmas.Nat.{div-mul-add}
use Rattle.std.proofs.lemmas.List.Elements.{All-push, All-nil}
use Rattle.graph_laws.specs.Walks.{go}
use Rattle.canonical_laws.proofs.Diagrams.{read_below, place_within}
use Rattle.lash_model.specs.Tables.{Table, letters, fracs, IsTable}
use Rattle.lash_model.specs.Acceptance.{is_clear}
use Rattle.step_tables.proofs.Placing.{pushed_left, pushed_last}
use Rattle.weak_forms.specs.Doubling.{next_state, doubled, AreWritten, AreDoubled}

-- ---- rows, written letter by letter
pub none_written : (f : ℕ → ℕ → ℕ) (width bound : ℕ) → AreWritten f width bound 0 0 []
none_written f width bound = record {
  count = omega arith;
  each = λ q l l_in lt. absurd (omega (arith, lt));
  inside = All-nil _;
}

pub written_more : (f : ℕ → ℕ → ℕ) (width bound at letter : ℕ) (rows : List ℕ) (v : ℕ) → letter < width → v ≡ f at letter → v < bound
    → AreWritten f width bound at letter rows → AreWritten f width bound at (letter + 1) (rows ++ v ∷ [])
written_more f width bound at letter rows v letter_in is below h = record {
  count = length-append rows (v ∷ []) ∙ omega (arith, h.count);
  each = λ q l l_in lt. elim (cases_lt (q * width + l) (length rows)) [
    | inl old ↦ pushed_left rows (rows ++ v ∷ []) v (q * width + l) refl old ∙ h.each q l l_in old
    | inr new ↦ last q l l_in (omega (arith, new, lt, length-append rows (v ∷ [])))
  ];
  inside = All-push (λ q. q < bound) rows v h.inside below;
}
  where
    last : (q l : ℕ) → l < width → q * width + l ≡ length rows → slice_index (rows ++ v ∷ []) (q * width + l) ≡ f q l
    last q l l_in e =
        let same : q ≡ at = sym (div-mul-add q width l l_in) ∙ ap (λ n. n / width) (e ∙ h.count) ∙ div-mul-add at width letter letter_in in
        let same_letter : l ≡ letter = omega (arith, e, h.count, ap (λ n. n * width) same) in
        pushed_last rows (rows ++ v ∷ []) v (q * width + l) refl e ∙ is ∙ ap (λ n. f n letter) (sym same) ∙ ap (f q) (sym same_letter)

pub row_written : (f : ℕ → ℕ → ℕ) (width bound at : ℕ) (rows : List ℕ) → AreWritten f width bound at width rows → AreWritten f width bound (at + 1) 0 rows
row_written f width bound at rows h = record { count = h.count ∙ omega (arith, add-mul at 1 width); each = h.each; inside = h.inside }

-- ---- few states
pub few_fracs : (t : Table) → IsTable t → fracs t ≤ 16777216
few_fracs t h = grind (arith, h.shape.few_cells)

-- ---- walks
target_is : (t : Table) (rows : List ℕ) (q l : ℕ) → AreDoubled t (2 * fracs t) 0 rows → q < 2 * fracs t → l < letters t
    → slice_index rows (q * letters t + l) ≡ doubled t q l
target_is t rows q l h q_in l_in = h.each q l l_in
    (subst (λ n. q * letters t + l < n) (sym (h.count ∙ omega arith)) (place_within q (2 * fracs t) (letters t) l q_in l_in))

next_in : (t : Table) → IsTable t → (q l : ℕ) → q < fracs t → l < letters t → next_state t q l < fracs t
next_in t h q l q_in l_in = read_below t.frac_rows (fracs t) (q * letters t + l) h.frac_rows_in
    (subst (λ n. q * letters t + l < n) (sym h.frac_rows_count) (place_within q (fracs t) (letters t) l q_in l_in))

doubled_first : (t : Table) (q l : ℕ) → q < fracs t
    → doubled t q l ≡ (if nat_eq (slice_index t.colours (next_state t q l)) 1 then next_state t q l else next_state t q l + fracs t)
doubled_first t q l lt = rw (is_low) refl
  where
    is_low : nat_lt q (fracs t) ≡ true
    is_low = grind arith

doubled_second : (t : Table) (q l : ℕ) → doubled t (q + fracs t) l ≡ next_state t q l + fracs t
doubled_second t q l = rw (is_high) (ap (λ n. next_state t n l + fracs t) (omega arith))
  where
    is_high : nat_lt (q + fracs t) (fracs t) ≡ false
    is_high = grind arith

-- from a second copy
pub go_second : (t : Table) → IsTable t → (rows : List ℕ) → AreDoubled t (2 * fracs t) 0 rows → (q : ℕ) (w : List ℕ) → q < fracs t
    → AllByRecursion (λ l. l < letters t) w → go rows (letters t) (q + fracs t) w ≡ go t.frac_rows (letters t) q w + fracs t
go_second t h rows d q [] q_in w_in = refl
go_second t h rows d q (l ∷ w) q_in w_in =
    ap (λ s. go rows (letters t) s w) (target_is t rows (q + fracs t) l d (omega (arith, q_in)) w_in.0 ∙ doubled_second t q l)
    ∙ go_second t h rows d (next_state t q l) w (next_in t h q l q_in w_in.0) w_in.1

-- a state of colour no is not clear
pub not_clear : (t : Table) (q : ℕ) (w : List ℕ) → nat_eq (slice_index t.colours q) 1 ≡ false → is_clear t q w ≡ false
not_clear t q [] e = e
not_clear t q (l ∷ w) e = rw e refl

pub clear_first : (t : Table) (q : ℕ) (w : List ℕ) → is_clear t q w ≡ true → nat_eq (slice_index t.colours q) 1 ≡ true
clear_first t q w e = by (nat_eq (slice_index t.colours q) 1) refl
  where
    by : (b : Bool) → nat_eq (slice_index t.colours q) 1 ≡ b → nat_eq (slice_index t.colours q) 1 ≡ true
    by true f = f
    by false f = absurd (cc_false (sym (not_clear t q w f) ∙ e))
      where
        cc_false : false ≡ true → ⊥
        cc_false k = cc

-- where a first copy leads: to a first copy if no mark is met, and else to a second one
pub go_first : (t : Table) → IsTable t → (rows : List ℕ) → AreDoubled t (2 * fracs t) 0 rows → (q : ℕ) (w : List ℕ) → q < fracs t
    → nat_eq (slice_index t.colours q) 1 ≡ true → AllByRecursion (λ l. l < letters t) w
    → go rows (letters t) q w ≡ (if is_clear t q w then go t.frac_rows (letters t) q w else go t.frac_rows (letters t) q w + fracs t)
go_first t h rows d q [] q_in unmarked w_in = rw unmarked refl
go_first t h rows d q (l ∷ w) q_in unmarked w_in = rw unmarked (by (nat_eq (slice_index t.colours s) 1) refl (λ f. go_first t h rows d s w s_in f w_in.1))
  where
    s : ℕ
    s = next_state t q l

    s_in : s < fracs t
    s_in = next_in t h q l q_in w_in.0

    step : slice_index rows (q * letters t + l) ≡ (if nat_eq (slice_index t.colours s) 1 then s else s + fracs t)
    step = target_is t rows q l d (omega (arith, q_in)) w_in.0 ∙ doubled_first t q l q_in

    by : (b : Bool) → nat_eq (slice_index t.colours s) 1 ≡ b
        → (nat_eq (slice_index t.colours s) 1 ≡ true → go rows (letters t) s w ≡ (if is_clear t s w then go t.frac_rows (letters t) s w else go t.frac_rows (letters t) s w + fracs t))
        → go rows (letters t) (slice_index rows (q * letters t + l)) w
        ≡ (if is_clear t s w then go t.frac_rows (letters t) s w else go t.frac_rows (letters t) s w + fracs t)
    by true f rec = ap (λ n. go rows (letters t) n w) (step ∙ ap (λ b. if b then s else s + fracs t) f) ∙ rec f
    by false f rec = ap (λ n. go rows (letters t) n w) (step ∙ ap (λ b. if b then s else s + fracs t) f)
        ∙ go_second t h rows d s w s_in w_in.1
        ∙ ap (λ b. if b then go t.frac_rows (letters t) s w else go t.frac_rows (letters t) s w + fracs t) (sym (not_clear t s w f))
