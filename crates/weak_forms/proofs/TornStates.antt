-- Loops of the doubled graph are loops that meet no mark, and which states are torn.
use Rattle.std.proofs.Common.{◌≡◌, ℕ, zero, suc, ◌+◌, ◌*◌, ◌<◌, Bool, true, false, List, length, slice_index, slice_set, replicate, nat_eq, if◌then◌else◌, arith, inl, inr, refl, sym, ap, ◌∙◌, subst, true≢false}
use Rattle.std.specs.List.{slice_index_or, AllByRecursion}
use Rattle.std.proofs.lemmas.Bool.{cases_eq, cases_lt}
use Rattle.std.proofs.lemmas.List.{length-set, get_or-set_same, get_or-set_other}
use Rattle.std.proofs.lemmas.List.Elements.{recursion_from_All, All-from_recursion}
use Rattle.graph_laws.specs.Walks.{go}
use Rattle.lash_model.specs.Tables.{Table, letters, fracs, IsTable}
use Rattle.lash_model.specs.Acceptance.{is_clear}
use Rattle.part_laws.specs.Graphs.{AreOnePart, IsLooping}
use Rattle.part_laws.specs.CanonicalMixed.{fraction_graph}
use Rattle.part_laws.proofs.LassoWords.{fraction_is_graph}
use Rattle.part_laws.proofs.Walking.{walk_below}
use Rattle.components.specs.Partings.{Parted, AreParts}
use Rattle.marked_laws.specs.Weakening.{IsClearLoop}
use Rattle.weak_forms.specs.Ways.{IsGoal}
use Rattle.weak_forms.specs.Marking.{IsMarkOf, TellMarks, LiesTorn, TellClear, TellTorn, IsOnlyGoal}
use Rattle.weak_forms.specs.Doubling.{AreDoubled}
use Rattle.weak_forms.proofs.Doubled.{go_first, clear_first}

-- a walk of fraction states stays among them
pub walked_in : (t : Table) → IsTable t → (q : ℕ) (w : List ℕ) → q < fracs t → AllByRecursion (λ l. l < letters t) w
    → go t.frac_rows (letters t) q w < fracs t
walked_in t h q w q_in w_in = walk_below (letters t) (fraction_graph t) (fraction_is_graph t h) q w q_in w_in

-- ---- loops without a mark
-- a walk that leads from a first copy back to a first copy meets no mark
pub record LeadsClear (t : Table) (q : ℕ) (w : List ℕ) (to : ℕ) : Type 0 where
  pub clear : is_clear t q w ≡ true
  pub leads : go t.frac_rows (letters t) q w ≡ to

pub leads_clear : (t : Table) → IsTable t → (rows : List ℕ) → AreDoubled t (2 * fracs t) 0 rows → (q to : ℕ) (w : List ℕ) → q < fracs t → to < fracs t
    → nat_eq (slice_index t.colours q) 1 ≡ true → AllByRecursion (λ l. l < letters t) w → go rows (letters t) q w ≡ to → LeadsClear t q w to
leads_clear t h rows d q to w q_in to_in unmarked w_in e = by (is_clear t q w) refl
  where
    at : go rows (letters t) q w ≡ (if is_clear t q w then go t.frac_rows (letters t) q w else go t.frac_rows (letters t) q w + fracs t)
    at = go_first t h rows d q w q_in unmarked w_in

    by : (b : Bool) → is_clear t q w ≡ b → LeadsClear t q w to
    by true f = record { clear = f; leads = sym (at ∙ ap (λ b. if b then go t.frac_rows (letters t) q w else go t.frac_rows (letters t) q w + fracs t) f) ∙ e }
    by false f = absurd (omega (
      arith,
      to_in,
      e,
      at ∙ ap (λ b. if b then go t.frac_rows (letters t) q w else go t.frac_rows (letters t) q w + fracs t) f,
    ))

-- and one that meets none leads to a first copy
pub clear_leads : (t : Table) → IsTable t → (rows : List ℕ) → AreDoubled t (2 * fracs t) 0 rows → (q : ℕ) (w : List ℕ) → q < fracs t
    → is_clear t q w ≡ true → AllByRecursion (λ l. l < letters t) w → go rows (letters t) q w ≡ go t.frac_rows (letters t) q w
clear_leads t h rows d q w q_in clear w_in = go_first t h rows d q w q_in (clear_first t q w clear) w_in
    ∙ ap (λ b. if b then go t.frac_rows (letters t) q w else go t.frac_rows (letters t) q w + fracs t) clear

pub clear_loop : (t : Table) → IsTable t → (rows : List ℕ) → AreDoubled t (2 * fracs t) 0 rows → (q : ℕ) (w : List ℕ) → q < fracs t
    → nat_eq (slice_index t.colours q) 1 ≡ true → AllByRecursion (λ l. l < letters t) w → 0 < length w → go rows (letters t) q w ≡ q → IsClearLoop t q w
clear_loop t h rows d q w q_in unmarked w_in some e =
    let k = leads_clear t h rows d q q w q_in q_in unmarked w_in e in
    record { letters_in = All-from_recursion (λ l. l < letters t) w w_in; some = some; leads = k.leads; clear = k.clear }

pub tell_clear : (t : Table) → IsTable t → (rows : List ℕ) (p : Parted) → AreDoubled t (2 * fracs t) 0 rows → AreParts rows (letters t) (2 * fracs t) p
    → TellClear t p
tell_clear t h rows p d parts = record {
  long = omega (arith, parts.numbers.count);
  below = λ q lt. parts.below q (omega (arith, lt));
  loops = λ q lt unmarked e. let loop : IsLooping rows (letters t) q = (parts.loops q (omega (arith, lt))).0 e in
      (loop.word, clear_loop t h rows d q loop.word lt unmarked loop.letters loop.some loop.leads);
  none = λ q lt e w loop. true≢false (sym ((parts.loops q (omega (arith, lt))).1 (record {
    word = w;
    some = loop.some;
    letters = recursion_from_All (λ l. l < letters t) w loop.letters_in;
    leads = clear_leads t h rows d q w lt loop.clear (recursion_from_All (λ l. l < letters t) w loop.letters_in) ∙ loop.leads;
  })) ∙ e);
}

-- ---- torn states
pub lies_torn : (t : Table) (p : Parted) (marks : List Bool) (c : Parted) (q : ℕ) → AreParts t.frac_rows (letters t) (fracs t) p
    → TellMarks t p (fracs t) marks → TellClear t c → q < fracs t → nat_eq (slice_index t.colours q) 1 ≡ true
    → slice_index_or c.looping (slice_index c.numbers q) false ≡ true → slice_index_or marks (slice_index p.numbers q) false ≡ true → LiesTorn t q
lies_torn t p marks c q parts m clear lt unmarked loops noted =
    let mark : IsMarkOf t p.numbers (fracs t) (slice_index p.numbers q) = m.has (slice_index p.numbers q) (parts.below q lt) noted in
    let loop = clear.loops q lt unmarked loops in
    let one : AreOnePart t.frac_rows (letters t) q mark.state = parts.numbers.one q mark.state lt mark.low (sym mark.here) in
    record { word = loop.0; loop = loop.1; mark = mark.state; marked = mark.marked; there = one.there; back = one.back }

pub torn_unmarked : (t : Table) (q : ℕ) → LiesTorn t q → nat_eq (slice_index t.colours q) 1 ≡ false → ⊥
torn_unmarked t q h e = true≢false (sym (clear_first t q h.word h.loop.clear) ∙ e)

pub torn_loops : (t : Table) (c : Parted) (q : ℕ) → TellClear t c → q < fracs t → LiesTorn t q
    → slice_index_or c.looping (slice_index c.numbers q) false ≡ false → ⊥
torn_loops t c q clear lt h e = clear.none q lt e h.word h.loop

pub torn_noted : (t : Table) → IsTable t → (p : Parted) (marks : List Bool) (q : ℕ) → AreParts t.frac_rows (letters t) (fracs t) p
    → TellMarks t p (fracs t) marks → q < fracs t → LiesTorn t q → slice_index_or marks (slice_index p.numbers q) false ≡ false → ⊥
torn_noted t i p marks q parts m lt h e =
    let mark_in : h.mark < fracs t = subst (λ s. s < fracs t) h.there.leads (walked_in t i q h.there.word lt h.there.letters) in
    let same : slice_index p.numbers h.mark ≡ slice_index p.numbers q = parts.one h.mark q mark_in lt (record { there = h.back; back = h.there }) in
    true≢false (sym (m.notes h.mark mark_in h.marked) ∙ ap (λ k. slice_index_or marks k false) same ∙ e)

-- ---- goals
pub goals_skip : (t : Table) (at : ℕ) (goals : List Bool) → (LiesTorn t at → ⊥) → TellTorn t at goals → TellTorn t (at + 1) goals
goals_skip t at goals none h = record {
  long = h.long;
  torn = h.torn;
  all = λ q lt torn. elim (cases_lt q at) [
    | inl under ↦ h.all q under torn
    | inr over ↦ absurd (none (subst (LiesTorn t) (omega (arith, over, lt)) torn))
  ];
}

pub goals_more : (t : Table) (at : ℕ) (goals : List Bool) → at < fracs t → LiesTorn t at → TellTorn t at goals → TellTorn t (at + 1) (slice_set goals at true)
goals_more t at goals at_in torn_at h = record {
  long = length-set goals at true ∙ h.long;
  torn = λ q lt e. elim (cases_eq q at) [
    | inl same ↦ subst (LiesTorn t) (sym same) torn_at
    | inr ne ↦ h.torn q lt (sym (get_or-set_other goals at q true false ne) ∙ e)
  ];
  all = λ q lt torn. elim (cases_eq q at) [
    | inl same ↦ ap (λ j. slice_index_or (slice_set goals at true) j false) same ∙ get_or-set_same goals at true false (omega (arith, at_in, h.long))
    | inr ne ↦ get_or-set_other goals at q true false ne ∙ h.all q (omega (arith, lt, ne)) torn
  ];
}

no_goal : (n q : ℕ) → IsGoal (replicate n false) q → ⊥
no_goal zero q e = true≢false (sym e)
no_goal (suc n) zero e = true≢false (sym e)
no_goal (suc n) (suc q) e = no_goal n q e

pub one_goal : (n at : ℕ) (goals : List Bool) → at < n → goals ≡ slice_set (replicate n false) at true → length (replicate n false) ≡ n → IsOnlyGoal n at goals
one_goal n at goals lt is long = subst (IsOnlyGoal n at) (sym is) (record {
  long = length-set (replicate n false) at true ∙ long;
  here = get_or-set_same (replicate n false) at true false (omega (arith, lt, long));
  only = λ q e. elim (cases_eq q at) [
    | inl same ↦ same
    | inr ne ↦ absurd (no_goal n q (sym (get_or-set_other (replicate n false) at q true false ne) ∙ e))
  ];
})
