-- If no reached part is torn, the weak form of a marked table accepts what it accepts.
use Rattle.std.proofs.Common.{◌≡◌, ℕ, suc, ◌+◌, ◌*◌, ◌-◌, ◌≤◌, ◌^◌, ◌<◌, true, List, ◌++◌, length, arith, refl, ◌∙◌, sym, ap, subst, append_assoc}
use Rattle.std.specs.Prelude.{slice_index, All, ℤ}
use Rattle.std.proofs.lemmas.List.Elements.{All-from_recursion, All-from_get_or}
use mathlib.Core.Logic.{◌⊎◌, inl, inr}
use Rattle.graph_laws.specs.Walks.{go, copies}
use Rattle.graph_laws.proofs.Joining.{go-append}
use Rattle.lash_model.specs.Standing.{StandsForMixed}
use Rattle.lash_model.specs.Tables.{Table, letters, fracs, out_bound, IsShape, IsTable}
use Rattle.lash_model.specs.Acceptance.{int_state, frac_state, accepts_lasso, accepts_marked, is_clear}
use Rattle.part_laws.specs.CanonicalMixed.{fraction_graph}
use Rattle.part_laws.specs.Graphs.{IsWord, IsGraph, AreOnePart, IsWeak}
use Rattle.part_laws.proofs.LassoWords.{AreWords, lasso_words, fraction_is_graph, root_in, out_in, int_walk_in}
use Rattle.part_laws.proofs.Turning.{turns, BackSoon, back_soon, rounds}
use Rattle.part_laws.proofs.Walking.{round, walk-copies, walk_below, word-append, word-copies, some_more, one_part_on}
use Rattle.marked_laws.specs.Weakening.{StandsForMarked, HasMark, IsTorn, recoloured, IsWeakForm, AcceptsAsMarked}
use Rattle.marked_laws.proofs.Marks.{yes_is, is_yes, two_cases, not_both, copies-add, word_front, word_rest, clear_front, clear_by_places}

-- where a lasso enters the fraction part
pub entry_in : (t : Table) → IsTable t → 0 < fracs t → (sign : ℕ) (w : List ℕ) → sign < 2 ^ t.tracks → IsWord (letters t) w
    → slice_index t.outs (int_state t sign w) < fracs t
entry_in t h some sign w lt ls = out_in t h some (int_state t sign w) (int_walk_in t h (slice_index t.roots sign) w (root_in t h sign lt) ls)

-- the weak form, as the table with other colours
form_of : (t u : Table) → IsWeakForm t u → IsWeakForm t (recoloured t u.colours)
form_of t u form = subst (λ v. IsWeakForm t v) form.same form

-- ---- weak
moved_mark : (t : Table) (p q : ℕ) → AreOnePart t.frac_rows (letters t) p q → HasMark t p → HasMark t q
moved_mark t p q one m = record {
  state = m.state;
  inside = m.inside;
  in_part = one_part_on t.frac_rows (letters t) m.state p q m.in_part one;
  marked = m.marked;
}

same_colour : (t : Table) (cs : List ℕ) → IsWeakForm t (recoloured t cs) → (p q : ℕ) → p < fracs t → q < fracs t → AreOnePart t.frac_rows (letters t) p q
    → slice_index cs p ≡ slice_index cs q
same_colour t cs form p q p_in q_in one = by (two_cases (slice_index cs p) (form.two p p_in)) (two_cases (slice_index cs q) (form.two q q_in))
  where
    by : (slice_index cs p ≡ 0) ⊎ (slice_index cs p ≡ 1) → (slice_index cs q ≡ 0) ⊎ (slice_index cs q ≡ 1) → slice_index cs p ≡ slice_index cs q
    by (inl i) k = i ∙ sym (form.marked q q_in (moved_mark t p q one (form.found p p_in i)))
    by (inr i) (inl k) = form.marked p p_in (moved_mark t q p (record { there = one.back; back = one.there }) (form.found q q_in k)) ∙ sym k
    by (inr i) (inr k) = i ∙ sym k

recoloured_weak : (t : Table) (cs : List ℕ) → IsWeakForm t (recoloured t cs) → IsWeak (letters t) (fraction_graph (recoloured t cs))
recoloured_weak t cs form p q p_in q_in p_loops q_loops one = same_colour t cs form p q (inside p p_in) (inside q q_in) one
  where
    inside : (p : ℕ) → p < length cs → p < fracs t
    inside p k = subst (λ m. p < m) form.count k

pub form_is_weak : (t u : Table) → IsWeakForm t u → IsWeak (letters u) (fraction_graph u)
form_is_weak t u form = subst (λ v. IsWeak (letters v) (fraction_graph v)) (sym form.same) (recoloured_weak t u.colours (form_of t u form))

-- ---- a table
recoloured_table : (t : Table) (cs : List ℕ) → IsTable t → IsWeakForm t (recoloured t cs) → IsTable (recoloured t cs)
recoloured_table t cs h form = record {
  shape = subst (λ m. IsShape t.base t.tracks (length t.outs) m) (sym form.count) h.shape;
  roots_count = h.roots_count;
  rows_count = h.rows_count;
  frac_rows_count = h.frac_rows_count ∙ ap (λ m. m * t.base ^ t.tracks) (sym form.count);
  roots_in = h.roots_in;
  rows_in = h.rows_in;
  outs_in = subst (λ m. All (λ q. q < out_bound m) t.outs) (sym form.count) h.outs_in;
  frac_rows_in = subst (λ m. All (λ q. q < m) t.frac_rows) (sym form.count) h.frac_rows_in;
  colours_in = All-from_get_or (λ c. c < 2) cs 0 (λ q q_in. form.two q (subst (λ m. q < m) form.count q_in));
}

pub form_is_table : (t u : Table) → IsTable t → IsWeakForm t u → IsTable u
form_is_table t u h form = subst (λ v. IsTable v) (sym form.same) (recoloured_table t u.colours h (form_of t u form))

-- ---- acceptance
recoloured_accepts : (t : Table) (cs : List ℕ) → IsTable t → 0 < fracs t → IsWeakForm t (recoloured t cs) → (IsTorn t → ⊥)
    → AcceptsAsMarked t (recoloured t cs)
recoloured_accepts t cs h some form whole x lasso = (by_colour, by_marks)
  where
    rows : List ℕ
    rows = t.frac_rows

    width : ℕ
    width = letters t

    n : ℕ
    n = fracs t

    v : List ℕ
    v = x.cycle

    ws : AreWords width x
    ws = lasso_words t.base t.tracks x lasso

    is_graph : IsGraph width (fraction_graph t)
    is_graph = fraction_is_graph t h

    q : ℕ
    q = slice_index t.outs (int_state t x.sign x.whole)

    q_in : q < n
    q_in = entry_in t h some x.sign x.whole lasso.sign ws.whole

    start : ℕ
    start = go rows width q x.stem

    p : ℕ
    p = go rows width q (x.stem ++ copies n v)

    p_stem : IsWord width (x.stem ++ copies n v)
    p_stem = word-append width x.stem (copies n v) ws.stem (word-copies width n v ws.cycle)

    p_in : p < n
    p_in = walk_below width (fraction_graph t) is_graph q (x.stem ++ copies n v) q_in p_stem

    turned : turns (round rows width v) n start ≡ p
    turned = sym (walk-copies rows width n v start) ∙ sym (go-append rows width q x.stem (copies n v))

    back : BackSoon (round rows width v) n p
    back = subst (BackSoon (round rows width v) n) turned
        (back_soon (round rows width v) n (λ y k. walk_below width (fraction_graph t) is_graph y v k ws.cycle) start
        (walk_below width (fraction_graph t) is_graph q x.stem q_in ws.stem))

    seen : frac_state (recoloured t cs) x ≡ p
    seen = ap (λ m. go rows width q (x.stem ++ copies m v)) form.count

    -- the rounds after these iterations lead back
    home : (y z : List ℕ) → copies n v ≡ y ++ z → go rows width (go rows width p y) (z ++ copies (n * back.less) v) ≡ p
    home y z e = sym (go-append rows width p y (z ++ copies (n * back.less) v)) ∙ ap (go rows width p)
        (sym (append_assoc y z (copies (n * back.less) v)) ∙ ap (λ w. w ++ copies (n * back.less) v) (sym e) ∙ sym (copies-add n (n * back.less) v)
        ∙ ap (λ m. copies m v) (count n back.less)) ∙ walk-copies rows width (n * suc back.less) v p
        ∙ rounds (round rows width v) p (record { less = back.less; back = back.back }) n
      where
        count : (m k : ℕ) → m + m * k ≡ m * suc k
        count m k = omega arith

    by_colour : accepts_lasso (recoloured t cs) x ≡ true → accepts_marked t x ≡ true
    by_colour said = clear_by_places t p (copies n v) place
      where
        yes : slice_index cs p ≡ 1
        yes = ap (slice_index cs) (sym seen) ∙ yes_is (slice_index cs (frac_state (recoloured t cs) x)) said

        place : (y z : List ℕ) → copies n v ≡ y ++ z → slice_index t.colours (go rows width p y) ≡ 1
        place y z e = elim (two_cases (slice_index t.colours s) (is_graph.colours_in s s_in)) [ inl m ↦ absurd (clash m) | inr m ↦ m ]
          where
            s : ℕ
            s = go rows width p y

            both : IsWord width (y ++ z)
            both = subst (IsWord width) e (word-copies width n v ws.cycle)

            s_in : s < n
            s_in = walk_below width (fraction_graph t) is_graph p y p_in (word_front width y z both)

            one : AreOnePart rows width s p
            one = record {
              there = record {
                word = z ++ copies (n * back.less) v;
                letters = word-append width z (copies (n * back.less) v) (word_rest width y z both) (word-copies width (n * back.less) v ws.cycle);
                leads = home y z e;
              };
              back = record { word = y; letters = word_front width y z both; leads = refl };
            }

            clash : slice_index t.colours s ≡ 0 → ⊥
            clash m = not_both (slice_index cs p) (form.marked p p_in (record { state = s; inside = s_in; in_part = one; marked = m })) yes

    by_marks : accepts_marked t x ≡ true → accepts_lasso (recoloured t cs) x ≡ true
    by_marks clear = is_yes (slice_index cs (frac_state (recoloured t cs) x)) (ap (slice_index cs) seen ∙ yes)
      where
        around : List ℕ
        around = copies (suc back.less) v

        around_clear : is_clear t p around ≡ true
        around_clear = clear_front t p around (copies (n - suc back.less) v)
            (subst (λ w. is_clear t p w ≡ true) (ap (λ m. copies m v) (parted n (suc back.less) back.bounded)
            ∙ copies-add (suc back.less) (n - suc back.less) v) clear)
          where
            parted : (m k : ℕ) → k ≤ m → m ≡ k + (m - k)
            parted m k h = omega arith

        torn : HasMark t p → IsTorn t
        torn m = record {
          state = p;
          torn = record {
            reached = record {
              sign = x.sign;
              whole = x.whole;
              stem = x.stem ++ copies n v;
              led = record {
                sign_in = lasso.sign;
                whole_in = lasso.whole;
                stem_in = All-from_recursion (λ l. l < letters t) (x.stem ++ copies n v) p_stem;
                leads = refl;
              };
            };
            word = around;
            loop = record {
              letters_in = All-from_recursion (λ l. l < letters t) around (word-copies width (suc back.less) v ws.cycle);
              some = some_more v (copies back.less v) lasso.turns;
              leads = walk-copies rows width (suc back.less) v p ∙ back.back;
              clear = around_clear;
            };
            mark = m.state;
            marked = m.marked;
            there = m.in_part.back;
            back = m.in_part.there;
          };
        }

        yes : slice_index cs p ≡ 1
        yes = elim (two_cases (slice_index cs p) (form.two p p_in)) [ inl e ↦ absurd (whole (torn (form.found p p_in e))) | inr e ↦ e ]

pub form_accepts : (t u : Table) → IsTable t → 0 < fracs t → IsWeakForm t u → (IsTorn t → ⊥) → AcceptsAsMarked t u
form_accepts t u h some form whole = subst (λ v. AcceptsAsMarked t v) (sym form.same) (recoloured_accepts t u.colours h some (form_of t u form) whole)

-- so it stands for the set for which the marked table stands
pub form_stands : (t u : Table) (P : List ℤ → ℕ → Type 0) → IsTable t → IsWeakForm t u → (IsTorn t → ⊥) → StandsForMarked t P → StandsForMixed u P
form_stands t u P h form whole stands = subst (λ v. StandsForMixed v P) (sym form.same) (record {
  fractions = subst (λ m. 0 < m) (sym form.count) stands.fractions;
  each = λ x lasso. let said = recoloured_accepts t u.colours h stands.fractions (form_of t u form) whole x lasso in
      (λ e. (stands.each x lasso).0 (said.0 e), λ p. said.1 ((stands.each x lasso).1 p));
})
