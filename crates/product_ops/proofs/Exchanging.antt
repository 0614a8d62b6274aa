-- Exchanging outputs, one by one, and what the exchanged diagram accepts.
use Rattle.std.proofs.Common.{◌≡◌, ℕ, zero, suc, ◌+◌, ◌-◌, ◌*◌, ◌≤◌, ◌<◌, ◌↔◌, Bool, true, false, not, IsTrue, List, [], ◌∷◌, length, arith, refl, ◌∙◌, sym, ap, subst, add-one}
use Rattle.std.specs.Prelude.{slice_set, slice_index, nat_eq, if◌then◌else◌}
use Rattle.std.specs.List.{AllByRecursion}
use Rattle.std.proofs.Math.IntN.{ℤ}
use Rattle.std.proofs.lemmas.List.{get_or-map, length-map}
use Rattle.std.proofs.lemmas.List.Elements.{recursion_from_All}
use Rattle.graph_laws.specs.Walks.{go}
use Rattle.canonical_laws.specs.Canonical.{IsNumbered, IsCanonical}
use Rattle.canonical_laws.proofs.Diagrams.{read_below, place_within, out_below}
use Rattle.lash_model.specs.Words.{values}
use Rattle.lash_model.specs.Lassos.{numerators, denominator}
use Rattle.lash_model.specs.Tables.{Table, letters, ints, IsTable, IsDiagram}
use Rattle.lash_model.specs.Acceptance.{int_state, accepts_word, accepts_lasso}
use Rattle.lash_model.specs.Standing.{StandsForWhole, StandsForMixed}
use Rattle.part_laws.specs.Opposites.{opposite}
use Rattle.part_laws.proofs.Opposites.{opposite_accepts}
use Rattle.step_tables.specs.Kept.{Kept}
use Rattle.product_ops.specs.Negation.{exchanged, exchanged_upto, negated, AcceptsOthers}

next_exchanged : (outs : List ℕ) (n to : ℕ) → n < length outs → to ≡ 1 - slice_index outs n → slice_set (exchanged_upto n outs) n to ≡ exchanged_upto (suc n) outs
next_exchanged [] n to lt is = absurd (omega (arith, lt))
next_exchanged (x ∷ xs) zero to lt is = ap (λ y. y ∷ xs) is
next_exchanged (x ∷ xs) (suc n) to lt is = ap (λ ys. (1 - x) ∷ ys) (next_exchanged xs n to (omega (arith, lt)) is)

-- one output more
pub one_exchanged : (outs : List ℕ) (n to : ℕ) → n < length outs → to ≡ 1 - slice_index outs n → slice_set (exchanged_upto n outs) n to ≡ exchanged_upto (n + 1) outs
one_exchanged outs n to lt is = next_exchanged outs n to lt is ∙ ap (λ k. exchanged_upto k outs) (sym (add-one n))

-- the others are as they were
pub yet_to_come : (outs : List ℕ) (n : ℕ) → n < length outs → slice_index (exchanged_upto n outs) n ≡ slice_index outs n
yet_to_come [] n lt = absurd (omega (arith, lt))
yet_to_come (x ∷ xs) zero lt = refl
yet_to_come (x ∷ xs) (suc n) lt = yet_to_come xs n (omega (arith, lt))

pub length_upto : (outs : List ℕ) (n : ℕ) → n ≤ length outs → length (exchanged_upto n outs) ≡ length outs
length_upto outs zero lt = refl
length_upto [] (suc n) lt = absurd (omega (arith, lt))
length_upto (x ∷ xs) (suc n) lt = ap suc (length_upto xs n (omega (arith, lt)))

pub all_exchanged : (outs : List ℕ) → exchanged_upto (length outs) outs ≡ exchanged outs
all_exchanged [] = refl
all_exchanged (x ∷ xs) = ap (λ ys. (1 - x) ∷ ys) (all_exchanged xs)

-- the outputs of a kept table
pub one_changed : (before k : Kept) (n to : ℕ) → k ≡ record before { table = record before.table { outs = exchanged_upto n before.table.outs } } → n < length before.table.outs → to ≡ 1 - slice_index k.table.outs n → record k { table = record k.table { outs = slice_set k.table.outs n to } } ≡ record before { table = record before.table { outs = exchanged_upto (n + 1) before.table.outs } }
one_changed before k n to e lt is =
    ap (λ (v : Kept). record v { table = record v.table { outs = slice_set v.table.outs n to } }) e
    ∙ ap (λ (os : List ℕ). record before { table = record before.table { outs = os } }) (one_exchanged before.table.outs n to lt (is ∙ ap (λ (v : Kept). 1 - slice_index v.table.outs n) e ∙ ap (λ x. 1 - x) (yet_to_come before.table.outs n lt)))

pub all_kept : (before k : Kept) (n : ℕ) → k ≡ record before { table = record before.table { outs = exchanged_upto n before.table.outs } } → n ≡ length before.table.outs → k ≡ record before { table = negated before.table }
all_kept before k n e is = e ∙ ap (λ (os : List ℕ). record before { table = record before.table { outs = os } }) (ap (λ i. exchanged_upto i before.table.outs) is ∙ all_exchanged before.table.outs)

-- the colours of a kept table
other_colour : (c : ℕ) (answer : Bool) → c < 2 → answer ≡ nat_eq c 1 → (if not answer then 1 else 0) ≡ 1 - c
other_colour zero answer lt e = ap (λ b. if not b then 1 else 0) e
other_colour (suc zero) answer lt e = ap (λ b. if not b then 1 else 0) e
other_colour (suc (suc n)) answer lt e = absurd (omega (arith, lt))

pub one_recoloured : (before k : Kept) (n : ℕ) (answer : Bool) → k ≡ record before { table = record before.table { colours = exchanged_upto n before.table.colours } } → n < length before.table.colours → IsTable before.table → answer ≡ nat_eq (slice_index k.table.colours n) 1 → record k { table = record k.table { colours = slice_set k.table.colours n (if not answer then 1 else 0) } } ≡ record before { table = record before.table { colours = exchanged_upto (n + 1) before.table.colours } }
one_recoloured before k n answer e lt h is =
    ap (λ (v : Kept). record v { table = record v.table { colours = slice_set v.table.colours n (if not answer then 1 else 0) } }) e
    ∙ ap (λ (cs : List ℕ). record before { table = record before.table { colours = cs } }) (one_exchanged before.table.colours n (if not answer then 1 else 0) lt
    (other_colour (slice_index before.table.colours n) answer (read_below before.table.colours 2 n h.colours_in lt)
    (is ∙ ap (λ (v : Kept). nat_eq (slice_index v.table.colours n) 1) e ∙ ap (λ x. nat_eq x 1) (yet_to_come before.table.colours n lt))))

pub all_recoloured : (before k : Kept) (n : ℕ) → k ≡ record before { table = record before.table { colours = exchanged_upto n before.table.colours } } → n ≡ length before.table.colours → k ≡ record before { table = opposite before.table }
all_recoloured before k n e is = e ∙ ap (λ (cs : List ℕ). record before { table = record before.table { colours = cs } }) (ap (λ i. exchanged_upto i before.table.colours) is ∙ all_exchanged before.table.colours)

-- ---- what is accepted
go_in : (t : Table) → IsTable t → (q : ℕ) (w : List ℕ) → q < ints t → AllByRecursion (λ l. l < letters t) w → go t.rows (letters t) q w < ints t
go_in t h q [] lt a = lt
go_in t h q (l ∷ w) lt a = go_in t h (slice_index t.rows (q * letters t + l)) w (read_below t.rows (ints t) (q * letters t + l) h.rows_in (subst (λ n. q * letters t + l < n) (sym h.rows_count) (place_within q (ints t) (letters t) l lt a.0))) a.1

other_answer : (out : ℕ) → out < 2 → nat_eq (1 - out) 1 ≡ not (nat_eq out 1)
other_answer zero lt = refl
other_answer (suc zero) lt = refl
other_answer (suc (suc n)) lt = absurd (omega (arith, lt))

pub accepts_others : (t : Table) → IsTable t → IsDiagram t → AcceptsOthers t (negated t)
accepts_others t h d sign w lt a = ap (λ o. nat_eq o 1) (get_or-map (λ out. 1 - out) t.outs (int_state t sign w) 0 0 inside) ∙ other_answer (slice_index t.outs (int_state t sign w)) (out_below t h d (int_state t sign w) inside)
  where
    inside : int_state t sign w < ints t
    inside = go_in t h (slice_index t.roots sign) w (read_below t.roots (ints t) sign h.roots_in (subst (λ n. sign < n) (sym h.roots_count) lt)) (recursion_from_All (λ l. l < letters t) w a)

parted : false ≡ true → ⊥
parted e = cc

negates : (x : Bool) (A : Type 0) → IsTrue x ↔ A → IsTrue (not x) ↔ (A → ⊥)
negates true A h = (λ e. absurd (parted e), λ no_member. absurd (no_member (h.0 refl)))
negates false A h = (λ _ a. parted (h.1 a), λ _. refl)

pub others_stand : (t : Table) → IsTable t → (P : List ℤ → ℕ → Type 0) → StandsForWhole t P → StandsForWhole (negated t) (λ ns d. P ns d → ⊥)
others_stand t h P s = record {
  diagram = s.diagram;
  each = λ sign w lt a. subst (λ x. IsTrue x ↔ (P (values t.base t.tracks sign w) 1 → ⊥)) (sym (accepts_others t h s.diagram sign w lt a)) (negates (accepts_word t sign w) (P (values t.base t.tracks sign w) 1) (s.each sign w lt a));
}

-- with exchanged colours a table stands for all that is not in its set, whichever set that is
pub others_stand_mixed : (t : Table) → IsTable t → (P : List ℤ → ℕ → Type 0) → StandsForMixed t P → StandsForMixed (opposite t) (λ ns d. P ns d → ⊥)
others_stand_mixed t h P s = record {
  fractions = subst (λ n. 0 < n) (sym (length-map t.colours (λ c. 1 - c))) s.fractions;
  each = λ x i. subst (λ b. IsTrue b ↔ (P (numerators t.base t.tracks x) (denominator t.base x) → ⊥)) (sym (opposite_accepts t h s.fractions x i))
      (negates (accepts_lasso t x) (P (numerators t.base t.tracks x) (denominator t.base x)) (s.each x i));
}

-- ---- states that part before do so afterwards
same_before : (x y : ℕ) → x < 2 → y < 2 → 1 - x ≡ 1 - y → x ≡ y
same_before x y h k e = omega (arith, h, k, e)

pub negated_canonical : (t : Table) → IsTable (negated t) → IsCanonical t → IsCanonical (negated t)
negated_canonical t h c = record {
  table = h;
  diagram = c.diagram;
  numbered = subst (λ n. IsNumbered t.roots t.rows (letters t) n) (sym as_many) c.numbered;
  separated = λ p q p_in q_in b. c.separated p q (subst (λ n. p < n) as_many p_in) (subst (λ n. q < n) as_many q_in) (λ w a. alike (go t.rows (letters t) p w) (go t.rows (letters t) q w) (go_in t c.table p w (subst (λ n. p < n) as_many p_in) a) (go_in t c.table q w (subst (λ n. q < n) as_many q_in) a) (b w a));
}
  where
    as_many : length (exchanged t.outs) ≡ length t.outs
    as_many = length-map t.outs (λ out. 1 - out)

    alike : (i j : ℕ) → i < ints t → j < ints t → slice_index (exchanged t.outs) i ≡ slice_index (exchanged t.outs) j → slice_index t.outs i ≡ slice_index t.outs j
    alike i j i_in j_in e = same_before (slice_index t.outs i) (slice_index t.outs j) (out_below t c.table c.diagram i i_in) (out_below t c.table c.diagram j j_in)
        (sym (get_or-map (λ out. 1 - out) t.outs i 0 0 i_in) ∙ e ∙ get_or-map (λ out. 1 - out) t.outs j 0 0 j_in)
