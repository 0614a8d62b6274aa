-- The text of a diagram is read in one way: two tables of one base, one number of tracks and one variable list that have one text
-- are equal.
use Rattle.std.proofs.Common.{◌≡◌, ℕ, zero, suc, ◌+◌, ◌*◌, ◌%◌, ◌^◌, ◌≤◌, ◌<◌, Bool, true, false, List, [], ◌∷◌, ◌++◌, codes, length, arith, refl, ◌∙◌, sym, ap, subst, append_assoc}
use Rattle.std.specs.Prelude.{slice_index, nat_eq, if◌then◌else◌}
use Rattle.std.specs.Fmt.{decimal}
use Rattle.std.proofs.lemmas.Fmt.{decimal_is_IsNumeral, decimal_by_steps}
use Rattle.std.specs.Str.Parse.{digits_value}
use Rattle.std.proofs.lemmas.List.{append_cancel_left}
use Rattle.std.proofs.lemmas.Bool.{cases_lt}
use mathlib.Core.Logic.{inl, inr}
use Rattle.lash_model.specs.Formulas.{Sort}
use Rattle.lash_model.specs.Tables.{Table, letters, ints, fracs, IsTable, IsDiagram}
use Rattle.automaton_texts.specs.Text.{texts_upto, number_text, answer_text, line, number_line, fracs_line, out_text, targets_text, int_line, frac_line, heading, roots_text, counts, text_of}
use Rattle.canonical_laws.proofs.Diagrams.{same_lists, same_rows, same_table, same_truth, out_below, no_frac_rows, read_below, place_within}

-- each byte is a digit's code, or above it
AreDigitBytes : List ℕ → Type 0
AreDigitBytes [] = Unit {0}
AreDigitBytes (b ∷ bs) = (47 < b) × AreDigitBytes bs

-- the first byte comes before the digits' codes
unfoldable pub Stops : List ℕ → Type 0
Stops [] = ⊥
Stops (b ∷ bs) = b < 48

push_digit : (ds : List ℕ) (b : ℕ) → AreDigitBytes ds → 47 < b → AreDigitBytes (ds ++ b ∷ [])
unfolding AreDigitBytes
push_digit [] b h k = (k, tt)
push_digit (d ∷ ds) b h k = (h.0, push_digit ds b h.1 k)

decimal_bytes : (n : ℕ) → n < 2 ^ 64 → AreDigitBytes (decimal n)
unfolding AreDigitBytes
decimal_bytes n h = decimal_by_steps (λ n ds. AreDigitBytes ds) (λ n lt. (omega arith, tt)) (λ n ds le p. push_digit ds (48 + n % 10) p (omega arith)) n h

-- digits in front of a byte that is none are parted from it in one way
record Parted (p q x y : List ℕ) : Type 0 where
  pub front : p ≡ q
  pub back : x ≡ y

part_digits : (p q x y : List ℕ) → AreDigitBytes p → AreDigitBytes q → Stops x → Stops y → p ++ x ≡ q ++ y → Parted p q x y
unfolding AreDigitBytes Stops
part_digits [] [] x y hp hq sx sy e = record { front = refl; back = e }
part_digits [] (b ∷ q) [] y hp hq sx sy e = absurd sx
part_digits [] (b ∷ q) (a ∷ x) y hp hq sx sy e = absurd (omega (arith, sx, hq.0, same_head e))
  where
    same_head : (a ∷ x) ≡ (b ∷ (q ++ y)) → a ≡ b
    same_head e = cc
part_digits (a ∷ p) [] x [] hp hq sx sy e = absurd sy
part_digits (a ∷ p) [] x (b ∷ y) hp hq sx sy e = absurd (omega (arith, sy, hp.0, same_head e))
  where
    same_head : (a ∷ (p ++ x)) ≡ (b ∷ y) → a ≡ b
    same_head e = cc
part_digits (a ∷ p) (b ∷ q) x y hp hq sx sy e = let r = part_digits p q x y hp.1 hq.1 sx sy (same_tail e) in record { front = ap (λ z. z ∷ p) (same_head e) ∙ ap (λ z. b ∷ z) r.front; back = r.back }
  where
    same_head : (a ∷ (p ++ x)) ≡ (b ∷ (q ++ y)) → a ≡ b
    same_head e = cc

    same_tail : (a ∷ (p ++ x)) ≡ (b ∷ (q ++ y)) → p ++ x ≡ q ++ y
    same_tail e = cc

-- a number behind a space, in front of a byte that is no digit, is read in one way
pub record SameNumber (n m : ℕ) (x y : List ℕ) : Type 0 where
  pub number : n ≡ m
  pub back : x ≡ y

read_decimal : (n m : ℕ) (x y : List ℕ) → n < 2 ^ 64 → m < 2 ^ 64 → Stops x → Stops y → decimal n ++ x ≡ decimal m ++ y → SameNumber n m x y
read_decimal n m x y hn hm sx sy e = let r = part_digits (decimal n) (decimal m) x y (decimal_bytes n hn) (decimal_bytes m hm) sx sy e in
    record { number = sym (decimal_is_IsNumeral n hn).1 ∙ ap (digits_value 10) r.front ∙ (decimal_is_IsNumeral m hm).1; back = r.back }

pub read_number : (n m : ℕ) (x y : List ℕ) → n < 2 ^ 64 → m < 2 ^ 64 → Stops x → Stops y → number_text n ++ x ≡ number_text m ++ y → SameNumber n m x y
read_number n m x y hn hm sx sy e = read_decimal n m x y hn hm sx sy (append_cancel_left (codes " ") (decimal n ++ x) (decimal m ++ y) e)

pub stops_number : (n : ℕ) (x : List ℕ) → Stops (number_text n ++ x)
unfolding Stops
stops_number n x = omega arith

-- so many numbers, each behind a space
pub record SameNumbers (f g : ℕ → ℕ) (count : ℕ) (x y : List ℕ) : Type 0 where
  pub numbers : (i : ℕ) → i < count → f i ≡ g i
  pub back : x ≡ y

pub read_numbers : (f g : ℕ → ℕ) (count : ℕ) (x y : List ℕ) → ((i : ℕ) → i < count → f i < 2 ^ 64) → ((i : ℕ) → i < count → g i < 2 ^ 64) → Stops x → Stops y → texts_upto (λ i. number_text (f i)) count ++ x ≡ texts_upto (λ i. number_text (g i)) count ++ y → SameNumbers f g count x y
read_numbers f g zero x y hf hg sx sy e = record { numbers = λ i h. absurd (omega (arith, h)); back = e }
read_numbers f g (suc count) x y hf hg sx sy e =
    let first = read_numbers f g count (number_text (f count) ++ x) (number_text (g count) ++ y) (λ i h. hf i (omega (arith, h))) (λ i h. hg i (omega (arith, h))) (stops_number (f count) x) (stops_number (g count) y)
    (sym (append_assoc (texts_upto (λ i. number_text (f i)) count) (number_text (f count)) x) ∙ e ∙ append_assoc (texts_upto (λ i. number_text (g i)) count) (number_text (g count)) y) in
    let last = read_number (f count) (g count) x y (hf count (omega arith)) (hg count (omega arith)) sx sy first.back in
    record {
      numbers = λ i h. elim (cases_lt i count) [ inl before ↦ first.numbers i before | inr at_end ↦ subst (λ k. f k ≡ g k) (same i count h at_end) last.number ];
      back = last.back;
    }
  where
    same : (i n : ℕ) → i < suc n → n ≤ i → n ≡ i
    same i n h k = omega (arith, h, k)

-- yes and no
pub record SameAnswer (a b : Bool) (x y : List ℕ) : Type 0 where
  pub answer : a ≡ b
  pub back : x ≡ y

pub read_answer : (a b : Bool) (x y : List ℕ) → answer_text a ++ x ≡ answer_text b ++ y → SameAnswer a b x y
read_answer true true x y e = record { answer = refl; back = append_cancel_left (codes " +") x y e }
read_answer false false x y e = record { answer = refl; back = append_cancel_left (codes " -") x y e }
read_answer true false x y e = absurd (differ e)
  where
    differ : codes " +" ++ x ≡ codes " -" ++ y → ⊥
    differ e = omega (arith, ap (λ l. slice_index l 1) e)
read_answer false true x y e = absurd (differ e)
  where
    differ : codes " -" ++ x ≡ codes " +" ++ y → ⊥
    differ e = omega (arith, ap (λ l. slice_index l 1) e)

-- the line of a state, in front of anything
record SameLine (t u : Table) (q : ℕ) (x y : List ℕ) : Type 0 where
  pub out : nat_eq (slice_index t.outs q) 1 ≡ nat_eq (slice_index u.outs q) 1
  pub targets : (l : ℕ) → l < letters t → slice_index t.rows (q * letters t + l) ≡ slice_index u.rows (q * letters u + l)
  pub back : x ≡ y

-- all targets fit a number of 64 bits
SmallRows : Table → Type 0
SmallRows t = (q l : ℕ) → q < ints t → l < letters t → slice_index t.rows (q * letters t + l) < 2 ^ 64

pub join_line : (a b c x : List ℕ) → (a ++ (b ++ (c ++ codes "\n"))) ++ x ≡ a ++ (b ++ (c ++ (codes "\n" ++ x)))
join_line a b c x = append_assoc a (b ++ (c ++ codes "\n")) x ∙ ap (λ z. a ++ z) (append_assoc b (c ++ codes "\n") x ∙ ap (λ z. b ++ z) (append_assoc c (codes "\n") x))

diagram_out : (t : Table) → IsDiagram t → (q : ℕ) → out_text t (slice_index t.outs q) ≡ answer_text (nat_eq (slice_index t.outs q) 1)
diagram_out t d q = ap (λ (cs : List ℕ). if nat_eq (length cs) 0 then answer_text (nat_eq (slice_index t.outs q) 1) else number_text (slice_index t.outs q)) d

read_line : (t u : Table) → IsDiagram t → IsDiagram u → letters t ≡ letters u → SmallRows t → SmallRows u → (q : ℕ) → q < ints t → q < ints u → (x y : List ℕ) → int_line t q ++ x ≡ int_line u q ++ y → SameLine t u q x y
unfolding SmallRows Stops
read_line t u dt du widths st su q qt qu x y e =
    let tail_t : List ℕ = targets_text t.rows (letters t) q ++ (codes "\n" ++ x) in
    let tail_u : List ℕ = targets_text u.rows (letters u) q ++ (codes "\n" ++ y) in
    let behind : answer_text (nat_eq (slice_index t.outs q) 1) ++ tail_t ≡ answer_text (nat_eq (slice_index u.outs q) 1) ++ tail_u =
    ap (λ o. o ++ tail_t) (sym (diagram_out t dt q))
    ∙ append_cancel_left (decimal q) (out_text t (slice_index t.outs q) ++ tail_t) (out_text u (slice_index u.outs q) ++ tail_u) (sym (join_line (decimal q) (out_text t (slice_index t.outs q)) (targets_text t.rows (letters t) q) x) ∙ e ∙ join_line (decimal q) (out_text u (slice_index u.outs q)) (targets_text u.rows (letters u) q) y)
    ∙ ap (λ o. o ++ tail_u) (diagram_out u du q) in
    let a = read_answer (nat_eq (slice_index t.outs q) 1) (nat_eq (slice_index u.outs q) 1) tail_t tail_u behind in
    let r = read_numbers (λ l. slice_index t.rows (q * letters t + l)) (λ l. slice_index u.rows (q * letters u + l)) (letters t) (codes "\n" ++ x) (codes "\n" ++ y) (λ l h. st q l qt h) (λ l h. su q l qu (subst (λ w. l < w) widths h)) (omega arith) (omega arith)
    (a.back ∙ ap (λ w. texts_upto (λ l. number_text (slice_index u.rows (q * letters u + l))) w ++ (codes "\n" ++ y)) (sym widths)) in
    record { out = a.answer; targets = r.numbers; back = append_cancel_left (codes "\n") x y r.back }

-- the lines of all states
record SameLines (t u : Table) (count : ℕ) (x y : List ℕ) : Type 0 where
  pub outs : (q : ℕ) → q < count → nat_eq (slice_index t.outs q) 1 ≡ nat_eq (slice_index u.outs q) 1
  pub targets : (q l : ℕ) → q < count → l < letters t → slice_index t.rows (q * letters t + l) ≡ slice_index u.rows (q * letters u + l)
  pub back : x ≡ y

read_lines : (t u : Table) → IsDiagram t → IsDiagram u → letters t ≡ letters u → SmallRows t → SmallRows u → (count : ℕ) → count ≤ ints t → count ≤ ints u → (x y : List ℕ) → texts_upto (int_line t) count ++ x ≡ texts_upto (int_line u) count ++ y → SameLines t u count x y
read_lines t u dt du widths st su zero ht hu x y e = record { outs = λ q h. absurd (omega (arith, h)); targets = λ q l h k. absurd (omega (arith, h)); back = e }
read_lines t u dt du widths st su (suc count) ht hu x y e =
    let first = read_lines t u dt du widths st su count (omega (arith, ht)) (omega (arith, hu)) (int_line t count ++ x) (int_line u count ++ y)
    (sym (append_assoc (texts_upto (int_line t) count) (int_line t count) x) ∙ e ∙ append_assoc (texts_upto (int_line u) count) (int_line u count) y) in
    let last = read_line t u dt du widths st su count ht hu x y first.back in
    record {
      outs = λ q h. elim (cases_lt q count) [ inl before ↦ first.outs q before | inr at_end ↦ subst (λ k. nat_eq (slice_index t.outs k) 1 ≡ nat_eq (slice_index u.outs k) 1) (same q count h at_end) last.out ];
      targets = λ q l h k. elim (cases_lt q count) [ inl before ↦ first.targets q l before k | inr at_end ↦ subst (λ n. slice_index t.rows (n * letters t + l) ≡ slice_index u.rows (n * letters u + l)) (same q count h at_end) (last.targets l k) ];
      back = last.back;
    }
  where
    same : (i n : ℕ) → i < suc n → n ≤ i → n ≡ i
    same i n h k = omega (arith, h, k)

-- the counts of a diagram, in front of anything
record SameCounts (t u : Table) (x y : List ℕ) : Type 0 where
  pub states : ints t ≡ ints u
  pub roots : (sign : ℕ) → sign < 2 ^ t.tracks → slice_index t.roots sign ≡ slice_index u.roots sign
  pub back : x ≡ y

few_states : (t : Table) → IsTable t → ints t ≤ 16777216
few_states t h = at_most (length t.outs) (length t.colours) (letters t) h.shape.few_cells
  where
    at_most : (i f w : ℕ) → (i + f) * (w + 1) ≤ 16777216 → i ≤ 16777216
    at_most i f w h = grind arith

join_counts : (n r x : List ℕ) → (codes "int" ++ (n ++ codes "\n")) ++ ([] ++ (codes "roots" ++ (r ++ codes "\n"))) ++ x ≡ codes "int" ++ (n ++ (codes "\nroots" ++ (r ++ (codes "\n" ++ x))))
join_counts n r x = simp append_assoc

diagram_counts : (t : Table) → IsDiagram t → (x : List ℕ) → counts t ++ x ≡ codes "int" ++ (number_text (ints t) ++ (codes "\nroots" ++ (roots_text t ++ (codes "\n" ++ x))))
unfolding counts
diagram_counts t d x = ap (λ (cs : List ℕ). (number_line (codes "int") (ints t) ++ (fracs_line (length cs) ++ line (codes "roots") (roots_text t))) ++ x) d ∙ join_counts (number_text (ints t)) (roots_text t) x

SmallRoots : Table → Type 0
SmallRoots t = (sign : ℕ) → sign < 2 ^ t.tracks → slice_index t.roots sign < 2 ^ 64

read_counts : (t u : Table) → IsTable t → IsTable u → IsDiagram t → IsDiagram u → t.tracks ≡ u.tracks → SmallRoots t → SmallRoots u → (x y : List ℕ) → counts t ++ x ≡ counts u ++ y → SameCounts t u x y
unfolding SmallRoots Stops
read_counts t u ht hu dt du tracks rt ru x y e =
    let behind : number_text (ints t) ++ (codes "\nroots" ++ (roots_text t ++ (codes "\n" ++ x))) ≡ number_text (ints u) ++ (codes "\nroots" ++ (roots_text u ++ (codes "\n" ++ y))) =
    append_cancel_left (codes "int") (number_text (ints t) ++ (codes "\nroots" ++ (roots_text t ++ (codes "\n" ++ x)))) (number_text (ints u) ++ (codes "\nroots" ++ (roots_text u ++ (codes "\n" ++ y)))) (sym (diagram_counts t dt x) ∙ e ∙ diagram_counts u du y) in
    let n = read_number (ints t) (ints u) (codes "\nroots" ++ (roots_text t ++ (codes "\n" ++ x))) (codes "\nroots" ++ (roots_text u ++ (codes "\n" ++ y))) (omega (arith, few_states t ht)) (omega (arith, few_states u hu)) (omega arith) (omega arith) behind in
    let r = read_numbers (slice_index t.roots) (slice_index u.roots) (2 ^ t.tracks) (codes "\n" ++ x) (codes "\n" ++ y) rt (λ sign h. ru sign (subst (λ k. sign < 2 ^ k) tracks h)) (omega arith) (omega arith)
    (append_cancel_left (codes "\nroots") (roots_text t ++ (codes "\n" ++ x)) (roots_text u ++ (codes "\n" ++ y)) n.back ∙ ap (λ k. texts_upto (λ sign. number_text (slice_index u.roots sign)) (2 ^ k) ++ (codes "\n" ++ y)) (sym tracks)) in
    record { states = n.number; roots = r.numbers; back = append_cancel_left (codes "\n") x y r.back }

small_rows : (t : Table) → IsTable t → SmallRows t
unfolding SmallRows
small_rows t h q l q_in l_in = omega (arith, few_states t h, read_below t.rows (length t.outs) (q * letters t + l) h.rows_in (subst (λ n. q * letters t + l < n) (sym h.rows_count) (place_within q (length t.outs) (letters t) l q_in l_in)))

small_roots : (t : Table) → IsTable t → SmallRoots t
unfolding SmallRoots
small_roots t h sign lt = omega (arith, few_states t h, read_below t.roots (length t.outs) sign h.roots_in (subst (λ n. sign < n) (sym h.roots_count) lt))

-- two diagrams of one base and number of tracks that have one text are equal
pub texts_tell : (vs : List (List ℕ × Sort)) (t u : Table) → IsTable t → IsTable u → IsDiagram t → IsDiagram u → t.base ≡ u.base → t.tracks ≡ u.tracks → text_of vs t ≡ text_of vs u → t ≡ u
unfolding text_of
texts_tell vs t u ht hu dt du base tracks e =
    let rest : Table → List ℕ = λ v. texts_upto (int_line v) (ints v) ++ (texts_upto (frac_line v) (fracs v) ++ codes "end\n") in
    let widths : letters t ≡ letters u = ap (λ b. b ^ t.tracks) base ∙ ap (λ n. u.base ^ n) tracks in
    let behind : counts t ++ rest t ≡ counts u ++ rest u = append_cancel_left (heading t.base vs) (counts t ++ rest t) (counts u ++ rest u) (e ∙ ap (λ b. heading b vs ++ (counts u ++ rest u)) (sym base)) in
    let c = read_counts t u ht hu dt du tracks (small_roots t ht) (small_roots u hu) (rest t) (rest u) behind in
    let l = read_lines t u dt du widths (small_rows t ht) (small_rows u hu) (ints t) (omega arith) (omega (arith, c.states)) (texts_upto (frac_line t) (fracs t) ++ codes "end\n") (texts_upto (frac_line u) (fracs u) ++ codes "end\n")
    (c.back ∙ ap (λ n. texts_upto (int_line u) n ++ (texts_upto (frac_line u) (fracs u) ++ codes "end\n")) (sym c.states)) in
    same_table t u base tracks
    (same_lists t.roots u.roots (ht.roots_count ∙ ap (λ n. 2 ^ n) tracks ∙ sym hu.roots_count) (λ i lt. c.roots i (subst (λ n. i < n) ht.roots_count lt)))
    (same_rows t.rows u.rows (length t.outs) (letters t) ht.rows_count (hu.rows_count ∙ ap (λ n. n * letters u) (sym c.states) ∙ ap (λ w. length t.outs * w) (sym widths)) (λ q k q_in k_in. l.targets q k q_in k_in ∙ ap (λ w. slice_index u.rows (q * w + k)) (sym widths)))
    (same_lists t.outs u.outs c.states (λ q lt. same_truth (slice_index t.outs q) (slice_index u.outs q) (out_below t ht dt q lt) (out_below u hu du q (subst (λ n. q < n) c.states lt)) (l.outs q lt)))
    (no_frac_rows t ht dt ∙ sym (no_frac_rows u hu du))
    (dt ∙ sym du)
