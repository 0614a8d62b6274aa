-- The text of a table with fraction states is read in one way.
use Rattle.std.proofs.Common.{◌≡◌, ℕ, zero, suc, ◌+◌, ◌*◌, ◌^◌, ◌≤◌, ◌<◌}
use Rattle.std.proofs.Common.{List, [], ◌++◌, codes, length, arith, ◌∙◌, sym, ap, subst, append_assoc}
use Rattle.std.specs.Prelude.{slice_index, nat_eq, if◌then◌else◌}
use Rattle.std.specs.Fmt.{decimal}
use Rattle.std.proofs.lemmas.List.{append_cancel_left}
use Rattle.std.proofs.lemmas.Bool.{cases_lt}
use mathlib.Core.Logic.{inl, inr}
use Rattle.lash_model.specs.Formulas.{Sort}
use Rattle.lash_model.specs.Tables.{Table, letters, ints, fracs, IsTable}
use Rattle.automaton_texts.specs.Text.{texts_upto, number_text, answer_text, line, number_line, out_text, targets_text, int_line, frac_line, heading, roots_text, counts, text_of}
use Rattle.canonical_laws.proofs.Diagrams.{same_lists, same_rows, same_table, same_truth}
use Rattle.part_laws.proofs.TableMatching.{same_width}
use Rattle.part_laws.proofs.LassoWords.{fraction_is_graph, row_in, root_in, out_in}
use Rattle.automaton_texts.proofs.TextReading.{Stops, read_number, stops_number, read_numbers, read_answer, join_line}

-- numbers in front of what does not begin with a digit do not begin with one
stops_numbers : (f : ℕ → ℕ) (count : ℕ) (x : List ℕ) → Stops x → Stops (texts_upto (λ i. number_text (f i)) count ++ x)
stops_numbers f zero x h = h
stops_numbers f (suc count) x h = subst Stops (sym (append_assoc (texts_upto (λ i. number_text (f i)) count) (number_text (f count)) x))
    (stops_numbers f count (number_text (f count) ++ x) (stops_number (f count) x))

-- ---- lines of states, each with something of its own in front of its targets
line_of : (ℕ → List ℕ) → List ℕ → ℕ → ℕ → List ℕ
line_of head rows width q = decimal q ++ (head q ++ (targets_text rows width q ++ codes "\n"))

record SameHead (R : Type 0) (x y : List ℕ) : Type 0 where
  pub head : R
  pub back : x ≡ y

record SameLines (R : ℕ → Type 0) (xs ys : List ℕ) (width count : ℕ) (x y : List ℕ) : Type 0 where
  pub heads : (q : ℕ) → q < count → R q
  pub targets : (q l : ℕ) → q < count → l < width → slice_index xs (q * width + l) ≡ slice_index ys (q * width + l)
  pub back : x ≡ y

-- two tables' lines, of so many states
record AreLines (R : ℕ → Type 0) (f g : ℕ → List ℕ) (xs ys : List ℕ) (width states : ℕ) : Type 0 where
  pub reads : (q : ℕ) (x y : List ℕ) → q < states → Stops x → Stops y → f q ++ x ≡ g q ++ y → SameHead (R q) x y
  pub small : (q l : ℕ) → q < states → l < width → slice_index xs (q * width + l) < 2 ^ 64
  pub other_small : (q l : ℕ) → q < states → l < width → slice_index ys (q * width + l) < 2 ^ 64

-- one line
record SameLine (R : Type 0) (xs ys : List ℕ) (width q : ℕ) (x y : List ℕ) : Type 0 where
  pub head : R
  pub targets : (l : ℕ) → l < width → slice_index xs (q * width + l) ≡ slice_index ys (q * width + l)
  pub back : x ≡ y

read_line : (R : ℕ → Type 0) (f g : ℕ → List ℕ) (xs ys : List ℕ) (width states : ℕ) → AreLines R f g xs ys width states → (q : ℕ) → q < states → (x y : List ℕ)
    → line_of f xs width q ++ x ≡ line_of g ys width q ++ y → SameLine (R q) xs ys width q x y
unfolding line_of Stops
read_line R f g xs ys width states h q lt x y e =
    let tail_t : List ℕ = targets_text xs width q ++ (codes "\n" ++ x) in
    let tail_u : List ℕ = targets_text ys width q ++ (codes "\n" ++ y) in
    let behind : f q ++ tail_t ≡ g q ++ tail_u =
    append_cancel_left (decimal q) (f q ++ tail_t) (g q ++ tail_u)
    (sym (join_line (decimal q) (f q) (targets_text xs width q) x) ∙ e ∙ join_line (decimal q) (g q) (targets_text ys width q) y) in
    let a : SameHead (R q) tail_t tail_u = h.reads q tail_t tail_u lt
    (stops_numbers (λ l. slice_index xs (q * width + l)) width (codes "\n" ++ x) (omega arith))
    (stops_numbers (λ l. slice_index ys (q * width + l)) width (codes "\n" ++ y) (omega arith)) behind in
    let r = read_numbers (λ l. slice_index xs (q * width + l)) (λ l. slice_index ys (q * width + l)) width (codes "\n" ++ x) (codes "\n" ++ y)
    (λ l k. h.small q l lt k) (λ l k. h.other_small q l lt k) (omega arith) (omega arith) a.back in
    record { head = a.head; targets = r.numbers; back = append_cancel_left (codes "\n") x y r.back }

read_lines : (R : ℕ → Type 0) (f g : ℕ → List ℕ) (xs ys : List ℕ) (width states : ℕ) → AreLines R f g xs ys width states → (count : ℕ) → count ≤ states
    → (x y : List ℕ)
    → texts_upto (line_of f xs width) count ++ x ≡ texts_upto (line_of g ys width) count ++ y → SameLines R xs ys width count x y
read_lines R f g xs ys width states h zero within x y e =
    record { heads = λ q k. absurd (omega (arith, k)); targets = λ q l k m. absurd (omega (arith, k)); back = e }
read_lines R f g xs ys width states h (suc count) within x y e =
    let first = read_lines R f g xs ys width states h count (omega (arith, within)) (line_of f xs width count ++ x) (line_of g ys width count ++ y)
    (sym (append_assoc (texts_upto (line_of f xs width) count) (line_of f xs width count) x) ∙ e
    ∙ append_assoc (texts_upto (line_of g ys width) count) (line_of g ys width count) y) in
    let last = read_line R f g xs ys width states h count (omega (arith, within)) x y first.back in
    record {
      heads = λ q k. elim (cases_lt q count) [ inl before ↦ first.heads q before | inr at_end ↦ subst R (same q count k at_end) last.head ];
      targets = λ q l k m. elim (cases_lt q count) [
        | inl before ↦ first.targets q l before m
        | inr at_end ↦ subst (λ n. slice_index xs (n * width + l) ≡ slice_index ys (n * width + l))
            (same q count k at_end) (last.targets l m)
      ];
      back = last.back;
    }
  where
    same : (i n : ℕ) → i < suc n → n ≤ i → n ≡ i
    same i n h k = omega (arith, h, k)

-- ---- a table with fraction states
chosen : (n : ℕ) (a b : List ℕ) → 0 < n → (if nat_eq n 0 then a else b) ≡ b
chosen n a b h = grind arith

few_states : (t : Table) → IsTable t → ints t + fracs t ≤ 16777216
few_states t h = at_most (length t.outs + length t.colours) (letters t) h.shape.few_cells
  where
    at_most : (n w : ℕ) → n * (w + 1) ≤ 16777216 → n ≤ 16777216
    at_most n w h = grind arith

-- the counts, in front of anything
record SameCounts (t u : Table) (x y : List ℕ) : Type 0 where
  pub states : ints t ≡ ints u
  pub fraction_states : fracs t ≡ fracs u
  pub roots : (sign : ℕ) → sign < 2 ^ t.tracks → slice_index t.roots sign ≡ slice_index u.roots sign
  pub back : x ≡ y

join_counts : (n m r x : List ℕ) → (codes "int" ++ (n ++ codes "\n")) ++
    ((codes "frac" ++ (m ++ codes "\n")) ++ (codes "roots" ++ (r ++ codes "\n"))) ++ x ≡ codes "int" ++
    (n ++ (codes "\nfrac" ++ (m ++ (codes "\nroots" ++ (r ++ (codes "\n" ++ x))))))
join_counts n m r x = simp append_assoc

behind_fracs : Table → List ℕ → List ℕ
behind_fracs t x = codes "\nroots" ++ (roots_text t ++ (codes "\n" ++ x))

behind_ints : Table → List ℕ → List ℕ
behind_ints t x = codes "\nfrac" ++ (number_text (fracs t) ++ behind_fracs t x)

mixed_counts : (t : Table) → 0 < fracs t → (x : List ℕ) → counts t ++ x ≡ codes "int" ++ (number_text (ints t) ++ behind_ints t x)
unfolding counts behind_ints behind_fracs
mixed_counts t some x = ap (λ (fs : List ℕ). (number_line (codes "int") (ints t) ++ (fs ++ line (codes "roots") (roots_text t))) ++ x)
    (chosen (fracs t) [] (number_line (codes "frac") (fracs t)) some)
    ∙ join_counts (number_text (ints t)) (number_text (fracs t)) (roots_text t) x

read_counts : (t u : Table) → IsTable t → IsTable u → 0 < fracs t → 0 < fracs u → t.tracks ≡ u.tracks → (x y : List ℕ) → counts t ++ x ≡ counts u ++ y
    → SameCounts t u x y
unfolding Stops behind_ints behind_fracs
read_counts t u ht hu some_t some_u tracks x y e =
    let behind : number_text (ints t) ++ behind_ints t x ≡ number_text (ints u) ++ behind_ints u y =
    append_cancel_left (codes "int") (number_text (ints t) ++ behind_ints t x) (number_text (ints u) ++ behind_ints u y)
    (sym (mixed_counts t some_t x) ∙ e ∙ mixed_counts u some_u y) in
    let n = read_number (ints t) (ints u) (behind_ints t x) (behind_ints u y) (omega (arith, few_states t ht)) (omega (arith, few_states u hu))
    (omega arith) (omega arith) behind in
    let m = read_number (fracs t) (fracs u) (behind_fracs t x) (behind_fracs u y) (omega (arith, few_states t ht)) (omega (arith, few_states u hu))
    (omega arith) (omega arith)
    (append_cancel_left (codes "\nfrac") (number_text (fracs t) ++ behind_fracs t x) (number_text (fracs u) ++ behind_fracs u y) n.back) in
    let r = read_numbers (slice_index t.roots) (slice_index u.roots) (2 ^ t.tracks) (codes "\n" ++ x) (codes "\n" ++ y)
    (λ sign h. omega (arith, few_states t ht, root_in t ht sign h))
    (λ sign h. omega (arith, few_states u hu, root_in u hu sign (subst (λ k. sign < 2 ^ k) tracks h))) (omega arith) (omega arith)
    (append_cancel_left (codes "\nroots") (roots_text t ++ (codes "\n" ++ x)) (roots_text u ++ (codes "\n" ++ y)) m.back
    ∙ ap (λ k. texts_upto (λ sign. number_text (slice_index u.roots sign)) (2 ^ k) ++ (codes "\n" ++ y)) (sym tracks)) in
    record { states = n.number; fraction_states = m.number; roots = r.numbers; back = append_cancel_left (codes "\n") x y r.back }

-- ---- both kinds of lines
out_head : Table → ℕ → List ℕ
out_head t q = out_text t (slice_index t.outs q)

colour_head : Table → ℕ → List ℕ
colour_head t q = answer_text (nat_eq (slice_index t.colours q) 1)

out_is : (t : Table) → 0 < fracs t → (q : ℕ) → out_head t q ≡ number_text (slice_index t.outs q)
unfolding out_head
out_is t some q = chosen (fracs t) (answer_text (nat_eq (slice_index t.outs q) 1)) (number_text (slice_index t.outs q)) some

int_lines : (t u : Table) → IsTable t → IsTable u → 0 < fracs t → 0 < fracs u → letters t ≡ letters u → ints t ≡ ints u
    → AreLines (λ q. slice_index t.outs q ≡ slice_index u.outs q) (out_head t) (out_head u) t.rows u.rows (letters t) (ints t)
int_lines t u ht hu some_t some_u widths states = record {
  reads = λ q x y lt sx sy e. let r = read_number (slice_index t.outs q) (slice_index u.outs q) x y
      (omega (arith, few_states t ht, out_in t ht some_t q lt))
      (omega (arith, few_states u hu, out_in u hu some_u q (subst (λ n. q < n) states lt)))
      sx sy (ap (λ z. z ++ x) (sym (out_is t some_t q)) ∙ e ∙ ap (λ z. z ++ y) (out_is u some_u q)) in
      record { head = r.number; back = r.back };
  small = λ q l lt l_in. omega (arith, few_states t ht, row_in t ht q l lt l_in);
  other_small = λ q l lt l_in. subst (λ w. slice_index u.rows (q * w + l) < 2 ^ 64) (sym widths)
      (small q l (subst (λ n. q < n) states lt) (subst (λ w. l < w) widths l_in));
}
  where
    small : (q l : ℕ) → q < ints u → l < letters u → slice_index u.rows (q * letters u + l) < 2 ^ 64
    small q l lt l_in = omega (arith, few_states u hu, row_in u hu q l lt l_in)

frac_lines : (t u : Table) → IsTable t → IsTable u → letters t ≡ letters u → fracs t ≡ fracs u
    → AreLines (λ q. nat_eq (slice_index t.colours q) 1 ≡ nat_eq (slice_index u.colours q) 1) (colour_head t) (colour_head u) t.frac_rows u.frac_rows
    (letters t) (fracs t)
unfolding colour_head
frac_lines t u ht hu widths states = record {
  reads = λ q x y lt sx sy e. let r = read_answer (nat_eq (slice_index t.colours q) 1) (nat_eq (slice_index u.colours q) 1) x y e in
      record { head = r.answer; back = r.back };
  small = λ q l lt l_in. omega (arith, few_states t ht, (fraction_is_graph t ht).rows_in q l lt l_in);
  other_small = λ q l lt l_in. subst (λ w. slice_index u.frac_rows (q * w + l) < 2 ^ 64) (sym widths)
      (small q l (subst (λ n. q < n) states lt) (subst (λ w. l < w) widths l_in));
}
  where
    small : (q l : ℕ) → q < fracs u → l < letters u → slice_index u.frac_rows (q * letters u + l) < 2 ^ 64
    small q l lt l_in = omega (arith, few_states u hu, (fraction_is_graph u hu).rows_in q l lt l_in)

-- what comes after the lines of the integer states
ending_text : Table → List ℕ
ending_text t = texts_upto (frac_line t) (fracs t) ++ codes "end\n"

-- two tables with fraction states, of one base and number of tracks, that have one text are equal
pub mixed_texts_tell : (vs : List (List ℕ × Sort)) (t u : Table) → IsTable t → IsTable u → 0 < fracs t → 0 < fracs u → t.base ≡ u.base → t.tracks ≡ u.tracks
    → text_of vs t ≡ text_of vs u → t ≡ u
unfolding text_of out_head colour_head line_of ending_text
mixed_texts_tell vs t u ht hu some_t some_u base tracks e =
    let rest : Table → List ℕ = λ v. texts_upto (int_line v) (ints v) ++ ending_text v in
    let widths : letters t ≡ letters u = same_width t u base tracks in
    let behind : counts t ++ rest t ≡ counts u ++ rest u =
    append_cancel_left (heading t.base vs) (counts t ++ rest t) (counts u ++ rest u) (e ∙ ap (λ b. heading b vs ++ (counts u ++ rest u)) (sym base)) in
    let c = read_counts t u ht hu some_t some_u tracks (rest t) (rest u) behind in
    let l = read_lines (λ q. slice_index t.outs q ≡ slice_index u.outs q) (out_head t) (out_head u) t.rows u.rows (letters t) (ints t)
    (int_lines t u ht hu some_t some_u widths c.states) (ints t) (omega arith) (ending_text t) (ending_text u)
    (c.back ∙ ap (λ n. texts_upto (int_line u) n ++ ending_text u) (sym c.states)
    ∙ ap (λ w. texts_upto (line_of (out_head u) u.rows w) (ints t) ++ ending_text u) (sym widths)) in
    let f = read_lines (λ q. nat_eq (slice_index t.colours q) 1 ≡ nat_eq (slice_index u.colours q) 1) (colour_head t)
    (colour_head u) t.frac_rows u.frac_rows (letters t) (fracs t) (frac_lines t u ht hu widths c.fraction_states) (fracs t) (omega arith)
    (codes "end\n") (codes "end\n")
    (l.back ∙ ap (λ n. texts_upto (frac_line u) n ++ codes "end\n") (sym c.fraction_states)
    ∙ ap (λ w. texts_upto (line_of (colour_head u) u.frac_rows w) (fracs t) ++ codes "end\n") (sym widths)) in
    same_table t u base tracks
    (same_lists t.roots u.roots (ht.roots_count ∙ ap (λ n. 2 ^ n) tracks ∙ sym hu.roots_count) (λ i lt. c.roots i (subst (λ n. i < n) ht.roots_count lt)))
    (same_rows t.rows u.rows (length t.outs) (letters t) ht.rows_count
    (hu.rows_count ∙ ap (λ n. n * letters u) (sym c.states) ∙ ap (λ w. length t.outs * w) (sym widths)) l.targets)
    (same_lists t.outs u.outs c.states l.heads)
    (same_rows t.frac_rows u.frac_rows (length t.colours) (letters t) ht.frac_rows_count
    (hu.frac_rows_count ∙ ap (λ n. n * letters u) (sym c.fraction_states) ∙ ap (λ w. length t.colours * w) (sym widths)) f.targets)
    (same_lists t.colours u.colours c.fraction_states
    (λ q lt. same_truth (slice_index t.colours q) (slice_index u.colours q) ((fraction_is_graph t ht).colours_in q lt)
    ((fraction_is_graph u hu).colours_in q (subst (λ n. q < n) c.fraction_states lt)) (f.heads q lt)))
